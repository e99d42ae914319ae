-- Meaning: the limits that replies keep.
use Rattle.std.specs.Prelude.{◌≡◌, ◌≤◌, ℕ, true, List, length, IfSome}
use Rattle.std.specs.List.{AllByRecursion}
use Rattle.rx_fields.specs.declared.limits.TheConstants.{MOST_AUTHORIZATION, MOST_CENTS, MOST_REFERENCE}
use Rattle.rx_fields.specs.declared.code.Code.{Code}
use Rattle.rx_d0_values.specs.declared.echo.EchoParts.{EchoParts}
use Rattle.rx_d0_values.specs.declared.reply.Answer.{Answer}
use Rattle.rx_d0_values.specs.declared.reply.Answer.TheVariants as answer
use Rattle.rx_d0_values.specs.declared.reply.Approved.{Approved}
use Rattle.rx_d0_values.specs.declared.reply.Outcome.{Outcome}
use Rattle.rx_d0_values.specs.declared.reply.Outcome.TheVariants as outcome
use Rattle.rx_d0_values.specs.declared.reply.Paid.{Paid}
use Rattle.rx_d0_values.specs.declared.reply.Refused.{Refused}
use Rattle.rx_d0_values.specs.declared.reply.Reply.{Reply}
use Rattle.rx_d0_values.specs.Echoed.{IsEcho}
use Rattle.rx_d0_values.specs.Listed.{is_few}
use Rattle.rx_d0_values.specs.Priced.{IsPriced}

-- printable bytes, as many as each field of the header has
pub record IsHeader (e : EchoParts) : Type 0 where
  pub version : length e.version ≡ 2
  pub code : length e.code ≡ 2
  pub qualifier : length e.qualifier ≡ 2
  pub provider : length e.provider ≡ 15
  pub date : length e.date ≡ 8
  pub printable : IsEcho e

-- fifteen digits
abbrev pub IsNumber : ℕ → Type 0
IsNumber n = n ≤ MOST_AUTHORIZATION

-- twelve digits
abbrev pub IsReference : ℕ → Type 0
IsReference n = n ≤ MOST_REFERENCE

-- 1 to 5 codes
pub record AreCodes (codes : List Code) : Type 0 where
  pub some : 1 ≤ length codes
  pub few : length codes ≤ 5

pub record IsPaid (p : Paid) : Type 0 where
  pub number : IsNumber p.number
  pub reference : IsReference p.reference
  pub pricing : IsPriced p.pricing

pub record IsApproved (a : Approved) : Type 0 where
  pub number : IsNumber a.number
  pub reference : IsReference a.reference
  pub total_paid : a.total_paid ≤ MOST_CENTS

pub record IsRefused (r : Refused) : Type 0 where
  pub codes : AreCodes r.codes
  pub reference : IfSome r.reference IsReference

abbrev pub IsAnswer : Answer → Type 0
IsAnswer (answer.Paid p) = IsPaid p
IsAnswer (answer.Twice p) = IsPaid p
IsAnswer (answer.Approved a) = IsApproved a
IsAnswer (answer.Refused r) = IsRefused r

-- 1 to 4 answers
abbrev pub IsOutcome : Outcome → Type 0
IsOutcome (outcome.Rejected r) = (is_few r.groups ≡ true) × AreCodes r.codes
IsOutcome (outcome.Heard answers) = (is_few (length answers) ≡ true) × AllByRecursion IsAnswer answers

-- a reply within the limits
pub record IsReply (r : Reply) : Type 0 where
  pub echo : IsHeader r.echo
  pub outcome : IsOutcome r.outcome
