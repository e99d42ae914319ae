-- Meaning: the limits of the lines of a books file, and what each version prints (docs/FORMATS.md, "Books file").
use Rattle.std.specs.Prelude.{◌≡◌, ℕ, ◌^◌, ◌<◌, ◌≤◌, true, Option, Some, None}
use Rattle.rx_fields.specs.declared.limits.TheConstants.{MOST_AUTHORIZATION, MOST_QUANTITY, MOST_REFERENCE}
use Rattle.rx_fields.specs.Calendar.{IsCivil}
use Rattle.rx_fields.specs.Numbered.{Span, is_span}
use Rattle.rx_fields.specs.Text.{IsId}
use Rattle.rx_d0_values.specs.Priced.{IsPriced}
use Rattle.rx_ledger.specs.declared.row.Row.{Row}
use Rattle.rx_books_text.specs.declared.line.Line.{Line}
use Rattle.rx_books_text.specs.declared.line.Line.TheVariants as line
use Rattle.rx_books_text.specs.declared.line.MemberLine.{MemberLine}
use Rattle.rx_books_text.specs.declared.line.TotalLine.{TotalLine}
use Rattle.rx_books_text.specs.declared.version.Version.{Version}
use Rattle.rx_books_text.specs.declared.version.Version.TheVariants.{One, Two, Three}

-- at most twenty digits
abbrev pub IsShort : ℕ → Type 0
IsShort n = n < 10 ^ 20

-- two dates that exist, the first not after the last
pub record IsPeriod (p : Span) : Type 0 where
  pub first : IsCivil p.first
  pub last : IsCivil p.last
  pub in_order : is_span p ≡ true

pub record IsMemberLine (m : MemberLine) : Type 0 where
  pub family : IsId 20 m.member.key.family
  pub person : IsId 3 m.member.key.person
  pub coverage : IsPeriod m.member.coverage
  pub deductible : IsShort m.deductible

-- a coinsurance other than 0 is printed from version 2 on
abbrev pub PrintsCoinsurance : Version → ℕ → Type 0
PrintsCoinsurance One n = n ≡ 0
PrintsCoinsurance Two n = Unit {0}
PrintsCoinsurance Three n = Unit {0}

pub record IsClaimLine (v : Version) (r : Row) : Type 0 where
  pub provider : IsId 15 r.key.provider
  pub reference : r.key.reference ≤ MOST_REFERENCE
  pub date : IsCivil r.key.date
  pub family : IsId 20 r.family
  pub person : IsId 3 r.person
  pub product : r.product < 10 ^ 11
  pub quantity : (1 ≤ r.quantity) × (r.quantity ≤ MOST_QUANTITY)
  pub days : (1 ≤ r.days) × (r.days ≤ 999)
  pub pricing : IsPriced r.pricing
  pub coinsurance : PrintsCoinsurance v r.pricing.coinsurance
  pub number : r.number ≤ MOST_AUTHORIZATION

-- the family's deductible is printed in version 3, and only there
abbrev pub PrintsDeductible : Version → Option ℕ → Type 0
PrintsDeductible One o = o ≡ None
PrintsDeductible Two o = o ≡ None
PrintsDeductible Three None = ⊥
PrintsDeductible Three (Some n) = IsShort n

pub record IsTotalLine (v : Version) (t : TotalLine) : Type 0 where
  pub family : IsId 20 t.family
  pub out_of_pocket : IsShort t.out_of_pocket
  pub deductible : PrintsDeductible v t.deductible

-- a line within the limits, which the version can print
abbrev pub IsLine : Version → Line → Type 0
IsLine v (line.Member m) = IsMemberLine m
IsLine v (line.Claim r) = IsClaimLine v r
IsLine v (line.Total t) = IsTotalLine v t
