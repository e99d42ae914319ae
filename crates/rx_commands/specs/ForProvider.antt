-- Meaning: what `explain` prints for a pharmacy: only its own transactions, as it may see them.
use Rattle.std.specs.Prelude.{◌≡◌, ℕ, Bool, true, false, if◌then◌else◌, List, [], Option, Some, None, Result, Ok, Err}
use Rattle.std.specs.List.{AllZip}
use Rattle.rx_d0_values.specs.declared.transmission.Transmission.{Transmission}
use Rattle.rx_explain.specs.Seen.{IsSeen}
use Rattle.rx_explain.specs.Spots.{item}
use Rattle.rx_explain.specs.declared.at.At.{At}
use Rattle.rx_explain.specs.declared.explanation.Explanation.{Explanation}
use Rattle.rx_explain.specs.declared.finding.Query.{Query}
use Rattle.rx_explain_text.specs.Absent.{absent_for}
use Rattle.rx_fields.specs.Text.{id_of}
use Rattle.rx_fields.specs.declared.fault.IdFault.{IdFault}
use Rattle.rx_ledger.specs.Members.{is_same}
use Rattle.rx_commands.specs.Explaining.{PrintsWith, place_asked}
use Rattle.rx_commands.specs.Retraced.{IsRetraced}
use Rattle.rx_commands.specs.declared.manner.Manner.{Manner}
use Rattle.rx_commands.specs.declared.printed.Outcome.{Outcome}
use Rattle.rx_commands.specs.declared.printed.Outcome.TheVariants as outcome
use Rattle.rx_commands.specs.declared.printed.Printed.{Printed}
use Rattle.rx_commands.specs.declared.retraced.Retraced.{Retraced}

-- ---- explanations

-- of an own transaction what the pharmacy may see, of another's nothing
abbrev pub IsSeenIf : Bool → Explanation → Option Explanation → Type 0
IsSeenIf true x None = ⊥
IsSeenIf true x (Some y) = IsSeen x y
IsSeenIf false x y = y ≡ None

abbrev pub IsSeenBy : List ℕ → Option Explanation → Option Explanation → Type 0
IsSeenBy provider None y = y ≡ None
IsSeenBy provider (Some x) y = IsSeenIf (is_same x.provider provider) x y

-- ---- records

-- the id, if there is one, is the pharmacy's
abbrev pub is_id_of : List ℕ → Result (List ℕ) IdFault → Bool
is_id_of provider (Ok id) = is_same id provider
is_id_of provider (Err f) = false

-- the record's header names the pharmacy
abbrev pub is_own_in : List ℕ → Option Transmission → Bool
is_own_in provider None = false
is_own_in provider (Some t) = is_id_of provider (id_of 15 t.echo.provider)

-- where a place is asked for at which another's record stands, or none, no record is looked at
abbrev pub own_asked : List ℕ → Option At → List Transmission → List Transmission
own_asked provider None asked = asked
own_asked provider (Some at) asked = if is_own_in provider (item asked at.place) then asked else []

-- ---- the command

-- a batch that was replayed, as far as the pharmacy may see it
pub record IsSeenRetraced (provider : List ℕ) (w : Query) (r s : Retraced) : Type 0 where
  pub lot_is : s.lot ≡ r.lot
  pub figures_are : s.figures ≡ r.figures
  pub tiers_are : s.tiers ≡ r.tiers
  pub details_are : s.details ≡ r.details
  pub asked_are : s.asked.items ≡ own_asked provider (place_asked w) r.asked.items
  pub replies_are : s.replies.items ≡ r.replies.items
  pub explanations_are : AllZip (IsSeenBy provider) r.explanations.items s.explanations.items
  pub near_are : s.near.items ≡ []

-- where nothing is found, the line names the pharmacy and nothing of others
abbrev pub text_by : Outcome → Query → List ℕ → List ℕ → List ℕ
text_by outcome.NotFound w provider text = absent_for w provider
text_by outcome.Done w provider text = text
text_by outcome.Differs w provider text = text

pub record IsWorded (provider : List ℕ) (w : Query) (whole p : Printed) : Type 0 where
  pub outcome_is : p.outcome ≡ whole.outcome
  pub text_is : p.text.items ≡ text_by whole.outcome w provider whole.text.items

-- what `explain` prints of the batch as far as the pharmacy may see it
pub record PrintsSeen (r : Retraced) (provider : List ℕ) (w : Query) (response : Option (List ℕ)) (m : Manner) (p : Printed)
    : Type 0 where
  pub seen : Retraced
  pub seen_is : IsSeenRetraced provider w r seen
  pub whole : Printed
  pub printed : PrintsWith seen w response m whole
  pub worded : IsWorded provider w whole p

-- the same of sheet, books and batch, which are accepted
pub record PrintsFor (sheet books batch provider : List ℕ) (w : Query) (response : Option (List ℕ)) (m : Manner) (p : Printed)
    : Type 0 where
  pub retraced : Retraced
  pub retraced_is : IsRetraced sheet books batch w retraced
  pub printed : PrintsSeen retraced provider w response m p
