-- Meaning: what the words of `explain` and `report` ask for. Words that aren't such numbers or ids ask for nothing: no record is at place 0.
use Rattle.std.specs.Prelude.{◌≡◌, ℕ, List, ◌∷◌, ◌++◌, ◌⊎◌, Option, Some, None, Result, Ok, Err}
use Rattle.std.specs.Str.Parse.{IsNumeral, digits_value}
use Rattle.rx_fields.specs.Clock.{stamp_of}
use Rattle.rx_fields.specs.Text.{id_of, trimmed}
use Rattle.rx_fields.specs.declared.stamp.Stamp.{Stamp}
use Rattle.rx_explain.specs.declared.finding.Query.{Query}
use Rattle.rx_explain.specs.declared.finding.Query.TheVariants as query
use Rattle.rx_report.specs.declared.portion.Portion.{Portion}
use Rattle.rx_report.specs.declared.portion.Portion.TheVariants as portion
use Rattle.rx_switch.specs.declared.fault.SwitchFault.{SwitchFault}
use Rattle.rx_switch.specs.declared.fault.SwitchFault.TheVariants as fault

-- the number, in digits only
abbrev pub IsDigits : List ℕ → ℕ → Type 0
IsDigits text n = IsNumeral 10 text × (n ≡ digits_value 10 text)

-- a place, or a place and the transaction's number in the record with a point between them
abbrev pub AsksRecord : List ℕ → Query → Type 0
AsksRecord text (query.Place n) = (n ≡ 0) ⊎ IsDigits text n
AsksRecord text (query.One at) =
    (place : List ℕ) × (nth : List ℕ) × (text ≡ place ++ 46 ∷ nth) × IsDigits place at.place × IsDigits nth at.nth
AsksRecord text other = ⊥

-- an authorization number
abbrev pub AsksNumber : List ℕ → Query → Type 0
AsksNumber text (query.Place n) = n ≡ 0
AsksNumber text (query.Number n) = IsDigits text n
AsksNumber text other = ⊥

-- a prescription reference number, and the pharmacy that is named, if one is
abbrev pub AsksReference : List ℕ → Option (List ℕ) → Query → Type 0
AsksReference text provider (query.Place n) = n ≡ 0
AsksReference text None (query.Reference n) = IsDigits text n
AsksReference text (Some id) (query.ReferenceAt n p) = IsDigits text n × (id_of 15 id ≡ Ok p)
AsksReference text provider other = ⊥

-- the lines of the pharmacy, or of the family, with this id, without the blanks at its end
abbrev pub AsksProvider : List ℕ → Portion → Type 0
AsksProvider text (portion.Provider id) = id.now ≡ trimmed text
AsksProvider text other = ⊥

abbrev pub AsksFamily : List ℕ → Portion → Type 0
AsksFamily text (portion.Family id) = id.now ≡ trimmed text
AsksFamily text other = ⊥

-- the stamp, where the text is one; another text is refused as a run refuses it
abbrev pub stamp_or_fault : Option Stamp → Result (Option Stamp) SwitchFault
stamp_or_fault None = Err fault.Stamp
stamp_or_fault (Some s) = Ok (Some s)

-- no text asks for none
abbrev pub stamp_asked : Option (List ℕ) → Result (Option Stamp) SwitchFault
stamp_asked None = Ok None
stamp_asked (Some text) = stamp_or_fault (stamp_of text)
