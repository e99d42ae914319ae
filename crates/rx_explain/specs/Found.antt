-- Meaning: the transactions that are asked for.
use Rattle.std.specs.Prelude.{ℕ, ◌&&◌, ◌==◌, Bool, false, if◌then◌else◌, List, [], ◌∷◌, Option, Some, None}
use Rattle.rx_d0_values.specs.declared.reply.Answer.{Answer}
use Rattle.rx_d0_values.specs.declared.reply.Answer.TheVariants.{Paid, Twice, Approved, Refused}
use Rattle.rx_d0_values.specs.declared.reply.Reply.{Reply}
use Rattle.rx_d0_values.specs.declared.transmission.Heard.{Heard as HeardRecord}
use Rattle.rx_d0_values.specs.declared.transmission.Transmission.{Transmission}
use Rattle.rx_ledger.specs.Members.{is_same}
use Rattle.rx_explain.specs.declared.at.At.{At}
use Rattle.rx_explain.specs.declared.finding.Query.{Query}
use Rattle.rx_explain.specs.declared.finding.Query.TheVariants as query
use Rattle.rx_explain.specs.Listed.{of_batch}

-- the answer has this authorization number: its own, or of D the one that it repeats
abbrev pub has_number : ℕ → Answer → Bool
has_number number (Paid p) = p.number == number
has_number number (Twice p) = p.number == number
has_number number (Approved p) = p.number == number
has_number number (Refused p) = false

abbrev pub is_some_number : ℕ → Option ℕ → Bool
is_some_number number None = false
is_some_number number (Some other) = other == number

-- the answer is to this prescription reference number
abbrev pub has_reference : ℕ → Answer → Bool
has_reference reference (Paid p) = p.reference == reference
has_reference reference (Twice p) = p.reference == reference
has_reference reference (Approved p) = p.reference == reference
has_reference reference (Refused p) = is_some_number reference p.reference

abbrev pub is_match : Query → At → HeardRecord → Answer → Bool
is_match (query.Place place) at h a = at.place == place
is_match (query.One one) at h a = at.place == one.place && at.nth == one.nth
is_match (query.Number number) at h a = has_number number a
is_match (query.Reference reference) at h a = has_reference reference a
is_match (query.ReferenceAt reference provider) at h a = has_reference reference a && is_same h.provider provider

-- the place of the transaction, if it is asked for
abbrev pub found_at : Query → HeardRecord → At → Answer → List At
found_at w h at a = if is_match w at h a then at ∷ [] else []

-- the places of those of records with their replies, the first of them at this place, in order
abbrev pub found_in : Query → ℕ → List Transmission → List Reply → List At
found_in w place ts rs = of_batch (found_at w) place ts rs
