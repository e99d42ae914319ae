-- Meaning: where a standing claim comes from, and what becomes of it: named by its fill key only.
use Rattle.std.specs.Prelude.{ℕ, ◌&&◌, Bool, true, false, List, [], ◌∷◌, reverse, Option, Some, None}
use Rattle.std.specs.List.{find}
use Rattle.std.specs.Option.{option_map}
use Rattle.std.specs.Ordering.{is_eq, is_lt, nat_cmp, ordering_then}
use Rattle.std.specs.declared.cmp.Ordering.{Ordering}
use Rattle.rx_fields.specs.Order.{key_cmp}
use Rattle.rx_fields.specs.declared.key.Key.{Key}
use Rattle.rx_d0_values.specs.declared.reply.Answer.{Answer}
use Rattle.rx_d0_values.specs.declared.reply.Answer.TheVariants.{Paid, Twice, Approved, Refused}
use Rattle.rx_d0_values.specs.declared.reply.Reply.{Reply}
use Rattle.rx_d0_values.specs.declared.transmission.Heard.{Heard as HeardRecord}
use Rattle.rx_d0_values.specs.declared.transmission.Transmission.{Transmission}
use Rattle.rx_ledger.specs.declared.row.Row.{Row}
use Rattle.rx_ledger.specs.Named.{key_in}
use Rattle.rx_explain.specs.declared.at.At.{At}
use Rattle.rx_explain.specs.declared.events.Change.{Change}
use Rattle.rx_explain.specs.declared.events.Change.TheVariants as change
use Rattle.rx_explain.specs.declared.events.Event.{Event}
use Rattle.rx_explain.specs.declared.traced.Source.{Source}
use Rattle.rx_explain.specs.declared.traced.Source.TheVariants as source
use Rattle.rx_explain.specs.declared.traced.Traced.{Traced}
use Rattle.rx_explain.specs.Listed.{of_batch}

-- ---- what a batch changed

-- a claim that is paid stands from then on, and one that is taken back no longer; other answers change nothing
abbrev pub event_of : HeardRecord → At → Answer → List Event
event_of h at (Paid p) = record { at = at; key = key_in h p.reference; change = change.Paid } ∷ []
event_of h at (Twice p) = []
event_of h at (Approved p) = record { at = at; key = key_in h p.reference; change = change.TakenBack } ∷ []
event_of h at (Refused p) = []

-- of records with their replies, the first of them at this place
abbrev pub events_of : ℕ → List Transmission → List Reply → List Event
events_of place ts rs = of_batch event_of place ts rs

-- ---- a claim's source and end

abbrev pub at_cmp : At → At → Ordering
at_cmp a b = ordering_then (nat_cmp a.place b.place) (nat_cmp a.nth b.nth)

abbrev pub is_payment : Change → Bool
is_payment change.Paid = true
is_payment change.TakenBack = false

abbrev pub is_return : Change → Bool
is_return change.Paid = false
is_return change.TakenBack = true

-- the event pays the claim under the key, before a transaction
abbrev pub pays_before : Key → At → Event → Bool
pays_before key at e = is_payment e.change && is_eq (key_cmp e.key key) && is_lt (at_cmp e.at at)

-- the event takes back the claim under the key, after a transaction
abbrev pub returns_after : Key → At → Event → Bool
returns_after key at e = is_return e.change && is_eq (key_cmp e.key key) && is_lt (at_cmp at e.at)

-- the last payment under the key before a transaction
abbrev pub last_payment : List Event → Key → At → Option At
last_payment events key at = option_map (λ e. e.at) (find (pays_before key at) (reverse events))

-- that payment, else the opening books
abbrev pub source_at : Option At → Source
source_at None = source.Opening
source_at (Some at) = source.Record at

abbrev pub source_of : List Event → Key → At → Source
source_of events key at = source_at (last_payment events key at)

-- the first taking back under the key after a transaction
abbrev pub taken_back_at : List Event → Key → At → Option At
taken_back_at events key at = option_map (λ e. e.at) (find (returns_after key at) events)

-- a row that stands before a transaction, with its source and its end
abbrev pub traced : List Event → At → Row → Traced
traced events at r =
    record { row = r; source = source_of events r.key at; taken_back = taken_back_at events r.key at }
