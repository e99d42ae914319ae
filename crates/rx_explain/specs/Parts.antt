-- Plumbing: in which part a fill key is kept; and events that are kept in parts.
use Rattle.std.specs.Prelude.{◌≡◌, ℕ, ◌+◌, ◌*◌, ◌%◌, ◌<◌, ◌==◌, List, Vec, get_or, length}
use Rattle.std.specs.List.{filter, fold}
use Rattle.rx_fields.specs.declared.key.Key.{Key}
use Rattle.rx_explain.specs.declared.events.Event.{Event}

-- this many parts
abbrev pub parts_count : ℕ
parts_count = 4096

-- the part of a text: its bytes as digits to the base 31
abbrev pub part_with : ℕ → ℕ → ℕ
part_with part b = (part * 31 + b) % parts_count

abbrev pub part_of_text : List ℕ → ℕ
part_of_text bytes = fold part_with 0 bytes

-- that of a fill key: by provider and reference
abbrev pub part_of_key : Key → ℕ
part_of_key k = (part_of_text k.provider + k.reference) % parts_count

-- each part has its own of the events, in their order
pub record AreEventParts {Z : Type 0} (parts : List (Vec Event Z)) (events : List Event) : Type 0 where
  pub as_many : length parts ≡ parts_count
  pub own : (part : ℕ) (d : Vec Event Z) → part < parts_count
      → (get_or parts part d).items ≡ filter (λ e. part_of_key e.key == part) events
