-- Plumbing: a table of keys and what was found under each.
use Rattle.std.specs.Prelude.{ℕ, Bool, is_some, if◌then◌else◌, List, [], ◌∷◌, map, Option, Some, None, option_map}
use Rattle.std.specs.Borrow.{Bor}
use Rattle.rx_text.specs.Bytes.{cut}
use Rattle.rx_d0_request.specs.Cut.{same, is_nonempty, Field, fields, is_segment}
use Rattle.rx_text.specs.Options.{◌>>=◌}

-- what was found under each key
abbrev pub Slot : Type 0
Slot = Option (List ℕ)

-- what a slice holds, if there is one
abbrev pub text_of : Option (Bor (List ℕ)) → Slot
text_of slice = option_map (λ s. s.now) slice

abbrev pub texts_of : List (Option (Bor (List ℕ))) → List Slot
texts_of slots = map text_of slots

-- the pieces of the text that is left
abbrev pub pieces_left : ℕ → Option (Bor (List ℕ)) → List (List ℕ)
pieces_left separator None = []
pieces_left separator (Some text) = cut separator text.now

-- each of them, in order; or None, where one is None
abbrev pub all_of : {A B : Type 0} → (A → Option B) → List A → Option (List B)
all_of f [] = Some []
all_of f (x ∷ xs) = f x >>= λ y. all_of f xs >>= λ ys. Some (y ∷ ys)

-- what a slot holds once this text came under a key; None where it is taken
abbrev pub filled_slot : Bool → Slot → List ℕ → Option Slot
filled_slot is_key slot text = if is_key then (if is_some slot then None else Some (Some text)) else Some slot

-- what each slot becomes by its key; None, where one becomes None
abbrev pub each_slot : (List ℕ → Slot → Option Slot) → List (List ℕ) → List Slot → Option (List Slot)
each_slot f keys [] = Some []
each_slot f [] (slot ∷ slots) = Some (slot ∷ slots)
each_slot f (k ∷ keys) (slot ∷ slots) = f k slot >>= λ y. each_slot f keys slots >>= λ ys. Some (y ∷ ys)

-- the text comes into the slot of its key
abbrev pub put : List (List ℕ) → List ℕ → List ℕ → List Slot → Option (List Slot)
put keys key text slots = each_slot (λ k slot. filled_slot (same key k) slot text) keys slots

-- the name of a segment; none where it is skipped
abbrev pub name_of : List Field → Option (List ℕ)
name_of [] = None
name_of (f ∷ fs) = Some f.value

-- a field comes into the slot of its id, where it has a value
abbrev pub put_field : List (List ℕ) → Field → List Slot → Option (List Slot)
put_field ids f slots = if is_nonempty f.value then put ids f.id f.value slots else Some slots

abbrev pub put_named : List (List ℕ) → Option (List ℕ) → List ℕ → List Slot → Option (List Slot)
put_named names None text slots = Some slots
put_named names (Some name) text slots = put names name text slots

-- a segment comes into the slot of its name, where it isn't skipped; None is a syntax error too
abbrev pub put_segment : List (List ℕ) → List ℕ → List Slot → Option (List Slot)
put_segment names text slots = if is_segment text then put_named names (name_of (fields text)) text slots else None
