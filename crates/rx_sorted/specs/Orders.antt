-- Meaning: orders of keys that have several fields: the first field in which two keys differ decides.
use Rattle.std.specs.Prelude.{ℕ, List}
use Rattle.std.specs.Cmp.Lexicographic.{slice_cmp}
use Rattle.std.specs.Ordering.{nat_cmp, on, then_cmp}
use Rattle.std.specs.declared.cmp.Ordering.{Ordering}

-- the order of texts: by their bytes, a text before the longer ones that begin with it
abbrev pub text_cmp : List ℕ → List ℕ → Ordering
text_cmp = slice_cmp nat_cmp

-- by two fields, each in its own order
abbrev pub by_two : {K A B : Type 0} → (A → A → Ordering) → (K → A) → (B → B → Ordering) → (K → B) → K → K → Ordering
by_two p first q second = then_cmp (on first p) (on second q)

-- by three fields, each in its own order
abbrev pub by_three : {K A B C : Type 0} → (A → A → Ordering) → (K → A) → (B → B → Ordering) → (K → B)
    → (C → C → Ordering) → (K → C) → K → K → Ordering
by_three p first q second r third = then_cmp (on first p) (by_two q second r third)

-- the order of triples of numbers, as a date's year, month and day
abbrev pub triple_cmp : {K : Type 0} → (K → ℕ) → (K → ℕ) → (K → ℕ) → K → K → Ordering
triple_cmp first second third = by_three nat_cmp first nat_cmp second nat_cmp third
