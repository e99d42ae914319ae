-- Meaning: the orders of ids and fill keys.
use Rattle.std.specs.Prelude.{ℕ, List}
use Rattle.std.specs.Ordering.{nat_cmp, ordering_then}
use Rattle.std.specs.Cmp.Lexicographic.{slice_cmp}
use Rattle.std.specs.declared.cmp.Ordering.{Ordering}
use Rattle.rx_fields.specs.declared.key.Key.{Key}
use Rattle.rx_fields.specs.Calendar.{day_cmp}

-- by the bytes, a prefix first
abbrev pub id_cmp : List ℕ → List ℕ → Ordering
id_cmp a b = slice_cmp nat_cmp a b

-- by provider, then reference, then date
abbrev pub key_cmp : Key → Key → Ordering
key_cmp a b =
    ordering_then (id_cmp a.provider b.provider)
    (ordering_then (nat_cmp a.reference b.reference) (day_cmp a.date b.date))
