-- Plumbing: claims that leave, and what is left without them.
use Rattle.std.specs.Prelude.{◌≡◌, ℕ, Bool, false, int_le, not, List, Option, Some, None, filter, length}
use Rattle.std.specs.List.{flat_map, list_all}
use Rattle.std.specs.Vec.{vec_items}
use Rattle.rx_fields.specs.Calendar.{Civil, IsCivil, day_number}
use Rattle.rx_ledger.specs.declared.row.Row.{Row}
use Rattle.rx_books_store.specs.BooksText.{claims_text}
use Rattle.rx_books_upkeep.specs.declared.cut_claims.CutClaims.{CutClaims}
use Rattle.rx_books_upkeep.specs.declared.cut_claims.Cuts.{Cuts}
use Rattle.rx_books_upkeep.specs.Ageing.{dropped, is_before, is_over}

-- the claims that stay
abbrev pub staying : Civil → List Row → List Row
staying day rows = filter (λ r. not (is_before day r)) rows

-- whether the day is one of those from a first one on; without a first one none is
abbrev pub is_reached : Option Civil → Civil → Bool
is_reached None day = false
is_reached (Some first) day = int_le (day_number first) (day_number day)

-- from this day on, and on no other, each of these claims is over
abbrev pub IsOverFrom : ℕ → List Row → Option Civil → Type 0
IsOverFrom percent rows first = (day : Civil) → IsCivil day → list_all (is_over percent day) rows ≡ is_reached first day

-- these claims, cut into those that leave before a day and those that stay
pub record IsCut (percent : ℕ) (day : Civil) (rows : List Row) (cut : CutClaims) : Type 0 where
  pub staying : cut.staying.items ≡ claims_text (staying day rows)
  pub leaving : cut.leaving.items ≡ claims_text (dropped day rows)
  pub left : cut.left ≡ length (dropped day rows)
  pub over : IsOverFrom percent (dropped day rows) cut.first_safe

-- the same of all claims, in parts
pub record AreCut (percent : ℕ) (day : Civil) (rows : List Row) (cuts : Cuts) : Type 0 where
  pub staying : flat_map vec_items cuts.staying.items ≡ claims_text (staying day rows)
  pub leaving : flat_map vec_items cuts.leaving.items ≡ claims_text (dropped day rows)
  pub left : cuts.left ≡ length (dropped day rows)
  pub over : IsOverFrom percent (dropped day rows) cuts.first_safe
