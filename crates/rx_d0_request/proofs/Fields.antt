-- A piece of a segment: its id and its value.
use Rattle.std.proofs.Common.{◌≡◌, ℕ, ◌<◌, ◌≤◌, Bool, true, false, not, eqb, List, [], ◌∷◌}
use Rattle.std.proofs.Common.{length, get_or, take, drop, Option, Some, refl, arith}
use Rattle.std.proofs.lemmas.Bool.Decides.{nat_tests}
use Rattle.std.proofs.lemmas.List.{drop_all}
use Rattle.rx_fields.specs.Text.{trimmed}
use Rattle.rx_d0_request.specs.Cut.{is_nonempty, field_of}
use Rattle.rx_d0_request.specs.Slots.{put, put_field}

pub nonempty_cons : (b : ℕ) (bs : List ℕ) → is_nonempty (b ∷ bs) ≡ true
nonempty_cons b bs = grind (arith, nat_tests)

pub nonempty_by : (value : List ℕ) (is_empty : Bool) → is_empty ≡ eqb (length value) 0 → is_nonempty value ≡ not is_empty
nonempty_by [] is_empty e = rw e refl
nonempty_by (b ∷ bs) is_empty e =
    let other : eqb (length (b ∷ bs)) 0 ≡ false = grind (arith, nat_tests) in
    rw (e, other) (nonempty_cons b bs)

-- the two bytes of an id
pub two_bytes : (piece front : List ℕ) → front ≡ take 2 piece → 2 ≤ length piece → get_or front 0 0 ∷ get_or front 1 0 ∷ [] ≡ take 2 piece
two_bytes [] front e le = absurd (omega arith)
two_bytes (a ∷ []) front e le = absurd (omega arith)
two_bytes (a ∷ b ∷ bs) front e le = rw e refl

pub put_field_short : (ids : List (List ℕ)) (piece : List ℕ) (slots : List (Option (List ℕ))) → length piece < 2
    → put_field ids (field_of piece) slots ≡ Some slots
put_field_short ids piece slots lt = rw (drop_all 2 piece (omega arith)) refl

pub put_field_empty : (ids : List (List ℕ)) (piece : List ℕ) (slots : List (Option (List ℕ)))
    → true ≡ eqb (length (trimmed (drop 2 piece))) 0 → put_field ids (field_of piece) slots ≡ Some slots
put_field_empty ids piece slots e = rw (nonempty_by (trimmed (drop 2 piece)) true e) refl

pub put_field_full : (ids : List (List ℕ)) (piece : List ℕ) (slots : List (Option (List ℕ)))
    → false ≡ eqb (length (trimmed (drop 2 piece))) 0 → put_field ids (field_of piece) slots
    ≡ put ids (take 2 piece) (trimmed (drop 2 piece)) slots
put_field_full ids piece slots e = rw (nonempty_by (trimmed (drop 2 piece)) false e) refl
