-- A stamp's digits are those of its day, then those of its time.
use Rattle.std.proofs.Common.{◌≡◌, ℕ, List, [], ◌∷◌, ◌++◌, length, refl, ap, Ok, Some}
use Rattle.std.proofs.lemmas.List.{take_at, drop_at}
use borrow.Rule.Slice.PartMut.{put_mid}
use Rattle.rx_fields.specs.declared.stamp.Stamp.{Stamp}
use Rattle.rx_fields.specs.Calendar.{date_of}
use Rattle.rx_fields.specs.Clock.{time_of, stamp_of}

append-empty : (xs : List ℕ) → xs ++ [] ≡ xs
append-empty [] = refl
append-empty (x ∷ xs) = ap (λ ys. x ∷ ys) (append-empty xs)

-- eight bytes and four zeros, with four bytes written over the zeros
pub written_after : (front back : List ℕ) → length front ≡ 8
    → put_mid 8 4 (front ++ 0 ∷ 0 ∷ 0 ∷ 0 ∷ []) back ≡ front ++ back
written_after front back len =
    let cut = take_at front (0 ∷ 0 ∷ 0 ∷ 0 ∷ []) 8 len in
    let rest = drop_at front (0 ∷ 0 ∷ 0 ∷ 0 ∷ []) 8 len in
    rw (cut, rest) (ap (λ (ys : List ℕ). front ++ ys) (append-empty back))

-- the spellings of a stamp's day and time, joined, are read back as the stamp
pub stamp_again : (s : Stamp) (date time : List ℕ) → length date ≡ 8 → length (date ++ time) ≡ 12
    → date_of date ≡ Ok s.date → time_of time ≡ Some s.time → stamp_of (date ++ time) ≡ Some s
stamp_again s date time len all day clock =
    rw (all, take_at date time 8 len, drop_at date time 8 len, day, clock) refl
