-- How many bytes stand before the first one that passes a test, as `memchr` finds it.
use Rattle.std.proofs.Common.{◌≡◌, ℕ, Bool, true, false, List, length, get_or, Option, Some, None, refl, sym, arith}
use Rattle.std.specs.List.{position_or_len}
use Rattle.std.specs.Option.{unwrap_or}
use Rattle.std.proofs.lemmas.List.Sums.{position_or_len_is}
use Rattle.memchr.specs.Find.{IsFirstByte}

not_true : (b : Bool) → ¬ (b ≡ true) → b ≡ false
not_true true not = absurd (not refl)
not_true false not = refl

pub first_place : (test : ℕ → Bool) (bytes : List ℕ) (found : Option ℕ) → IsFirstByte test bytes found
    → unwrap_or found (length bytes) ≡ position_or_len test bytes
first_place test bytes None none =
    sym (position_or_len_is test bytes (length bytes) 0 (omega arith)
    (λ k lt. not_true (test (get_or bytes k 0)) (none k (omega arith) lt)) (λ lt. absurd (omega arith)))
first_place test bytes (Some place) found =
    sym (position_or_len_is test bytes place 0 (omega (arith, found.0.high))
    (λ k lt. not_true (test (get_or bytes k 0)) (found.0.before k (omega arith) lt)) (λ lt. found.1))
