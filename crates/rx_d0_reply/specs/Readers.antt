-- Plumbing: readers: a reader takes a value from the front of the bytes and leaves the rest, or finds none.
use Rattle.std.specs.Prelude.{ℕ, zero, suc, ◌&&◌, nat_eq, nat_le, if◌then◌else◌, List, [], ◌∷◌}
use Rattle.std.specs.Prelude.{length, take, drop, Option, Some, None, Result, Ok, Err, ℤ}
use Rattle.std.specs.Cmp.Lexicographic.{pointwise}
use Rattle.rx_text.specs.Options.{◌>>=◌}
use Rattle.rx_fields.specs.declared.fault.FieldFault.{FieldFault}
use Rattle.rx_fields.specs.Amount.{signed_of, signed_text}
use Rattle.rx_fields.specs.Bounds.{bounded}
use Rattle.rx_text.specs.Bytes.{all_digits}
use Rattle.rx_fields.specs.Digits.{number}

abbrev pub Reader : Type 0 → Type 0
Reader A = List ℕ → Option (A × List ℕ)

-- the bytes after a text
unfoldable pub after : List ℕ → List ℕ → Option (List ℕ)
after text bs = if pointwise nat_eq (take (length text) bs) text then Some (drop (length text) bs) else None

-- a text, and then what the reader takes
abbrev pub labelled : {A : Type 0} → List ℕ → (List ℕ → Option (A × List ℕ)) → List ℕ → Option (A × List ℕ)
labelled text read bs = after text bs >>= read

-- one value after the other
abbrev pub pair : {A B : Type 0} → (List ℕ → Option (A × List ℕ)) → (List ℕ → Option (B × List ℕ)) → List ℕ
    → Option ((A × B) × List ℕ)
pair first second bs = first bs >>= λ a. second a.1 >>= λ b. Some ((a.0, b.0), b.1)

-- what is made of the value
abbrev pub made : {A B : Type 0} → (A → Option B) → (List ℕ → Option (A × List ℕ)) → List ℕ → Option (B × List ℕ)
made make read bs = read bs >>= λ a. make a.0 >>= λ b. Some (b, a.1)

-- n values, one after the other
unfoldable pub times : {A : Type 0} → (List ℕ → Option (A × List ℕ)) → ℕ → List ℕ → Option (List A × List ℕ)
times read zero bs = Some ([], bs)
times read (suc n) bs = read bs >>= λ a. times read n a.1 >>= λ more. Some (a.0 ∷ more.0, more.1)

-- what is left after n copies of a text
unfoldable pub behind : ℕ → List ℕ → List ℕ → Option (List ℕ)
behind zero text bs = Some bs
behind (suc n) text bs = after text bs >>= behind n text

-- n bytes
unfoldable pub bytes_at : ℕ → List ℕ → Option (List ℕ × List ℕ)
bytes_at n bs = if nat_le n (length bs) then Some (take n bs, drop n bs) else None

-- a number in n digits
unfoldable pub digits_at : ℕ → List ℕ → Option (ℕ × List ℕ)
digits_at n bs = if nat_le n (length bs) && all_digits (take n bs) then Some (number (take n bs), drop n bs) else None

-- a number from low to high, in n digits
unfoldable pub number_at : ℕ → ℕ → ℕ → List ℕ → Option (ℕ × List ℕ)
number_at low high n bs = made (bounded low high) (digits_at n) bs

-- an amount in its one spelling
abbrev pub spelt : List ℕ → Result ℤ FieldFault → Option (ℤ × List ℕ)
spelt bs (Ok z) = if pointwise nat_eq (take 8 bs) (signed_text z) then Some (z, drop 8 bs) else None
spelt bs (Err e) = None

unfoldable pub signed_at : List ℕ → Option (ℤ × List ℕ)
signed_at bs = if nat_le 8 (length bs) then spelt bs (signed_of (take 8 bs)) else None
