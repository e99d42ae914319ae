-- Plumbing: the places of a byte as the bits of a number.
use Rattle.std.specs.Prelude.{◌≡◌, ⊤, ℕ, ◌==◌, ◌≤◌, List, length, map, take, Option, Some, None}
use Rattle.std.specs.Borrow.{Bor}
use Rattle.std.specs.Simd.Lanes.{mask_l}

-- bit k is set where the byte stands at place k
abbrev pub marks_of : ℕ → List ℕ → ℕ
marks_of byte text = mask_l (map (λ b. b == byte) text)

-- the marks of the first `seen` bytes of what is left
pub record AreMarks (separator marks seen : ℕ) (text : List ℕ) : Type 0 where
  pub few : seen ≤ 64
  pub within : seen ≤ length text
  pub first : marks ≡ marks_of separator (take seen text)

-- nothing is asked where nothing is left
abbrev pub AreMarksLeft : ℕ → ℕ → ℕ → Option (Bor (List ℕ)) → Type 0
AreMarksLeft separator marks seen None = ⊤
AreMarksLeft separator marks seen (Some text) = AreMarks separator marks seen text.now
