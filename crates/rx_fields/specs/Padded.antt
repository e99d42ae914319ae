-- Plumbing: the bytes and the length of an id follow from its text.
use Rattle.std.specs.Prelude.{◌≡◌, ℕ, ◌-◌, ◌++◌, List, length, take, replicate, refl}
use Rattle.std.proofs.Common.{arith, take-append-drop, length-take}
use Rattle.rx_fields.specs.Text.{IsPadded}

-- the text, and zeros up to max bytes
abbrev pub padded : ℕ → List ℕ → List ℕ
padded max text = text ++ replicate (max - length text) 0

-- what is made of an id's bytes and its length is made of its text
pub padded_back : {R : Type 0} (make : List ℕ → ℕ → R) (max len : ℕ) (bytes : List ℕ) → IsPadded max len bytes
    → make (padded max (take len bytes)) (length (take len bytes)) ≡ make bytes len
padded_back make max len bytes h =
    let same : length (take len bytes) ≡ len = omega (arith, length-take len bytes, h.whole, h.few) in
    let all : take len bytes ++ replicate (max - len) 0 ≡ bytes = rw (← h.rest) (take-append-drop len bytes) in
    rw (same, all) refl
