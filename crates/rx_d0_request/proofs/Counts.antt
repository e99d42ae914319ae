-- How many pieces a text is cut into.
use Rattle.std.proofs.Common.{◌≡◌, ℕ, ◌+◌, ◌==◌, List, [], ◌∷◌, length, arith}
use Rattle.std.specs.Prelude.{count_by}
use Rattle.std.proofs.lemmas.List.Splits.{length-slice_split}
use Rattle.rx_text.specs.Bytes.{cut}
use Rattle.rx_d0_request.specs.Cut.{further}

length_further : (pieces : List (List ℕ)) (n : ℕ) → length pieces ≡ n + 1 → length (further pieces) ≡ n
length_further [] n e = absurd (omega arith)
length_further (p ∷ pieces) n e = omega arith

-- one piece follows each separator
pub length_further_cut : (separator : ℕ) (bytes : List ℕ) → length (further (cut separator bytes)) ≡ count_by (λ b. b == separator) bytes
length_further_cut separator bytes = length_further (cut separator bytes) _ (length-slice_split (λ b. b == separator) bytes)
