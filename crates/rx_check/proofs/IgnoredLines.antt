-- The lines of the keys that are ignored, one name after another.
use Rattle.std.proofs.Common.{◌≡◌, ℕ, ◌++◌, List, ap, ◌∙◌, append_assoc}
use Rattle.toml.specs.Data.{Data, Members, member}
use Rattle.rx_check.specs.Ignored.{each_of}

-- the lines of one more member
pub each_more : (lines : List ℕ → Data → List (List ℕ)) (name : List ℕ) (value : Data) (rest : Members)
    → (before now all : List (List ℕ)) → now ≡ before ++ lines name value
    → before ++ each_of lines (member name value rest) ≡ all → now ++ each_of lines rest ≡ all
each_more lines name value rest before now all put whole =
    ap (λ texts. texts ++ each_of lines rest) put ∙ append_assoc before (lines name value) (each_of lines rest) ∙ whole
