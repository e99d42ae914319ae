-- Meaning: this program's own words.
use Rattle.std.specs.Prelude.{ℕ, List, codes}
use Prim.Native.String.{String}

-- words as they stand; a proof needn't look at their letters
unfoldable pub said : List ℕ → List ℕ
said words = words

abbrev pub say : String → List ℕ
say text = said (codes text)
