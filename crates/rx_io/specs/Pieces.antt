-- Meaning: a text in pieces.
use Rattle.std.specs.Prelude.{ℕ, List}
use Rattle.std.specs.List.{flat_map}
use Rattle.std.specs.Vec.{vec_items}
use Rattle.rx_io.specs.declared.pieces.Pieces.{Pieces}
use Rattle.rx_io.specs.declared.pieces.Pieces.TheVariants.{Texts, Patched}

-- the text that the pieces are, one after another
abbrev pub text_of : Pieces → List ℕ
text_of (Texts texts) = flat_map vec_items texts.items
text_of (Patched patched) = patched.text
