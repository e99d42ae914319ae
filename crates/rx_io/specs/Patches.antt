-- Meaning: a text that is made of parts of another, which lends them, and of bytes of its own.
use Rattle.std.specs.Prelude.{ℕ, ◌≤◌, List, ◌++◌, drop, length}
use Rattle.std.specs.List.{All, flat_map, slice_range}
use Rattle.rx_io.specs.declared.patched.Piece.{Piece}
use Rattle.rx_io.specs.declared.patched.Piece.TheVariants.{Lent, Own}

-- the text that lends, and the one that is made
pub record Patch : Type 0 where
  pub lender : List ℕ
  pub text : List ℕ

-- the bytes of a piece
abbrev pub piece_text : List ℕ → List ℕ → Piece → List ℕ
piece_text lender own (Lent first last) = slice_range lender first last
piece_text lender own (Own first last) = slice_range own first last

abbrev pub pieces_text : List ℕ → List ℕ → List Piece → List ℕ
pieces_text lender own pieces = flat_map (piece_text lender own) pieces

-- the pieces, and after them the own bytes from a place on
abbrev pub patched_text : List ℕ → List ℕ → List Piece → ℕ → List ℕ
patched_text lender own pieces begun = pieces_text lender own pieces ++ drop begun own

-- the bytes of the piece are there
abbrev pub IsWithin : List ℕ → List ℕ → Piece → Type 0
IsWithin lender own (Lent first last) = (first ≤ last) × (last ≤ length lender)
IsWithin lender own (Own first last) = (first ≤ last) × (last ≤ length own)

pub record ArePieces (lender own : List ℕ) (pieces : List Piece) (begun : ℕ) : Type 0 where
  pub each : All (IsWithin lender own) pieces
  pub last : begun ≤ length own
