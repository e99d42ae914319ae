-- Meaning: the first place where two texts differ.
use Rattle.std.specs.Prelude.{◌≡◌, ◌≢◌, ◌<◌, ℕ, Bool, not, ◌==◌, List, length, take, slice_index}
use Rattle.std.specs.List.{prefix_len}

-- at this place each text has another byte, or one of them ends
pub data DiffersAt (ours theirs : List ℕ) (at : ℕ) : Type 0 where
  byte : at < length ours → at < length theirs → slice_index ours at ≢ slice_index theirs at → DiffersAt ours theirs at
  ours_ends : at ≡ length ours → at < length theirs → DiffersAt ours theirs at
  theirs_ends : at ≡ length theirs → at < length ours → DiffersAt ours theirs at

-- up to this place the texts are the same
pub record IsFirstDifference (ours theirs : List ℕ) (at : ℕ) : Type 0 where
  pub same : take at ours ≡ take at theirs
  pub differs : DiffersAt ours theirs at

-- this byte ends a piece, or stands in one
abbrev pub is_end : ℕ → ℕ → Bool
is_end end b = b == end

abbrev pub is_inside : ℕ → ℕ → Bool
is_inside end b = not (b == end)

-- the bytes up to the first that ends a piece
abbrev pub piece_of : ℕ → List ℕ → List ℕ
piece_of end bytes = take (prefix_len (is_inside end) bytes) bytes
