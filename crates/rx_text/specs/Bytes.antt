-- Meaning: classes of bytes, and what a separator cuts.
use Rattle.std.specs.Prelude.{ℕ, Bool, ◌&&◌, ◌||◌, nat_le, ◌==◌, List}
use Rattle.std.specs.List.{list_all, slice_split}

-- the byte is printable ASCII, X'20' to X'7E'
abbrev pub is_printable : ℕ → Bool
is_printable b = nat_le 32 b && nat_le b 126

-- the byte is 0 to 9
abbrev pub is_digit : ℕ → Bool
is_digit b = nat_le 48 b && nat_le b 57

abbrev pub all_printable : List ℕ → Bool
all_printable bytes = list_all is_printable bytes

abbrev pub all_digits : List ℕ → Bool
all_digits bytes = list_all is_digit bytes

-- CR or LF
abbrev pub is_line_end : ℕ → Bool
is_line_end b = b == 13 || b == 10

-- the pieces between the separators
abbrev pub cut : ℕ → List ℕ → List (List ℕ)
cut separator bytes = slice_split (λ b. b == separator) bytes
