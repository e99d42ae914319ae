-- Meaning: what the separators cut (docs/FORMATS.md, "Parts, segments and fields"). GS is 29, SS is 30, FS is 28.
use Rattle.std.specs.Prelude.{ℕ, Bool, true, false, ◌&&◌, nat_le, nat_eq, ◌==◌, List, [], ◌∷◌, length, map, filter, take, drop, codes}
use Rattle.std.specs.List.{list_all}
use Rattle.std.specs.Cmp.Lexicographic.{pointwise}
use Rattle.rx_text.specs.declared.separators.TheConstants.{FIELD, SEGMENT}
use Rattle.rx_text.specs.Bytes.{cut}
use Rattle.rx_fields.specs.Text.{trimmed}

-- the same bytes
abbrev pub same : List ℕ → List ℕ → Bool
same a b = pointwise nat_eq a b

abbrev pub is_nonempty : List ℕ → Bool
is_nonempty bytes = nat_le 1 (length bytes)

-- the piece before the first separator is empty
abbrev pub begins_empty : List (List ℕ) → Bool
begins_empty [] = false
begins_empty (front ∷ pieces) = length front == 0

-- the piece before the first separator
abbrev pub first : List (List ℕ) → List ℕ
first [] = []
first (front ∷ pieces) = front

-- the pieces after the first separator
abbrev pub further : List (List ℕ) → List (List ℕ)
further [] = []
further (front ∷ pieces) = pieces

-- the pieces of a segment that are not skipped
abbrev pub filled : List ℕ → List (List ℕ)
filled segment = filter is_nonempty (further (cut FIELD segment))

-- a field: an id of two bytes, and a value
pub record Field : Type 0 where
  pub id : List ℕ
  pub value : List ℕ

-- trailing blanks are no part of a value
abbrev pub field_of : List ℕ → Field
field_of piece = record { id = take 2 piece; value = trimmed (drop 2 piece) }

-- the fields of a segment
unfoldable pub fields : List ℕ → List Field
fields segment = map field_of (filled segment)

-- not one byte only
abbrev pub has_id : List ℕ → Bool
has_id piece = nat_le 2 (length piece)

-- AM with a value of two bytes
abbrev pub is_name : Field → Bool
is_name f = same f.id (codes "AM") && length f.value == 2

-- the first field names the segment; a segment without fields is skipped
abbrev pub is_named : List Field → Bool
is_named [] = true
is_named (f ∷ fs) = is_name f

-- the segment is cut as it must be
unfoldable pub is_segment : List ℕ → Bool
is_segment segment =
    begins_empty (cut FIELD segment) && list_all has_id (filled segment) && is_named (fields segment)

-- the segments of a part
unfoldable pub segments : List ℕ → List (List ℕ)
segments part = further (cut SEGMENT part)

-- the part is cut as it must be, and each of its segments too
unfoldable pub is_part : List ℕ → Bool
is_part part = begins_empty (cut SEGMENT part) && list_all is_segment (segments part)
