-- Meaning: which persons of a family the lines of a books file list, and which of them is nearest to a person.
use Rattle.std.specs.Prelude.{ℕ, ◌-◌, Bool, false, ◌&&◌, if◌then◌else◌, List, [], ◌∷◌, codes, length, map, take, Option, Some, None}
use Rattle.std.specs.List.{filter, last_or}
use Rattle.std.specs.Ordering.{is_le}
use Rattle.std.specs.Str.{bytes_eq}
use Rattle.rx_fields.specs.Order.{id_cmp}
use Rattle.rx_text.specs.Bytes.{cut}
use Rattle.rx_diagnostics.specs.Looks.{begins}
use Rattle.rx_diagnostics.specs.Parts.{field_of}

-- the line is a member's, of the family
abbrev pub is_member_of : List ℕ → List ℕ → Bool
is_member_of family line = begins line (codes "M|") && bytes_eq (field_of line 2) family

-- the persons of the family by these lines
abbrev pub persons_in : List ℕ → List (List ℕ) → List (List ℕ)
persons_in family lines = map (λ line. field_of line 3) (filter (is_member_of family) lines)

-- those listed above the line of this number
abbrev pub persons_above : List ℕ → ℕ → List ℕ → List (List ℕ)
persons_above text number family = persons_in family (take (number - 1) (cut 10 text))

-- the person doesn't come after the other
abbrev pub is_until : List ℕ → List ℕ → Bool
is_until other person = is_le (id_cmp person other)

abbrev pub first_of : List (List ℕ) → Option (List ℕ)
first_of [] = None
first_of (x ∷ xs) = Some x

-- the last of the listed ones that doesn't come after the person, or else the first
abbrev pub nearest : List ℕ → List (List ℕ) → Option (List ℕ)
nearest person listed = last_or (first_of listed) (filter (is_until person) listed)

-- those listed in the whole file, and whether this one is among them
abbrev pub persons_listed : List ℕ → List ℕ → List (List ℕ)
persons_listed text family = persons_in family (take (length text) (cut 10 text))

abbrev pub is_found : List ℕ → Option (List ℕ) → Bool
is_found person None = false
is_found person (Some listed) = bytes_eq listed person

abbrev pub is_listed : List ℕ → List ℕ → List ℕ → Bool
is_listed text family person = is_found person (nearest person (persons_listed text family))

-- ---- one listed person after another

abbrev pub nearer : List ℕ → Option (List ℕ) → List ℕ → Option (List ℕ)
nearer person None listed = Some listed
nearer person (Some found) listed = if is_until person listed then Some listed else Some found
