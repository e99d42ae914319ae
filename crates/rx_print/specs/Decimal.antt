-- Meaning: numbers with a comma before each three digits.
use Rattle.std.specs.Prelude.{ℕ, ◌%◌, ◌==◌, if◌then◌else◌, List, [], ◌∷◌, ◌++◌, length}
use Rattle.std.specs.Fmt.{decimal}

-- a comma before these digits, where they are some threes
abbrev pub comma_before : List ℕ → List ℕ
comma_before digits =
    if length digits == 0 then [] else (if length digits % 3 == 0 then 44 ∷ [] else [])

-- digits with a comma before each three from their end
abbrev pub in_threes : List ℕ → List ℕ
in_threes [] = []
in_threes (digit ∷ digits) = digit ∷ (comma_before digits ++ in_threes digits)

-- a number with such commas
abbrev pub grouped : ℕ → List ℕ
grouped n = in_threes (decimal n)
