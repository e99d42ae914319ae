-- Text: the lines of `plan`: a line for each record with its place and wave, then the number of waves, then the chain.
use Rattle.std.specs.Prelude.{ℕ, ◌+◌, List, [], ◌∷◌, ◌++◌, codes}
use Rattle.std.specs.List.{flat_map}
use Rattle.std.specs.Fmt.{decimal}
use Rattle.rx_show.specs.Lines.{line}

-- the lines of records in file order, the first of them at this place
abbrev pub wave_lines : ℕ → List ℕ → List ℕ
wave_lines place [] = []
wave_lines place (n ∷ ns) = line (decimal place ∷ decimal n ∷ []) ++ wave_lines (place + 1) ns

-- a blank and a place for each member of the chain
abbrev pub after_blank : ℕ → List ℕ
after_blank place = 32 ∷ decimal place

abbrev pub count_line : ℕ → List ℕ
count_line count = line (codes "waves" ∷ decimal count ∷ [])

abbrev pub chain_line : List ℕ → List ℕ
chain_line chain = codes "chain" ++ flat_map after_blank chain ++ 10 ∷ []

abbrev pub plan_lines : List ℕ → ℕ → List ℕ → List ℕ
plan_lines numbers count chain = wave_lines 1 numbers ++ (count_line count ++ chain_line chain)
