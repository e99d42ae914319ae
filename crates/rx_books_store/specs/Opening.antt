-- Plumbing: the families of the lists that books were made from.
use Rattle.std.specs.Prelude.{ℕ, List, [], ◌∷◌, Some, map}
use Rattle.std.specs.List.{flat_map}
use Rattle.std.specs.Borrow.{Bor}
use Rattle.rx_ledger.specs.declared.row.Row.{Row}
use Rattle.rx_books_text.specs.declared.version.Version.TheVariants.{Three}
use Rattle.rx_books_text.specs.LineText.{ended, line_text}
use Rattle.rx_books_text.specs.declared.line.Line.{Line}
use Rattle.rx_books_text.specs.declared.line.Line.TheVariants as line
use Rattle.rx_books_store.specs.declared.opening.FamilyName.{FamilyName}

-- the families, by their ids
abbrev pub name_of : FamilyName → List ℕ
name_of n = n.family

abbrev pub names_of : List FamilyName → List (List ℕ)
names_of names = map name_of names

-- the total line of each family, with its out of pocket and its deductible
abbrev pub total_lines : List FamilyName → List ℕ → List ℕ → List Line
total_lines [] ps ds = []
total_lines (n ∷ ns) [] ds = []
total_lines (n ∷ ns) (p ∷ ps) [] = []
total_lines (n ∷ ns) (p ∷ ps) (d ∷ ds) =
    line.Total (record { family = n.family; out_of_pocket = p; deductible = Some d }) ∷ total_lines ns ps ds

-- the lines of rows that are borrowed
abbrev pub rows_text : List (Bor Row) → List ℕ
rows_text rows = flat_map (λ r. ended (line_text Three (line.Claim r.now))) rows
