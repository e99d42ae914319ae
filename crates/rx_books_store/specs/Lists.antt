-- Plumbing: the lists that a books text prints, where its figures are the sums of its claims.
use Rattle.std.specs.Prelude.{◌≡◌, ℕ, List, [], ◌∷◌}
use Rattle.rx_ledger.specs.Ledger.{IsLedger}
use Rattle.rx_books_text.specs.declared.line.TotalLine.{TotalLine}
use Rattle.rx_books_text.specs.declared.version.Version.{Version}
use Rattle.rx_books_text.specs.Printed.{PrintedParts}
use Rattle.rx_books_store.specs.declared.opening.FamilyName.{FamilyName}
use Rattle.rx_books_store.specs.BooksText.{from_three, parts_of}

-- the total line of each family, with its out of pocket and its deductible, as a version prints it
abbrev pub totals_in : Version → List FamilyName → List ℕ → List ℕ → List TotalLine
totals_in v [] ps ds = []
totals_in v (n ∷ ns) [] ds = []
totals_in v (n ∷ ns) (p ∷ ps) [] = []
totals_in v (n ∷ ns) (p ∷ ps) (d ∷ ds) =
    record { family = n.family; out_of_pocket = p; deductible = from_three v d } ∷ totals_in v ns ps ds

-- the member of each claim is listed, and the lists are those of the ledger with its sums
pub record AreSummed (p : PrintedParts) : Type 0 where
  pub whole : IsLedger p.ledger
  pub sums : p ≡ parts_of p.head.version p.head.period p.ledger
