-- Plumbing: claims as they were read, with their lines.
use Rattle.std.specs.Prelude.{◌≡◌, ℕ, List}
use Rattle.rx_ledger.specs.declared.row.Row.{Row}
use Rattle.rx_books_text.specs.declared.version.Version.TheVariants.{Three}
use Rattle.rx_books_scan.specs.Lists.{claim_lengths}
use Rattle.rx_books_store.specs.BooksText.{claims_text}

-- these are the lines of the claims, one after another, and the length of each
pub record AreRead (rows : List Row) (lines lengths : List ℕ) : Type 0 where
  pub text : lines ≡ claims_text rows
  pub each : lengths ≡ claim_lengths Three rows
