-- Plumbing: the text that claims were read from, which is kept for their lines.
use Rattle.std.specs.Prelude.{◌≡◌, ℕ, ◌+◌, ◌≤◌, List, drop, length, take}
use Rattle.std.specs.Arc.{arc_value}
use Rattle.rx_ledger.specs.declared.row.Row.{Row}
use Rattle.rx_books_text.specs.declared.version.Version.TheVariants.{Three}
use Rattle.rx_books_scan.specs.Lists.{claim_lengths}
use Rattle.rx_books_store.specs.declared.kept.Kept.{Kept}
use Rattle.rx_books_store.specs.BooksText.{claims_text}

-- below this many bytes of the text stand the lines of these rows in version 3, which are so long
pub record HoldsLines (text : List ℕ) (above : ℕ) (lengths : List ℕ) (rows : List Row) : Type 0 where
  pub each : lengths ≡ claim_lengths Three rows
  pub whole : take (length (claims_text rows)) (drop above text) ≡ claims_text rows
  pub within : above + length (claims_text rows) ≤ length text

abbrev pub kept_text : Kept → List ℕ
kept_text kept = (arc_value kept.text).items

-- the kept text holds the lines of these rows
abbrev pub IsKept : Kept → List Row → Type 0
IsKept kept rows = HoldsLines (kept_text kept) kept.above kept.lengths.items rows
