-- Meaning: which key of a plan sheet a fault is about, by the names that lead to it, and where that key stands.
use Rattle.std.specs.Prelude.{◌≡◌, ℕ, List, [], ◌∷◌, codes, Option, Some, None, Result, Ok, Err}
use Rattle.std.specs.Option.{option_and_then}
use Rattle.toml.specs.Data.{Data, Members}
use Rattle.rx_ledger.specs.declared.sheet_key.SheetKey.{SheetKey}
use Rattle.rx_ledger.specs.declared.sheet_key.SheetKey.TheVariants as key
use Rattle.rx_sheet.specs.Names.{name_of}
use Rattle.rx_sheet.specs.SheetText.{tree_of}
use Rattle.rx_sheet.specs.declared.fault.SheetFault.{SheetFault}
use Rattle.rx_sheet.specs.declared.fault.SheetFault.TheVariants as fault
use Rattle.rx_diagnostics.specs.SheetDrugs.{first_unknown, table_under}
use Rattle.rx_diagnostics.specs.SheetLines.{place_of_key}
use Rattle.rx_diagnostics.specs.SheetValues.{first_wrong, lacking, wrong_drug, wrong_price, wrong_share}
use Rattle.rx_diagnostics.specs.declared.place.Place.{Place}
use Rattle.rx_diagnostics.specs.declared.place.Place.TheVariants as place

-- an entry of a table in which something is wrong, and a key in it; or the table, if there is none
abbrev pub entry_at : SheetKey → Option (List ℕ × Data) → List (List ℕ)
entry_at table (Some entry) = entry.0 ∷ name_of table ∷ []
entry_at table None = name_of table ∷ []

abbrev pub part_at : SheetKey → List ℕ → Option (List ℕ × Data) → List (List ℕ)
part_at table key (Some entry) = key ∷ entry.0 ∷ name_of table ∷ []
part_at table key None = name_of table ∷ []

-- the names that lead to a value that is wrong, the last one first
abbrev pub wrong_at : SheetKey → Members → List (List ℕ)
wrong_at key.Tiers sheet = part_at key.Tiers (codes "percent") (option_and_then (first_wrong wrong_share) (table_under key.Tiers sheet))
wrong_at key.Drugs sheet = entry_at key.Drugs (option_and_then (first_wrong wrong_drug) (table_under key.Drugs sheet))
wrong_at key.Tier sheet = part_at key.Drugs (codes "tier") (first_unknown (table_under key.Tiers sheet) (table_under key.Drugs sheet))
wrong_at key.Price sheet = part_at key.Drugs (codes "price") (option_and_then (first_wrong wrong_price) (table_under key.Drugs sheet))
wrong_at k sheet = name_of k ∷ []

-- those that lead to the first drug without a key
abbrev pub lacking_at : SheetKey → Members → List (List ℕ)
lacking_at k sheet = entry_at key.Drugs (option_and_then (first_wrong (lacking k)) (table_under key.Drugs sheet))

-- a key of the sheet that is missing stands nowhere
abbrev pub missing_at : SheetKey → Members → List (List ℕ)
missing_at key.Tier sheet = lacking_at key.Tier sheet
missing_at key.Price sheet = lacking_at key.Price sheet
missing_at k sheet = []

abbrev pub fault_at : SheetFault → Members → List (List ℕ)
fault_at (fault.Missing k) sheet = missing_at k sheet
fault_at (fault.Wrong k) sheet = wrong_at k sheet
fault_at other sheet = []

abbrev pub names_if_read : SheetFault → Result Members SheetFault → List (List ℕ)
names_if_read f (Ok sheet) = fault_at f sheet
names_if_read f (Err e) = []

-- the line of the key that a fault is about, or the whole sheet where no line names it
unfoldable pub sheet_place : List ℕ → SheetFault → Place
sheet_place text f = place_of_key text (names_if_read f (tree_of text))

-- a fault stands there; that of a text that is no TOML where the reader of TOML stopped
abbrev pub IsSheetPlace : List ℕ → SheetFault → Place → Type 0
IsSheetPlace text fault.NotToml at = Unit {0}
IsSheetPlace text fault.Memory at = at ≡ place.Whole
IsSheetPlace text f at = at ≡ sheet_place text f
