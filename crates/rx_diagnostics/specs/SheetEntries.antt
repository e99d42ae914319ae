-- Plumbing: what is looked for among the entries of a table, and an entry of it.
use Rattle.std.specs.Prelude.{ℕ, List, Option}
use Rattle.toml.specs.Data.{Data}
use Rattle.toml.specs.View.{table_view, view}
use Rattle.rx_diagnostics.specs.SheetValues.{lacking, wrong_drug, wrong_price, wrong_share, wrong_tier}
use Rattle.rx_diagnostics.specs.declared.sheet_drugs.Entry.{Entry}
use Rattle.rx_diagnostics.specs.declared.sheet_drugs.Looked.{Looked}
use Rattle.rx_diagnostics.specs.declared.sheet_drugs.Looked.TheVariants as looked

-- a name, and what is wrong there
abbrev pub entry_of : Entry → List ℕ × Data
entry_of e = (e.name.now, view e.value.now)

abbrev pub wrong_in : Looked → List ℕ → Data → Option Data
wrong_in looked.Share name value = wrong_share name value
wrong_in looked.Drug name value = wrong_drug name value
wrong_in (looked.Tier tiers) name value = wrong_tier (table_view tiers.now) name value
wrong_in looked.Price name value = wrong_price name value
wrong_in (looked.Lacking k) name value = lacking k name value
