-- Plumbing: the plan that a sheet's text stands for, or the first fault (docs/FORMATS.md, "Plan sheet").
use Rattle.std.specs.Prelude.{ℕ, List, Result, Ok, Err, if◌then◌else◌}
use Rattle.std.specs.Option.{ok_or}
use Rattle.std.specs.Str.{is_utf8}
use Rattle.toml.specs.Data.{Members}
use Rattle.toml.specs.Parse.{parse_document}
use Rattle.rx_ledger.specs.Plan.{Plan}
use Rattle.rx_ledger.specs.declared.figures.Figures.{Figures}
use Rattle.rx_ledger.specs.declared.sheet.Listed.{Listed}
use Rattle.rx_sheet.specs.declared.fault.SheetFault.{SheetFault}
use Rattle.rx_sheet.specs.declared.fault.SheetFault.TheVariants.{NotToml}
use Rattle.rx_sheet.specs.Drugs.{drugs_in}
use Rattle.rx_text.specs.Results.{◌>>=◌}
use Rattle.rx_sheet.specs.Figures.{figures_in, family_deductible_in}

-- the table of a TOML document, whose bytes are UTF-8
unfoldable pub tree_of : List ℕ → Result Members SheetFault
tree_of text = if is_utf8 text then ok_or (parse_document text) NotToml else Err NotToml

-- the plan of these figures and drugs
abbrev pub plan_of : Figures → List Listed → Plan
plan_of figures drugs = record { figures = figures; drugs = drugs }

-- the plan of a table: keys 1 to 9, tiers and drugs, and the family's deductible last
unfoldable pub sheet_in : Members → Result Plan SheetFault
sheet_in sheet = do
  figures ← figures_in sheet
  drugs ← drugs_in sheet
  family_deductible ← family_deductible_in sheet
  Ok (plan_of (record figures { family_deductible = family_deductible }) drugs)

-- the plan of a text
unfoldable pub sheet_of_text : List ℕ → Result Plan SheetFault
sheet_of_text text = tree_of text >>= sheet_in
