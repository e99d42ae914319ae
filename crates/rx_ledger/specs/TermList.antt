-- Plumbing: the terms of one record: a lot, and a small plan.
use Rattle.std.specs.Prelude.{◌≡◌, true, List, Option, filter_map}
use Rattle.rx_fields.specs.Numbered.{LotParts}
use Rattle.rx_ledger.specs.declared.figures.Figures.{Figures}
use Rattle.rx_ledger.specs.declared.sheet.Listed.{Listed}
use Rattle.rx_ledger.specs.Plan.{Plan, AreFigures, are_drugs}

-- a lot, the plan's figures, and places for the drugs of a record's four transactions
pub record TermParts : Type 0 where
  pub lot : LotParts
  pub figures : Figures
  pub places : List (Option Listed)

abbrev pub itself : Option Listed → Option Listed
itself listed = listed

-- the drugs in their places
abbrev pub drugs_in : List (Option Listed) → List Listed
drugs_in places = filter_map itself places

-- the plan of these figures and drugs
abbrev pub plan_of : TermParts → Plan
plan_of t = record { figures = t.figures; drugs = drugs_in t.places }

-- figures and drugs are within their ranges
pub record IsTerms (t : TermParts) : Type 0 where
  pub figures_fit : AreFigures t.figures
  pub drugs_fit : are_drugs (drugs_in t.places) ≡ true
