-- Meaning: which figures and drugs make a plan.
use Rattle.std.specs.Prelude.{◌≡◌, true, List, [], Option, Some, None, Result, Ok, Err}
use Rattle.rx_ledger.specs.declared.figures.Figures.{Figures}
use Rattle.rx_ledger.specs.declared.sheet.Listed.{Listed}
use Rattle.rx_ledger.specs.declared.sheet_key.SheetKey.{SheetKey}
use Rattle.rx_ledger.specs.declared.sheet_key.Wrong.{Wrong}
use Rattle.rx_ledger.specs.Plan.{Plan, AreFigures, are_drugs, wrong_figure}

-- figures and drugs are within their ranges
pub record IsPlan (figures : Figures) (drugs : List Listed) : Type 0 where
  pub figures_fit : AreFigures figures
  pub drugs_fit : are_drugs drugs ≡ true

-- the plan of these figures, without drugs, or the first figure outside its range
abbrev pub planned : Figures → Option SheetKey → Result Plan Wrong
planned figures None = Ok (record { figures = figures; drugs = [] })
planned figures (Some key) = Err (record { 0 = key })

abbrev pub sheet_of : Figures → Result Plan Wrong
sheet_of figures = planned figures (wrong_figure figures)
