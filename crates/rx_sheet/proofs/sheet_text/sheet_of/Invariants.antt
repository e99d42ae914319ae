use Rattle.std.proofs.Common.{◌≡◌, take}
use Rattle.rx_sheet.specs.SheetText.{plan_of}
use Rattle.rx_sheet.proofs.sheet_text.sheet_of.Given as goal

abbrev pub invariant-loop-listed : goal.invariant-loop-listed
invariant-loop-listed l = l.sheet ≡ plan_of l.fn.figures (take l.listed-index l.drugs)
