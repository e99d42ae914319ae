use Rattle.std.proofs.Common.{◌≡◌, map, take}
use Rattle.rx_report_text.specs.Columns.{wide}
use Rattle.rx_report_text.proofs.wide.all_wide.Given as goal

abbrev pub invariant-loop-shown : goal.invariant-loop-shown
invariant-loop-shown l = l.wides.items ≡ map (wide l.sections) (take l.shown-index l.columns)
