-- The heading, and the lines of the members so far.
use Rattle.std.proofs.Common.{◌≡◌, take}
use Rattle.rx_books_upkeep.specs.Report.{changes_text}
use Rattle.rx_books_upkeep.proofs.report.changes_text.Given as goal

abbrev pub invariant-loop-change : goal.invariant-loop-change
invariant-loop-change l = l.text.items ≡ changes_text (take l.change-index l.changes)
