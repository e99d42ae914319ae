use Rattle.std.proofs.Common.{replicate}
use Rattle.rx_print.specs.Page.{Writes}
use Rattle.rx_print.proofs.page.Page.blanks.Given as goal

-- this many blanks as turns are done
abbrev pub invariant-blanks : goal.invariant-blanks
invariant-blanks l = Writes l.fn.self l.self (replicate l.counter 32)
