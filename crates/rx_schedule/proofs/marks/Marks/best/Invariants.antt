-- The best so far, of the names so far.
use Rattle.std.proofs.Common.{◌≡◌, take}
use Rattle.rx_schedule.specs.Marked.{best_of}
use Rattle.rx_schedule.proofs.marks.Marks.best.Given as goal

abbrev pub invariant-names : goal.invariant-names
invariant-names g l = l.best ≡ best_of g.K.Ord.cmp l.self.last (take l.name-index l.names) l.fn.there
