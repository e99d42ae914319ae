-- The names so far have the mark, and the others what they had.
use Rattle.std.proofs.Common.{◌≡◌, Some, take}
use Rattle.std.specs.Prelude.{if◌then◌else◌}
use Rattle.std.specs.BTreeMap.{get}
use Rattle.rx_schedule.specs.Marked.{has_name}
use Rattle.rx_schedule.proofs.marks.Marks.note.Given as goal

abbrev pub invariant-names : goal.invariant-names
invariant-names g l = (k : _) → get g.K.Ord.cmp l.self.last k
    ≡ (if has_name g.K.Ord.cmp (take l.name-index l.names) k then Some l.mark else get g.K.Ord.cmp l.initial.self.last k)
