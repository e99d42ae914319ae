use Rattle.std.specs.BTreeMap.{get}
use Rattle.rx_schedule.proofs.MarkedNames.{noted_more}
use Rattle.rx_schedule.proofs.marks.Marks.note.Goals as goal

pub names-preserved : goal.names-preserved
names-preserved g c = λ k.
    noted_more g.K.Ord.cmp c.args.names.now c.names.name-index c.name-item.result k c.args.mark
    (get g.K.Ord.cmp c.args.self.now.last k) (get g.K.Ord.cmp c.names.self.last k) (get g.K.Ord.cmp c.insert.new.self k)
    c.names-test.true c.name-item.is (c.names.invariant k) (c.in_ok-insert.ensures.updates.0 k)
