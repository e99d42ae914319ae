use Rattle.std.proofs.Common.{arith, length, ◌-◌}
use Rattle.std.proofs.lemmas.Slice.{take-put_mid_below}
use Rattle.rx_io.proofs.reading.read_after.Goals as goal

pub returns-clause-front : goal.returns-clause-front
returns-clause-front g c =
    let text = c.args.text.now in
    take-put_mid_below c.args.len (length text - c.args.len) text c.read_within.new.room c.args.len (omega arith)
    (omega (arith, c.requires.room))
