-- The front is within bytes that are more.
use Rattle.std.proofs.Common.{arith}
use Rattle.std.proofs.lemmas.List.{length-take}
use Rattle.rx_commands.proofs.verdict.lines.put_front.Goals as goal

pub slice_bounds-front-end : goal.slice_bounds-front-end
slice_bounds-front-end c = omega (arith, length-take 60 c.args.bytes.now, c.if-bytes-le-LONGEST.false)
