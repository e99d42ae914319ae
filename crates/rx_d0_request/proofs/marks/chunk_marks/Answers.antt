use Rattle.std.proofs.Common.{take, eqb, arith, w8}
use Rattle.std.proofs.lemmas.List.{length-take}
use Rattle.std.proofs.lemmas.Simd.{bitmask_splat}
use Rattle.rx_d0_request.proofs.marks.chunk_marks.Goals as goal

pub returns : goal.returns
returns c = bitmask_splat w8 eqb (take 16 c.args.text.now) 16 c.args.byte (omega (arith, length-take 16 c.args.text.now)) (omega arith)
