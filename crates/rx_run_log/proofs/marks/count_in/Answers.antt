use Rattle.std.proofs.Common.{eqb, ap, ◌∙◌, arith, w8}
use lib.Count.{ones}
use Rattle.std.proofs.lemmas.Simd.{bitmask_splat, ones-mask_l}
use Rattle.rx_run_log.proofs.marks.count_in.Goals as goal

pub returns : goal.returns
returns c =
    c.from.ensures ∙ ap ones (bitmask_splat w8 eqb c.args.block.now 64 c.args.mark (omega arith) (omega arith))
    ∙ ones-mask_l (λ x. eqb x c.args.mark) c.args.block.now
