use Rattle.std.proofs.Common.{length, ap, ◌++◌}
use Rattle.std.proofs.lemmas.List.{drop-replicate}
use Rattle.rx_fields.specs.declared.code.Code.TheVariants.{Bin}
use Rattle.rx_d0_values.proofs.codes.filled.Goals as goal

pub returns : goal.returns
returns c =
    rw (c.copy_from_slice.ensures.after) (ap (λ rest. c.args.codes.now ++ rest) (drop-replicate (length c.args.codes.now) 5 Bin))
