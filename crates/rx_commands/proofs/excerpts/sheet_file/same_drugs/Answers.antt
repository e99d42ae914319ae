use Rattle.std.specs.Cmp.Lexicographic.{pointwise_decides}
use Rattle.rx_ledger.proofs.Decided.{listed_decides}
use Rattle.rx_commands.proofs.excerpts.sheet_file.same_drugs.Goals as goal

pub returns : goal.returns
returns c = rw c.eq.ensures (pointwise_decides listed_decides c.args.a.now c.args.b.now)
