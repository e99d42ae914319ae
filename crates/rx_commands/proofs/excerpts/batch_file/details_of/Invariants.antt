-- As many empty details as turns are done.
use Rattle.std.proofs.Common.{◌≡◌, replicate}
use Rattle.rx_commands.specs.ExcerptParts.{empty_detail}
use Rattle.rx_commands.proofs.excerpts.batch_file.details_of.Given as goal

abbrev pub invariant-empty : goal.invariant-empty
invariant-empty l = l.details.items ≡ replicate l.counter empty_detail
