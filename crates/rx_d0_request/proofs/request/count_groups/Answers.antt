use Rattle.std.proofs.Common.{sym, ◌∙◌}
use Rattle.rx_text.specs.declared.separators.TheConstants.{GROUP}
use Rattle.rx_d0_request.proofs.Counts.{length_further_cut}
use Rattle.rx_d0_request.proofs.request.count_groups.Goals as goal

pub returns : goal.returns
returns c = c.count_of.ensures ∙ sym (length_further_cut GROUP c.args.rest.now)
