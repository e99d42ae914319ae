use Rattle.std.proofs.Common.{arith, rules}
use Rattle.std.proofs.lemmas.List.{take_all}
use Rattle.std.proofs.lemmas.List.Sums.{suffix_len-take_yes, suffix_len-take_no}
use Rattle.std.proofs.lemmas.Grind.{common_steps}
use Rattle.rx_run_log.proofs.settlement.line_start.Goals as goal

pub loop-start-init : goal.loop-start-init
loop-start-init c = search (rules, take_all)

pub loop-start-preserved : goal.loop-start-preserved
loop-start-preserved c = grind (arith, common_steps, suffix_len-take_yes)

pub returns-else-text-start-ne10 : goal.returns-else-text-start-ne10
returns-else-text-start-ne10 c = grind (arith, common_steps, suffix_len-take_no)
