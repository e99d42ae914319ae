use Rattle.std.proofs.Common.{◌≡◌, length}
use Rattle.rx_report_text.specs.Reasons.{without_front}
use Rattle.rx_report_text.proofs.reasons.without_front.Given as goal

-- what is left without its blanks is the text without them
abbrev pub invariant-loop-rest : goal.invariant-loop-rest
invariant-loop-rest l = without_front l.rest ≡ without_front l.text

abbrev pub decreases-loop-rest : goal.decreases-loop-rest
decreases-loop-rest l = length l.rest
