use Rattle.std.proofs.Common.{◌≡◌, ◌++◌, drop}
use Rattle.rx_report.specs.Lines.{answer_lines}
use Rattle.rx_report.proofs.lines.put_answers.Given as goal

abbrev pub invariant-loop-before : goal.invariant-loop-before
invariant-loop-before l =
    l.lines.items ++ answer_lines l.place l.asked l.reply l.before (drop l.before l.answers)
    ≡ l.fn.lines.items ++ answer_lines l.place l.asked l.reply 0 l.answers
