use Rattle.std.proofs.Common.{◌≡◌, ◌++◌, ◌+◌, drop, false}
use Rattle.rx_show.specs.ReplyLines.{answer_lines}
use Rattle.rx_show.proofs.responses.lines.put_answers.Given as goal

abbrev pub invariant-loop-before : goal.invariant-loop-before
invariant-loop-before l = l.page.lacks ≡ false
    → (l.fn.page.lacks ≡ false) × (l.page.bytes.items ++ answer_lines l.place l.echo (l.before + 1) (drop l.before l.answers)
    ≡ l.fn.page.bytes.items ++ answer_lines l.place l.echo 1 l.answers)
