use Rattle.std.proofs.Common.{◌≡◌, ◌++◌, ◌+◌, drop, false}
use Rattle.rx_show.specs.ReplyLines.{lines_from, reply_lines}
use Rattle.rx_show.proofs.responses.lines.reply_lines.Given as goal

abbrev pub invariant-loop-before : goal.invariant-loop-before
invariant-loop-before l =
    l.page.lacks ≡ false → l.page.bytes.items ++ lines_from (l.before + 1) (drop l.before l.found) ≡ reply_lines l.found
