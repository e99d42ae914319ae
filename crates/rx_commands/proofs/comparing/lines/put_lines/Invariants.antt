use Rattle.std.proofs.Common.{◌≡◌, ◌≤◌, ◌*◌}
use Rattle.rx_print.specs.Page.{Writes}
use Rattle.rx_commands.specs.Changes.{after, no_change, weight}
use Rattle.rx_commands.specs.ComparedText.{lines_after}
use Rattle.rx_commands.proofs.ComparedLines.{so_far}
use Rattle.rx_commands.proofs.comparing.lines.put_lines.Given as goal

-- the answers so far that differ have their lines, and are counted
abbrev pub invariant-loop-at : goal.invariant-loop-at
invariant-loop-at l = record {
  lines : Writes l.fn.page l.page (lines_after l.form 0 (so_far l.replies l.lines l.with_replies l.with_lines l.at));
  change : l.change ≡ after no_change (so_far l.replies l.lines l.with_replies l.with_lines l.at);
  within : weight l.change ≤ 400_000_001 * l.at;
}
