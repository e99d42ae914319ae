use Rattle.std.proofs.Common.{◌≡◌, ◌≤◌, ◌+◌, ◌==◌, count_by, length}
use Rattle.rx_d0_request.proofs.marks.count_of.Given as goal

-- what was counted, and what is left
abbrev pub invariant-loop-rest : goal.invariant-loop-rest
invariant-loop-rest l =
    record {
      counted : l.count + count_by (λ b. b == l.byte) l.rest ≡ count_by (λ b. b == l.byte) l.text;
      passed : l.count + length l.rest ≤ length l.text;
    }

abbrev pub decreases-loop-rest : goal.decreases-loop-rest
decreases-loop-rest l = length l.rest
