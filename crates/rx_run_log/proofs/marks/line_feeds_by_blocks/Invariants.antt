use Rattle.std.proofs.Common.{◌≡◌, ◌+◌, length}
use Rattle.rx_run_log.specs.Traffic.{count_of}
use Rattle.rx_run_log.proofs.marks.line_feeds_by_blocks.Given as goal

-- what is counted, and what is left to count
abbrev pub invariant-loop-block : goal.invariant-loop-block
invariant-loop-block l = l.count + count_of 10 l.rest ≡ count_of 10 l.fn.bytes

abbrev pub decreases-loop-block : goal.decreases-loop-block
decreases-loop-block l = length l.rest
