use Rattle.std.proofs.Common.{◌≡◌, ◌+◌, length}
use Rattle.rx_batch.specs.declared.layout.TheConstants.{STX}
use Rattle.rx_run_log.specs.Traffic.{count_of}
use Rattle.rx_run_log.proofs.marks.Marks.of.Given as goal

-- what is counted, and what is left to count
abbrev pub invariant-loop-block : goal.invariant-loop-block
invariant-loop-block l = record {
  line_feeds : l.line_feeds + count_of 10 l.rest ≡ count_of 10 l.fn.bytes;
  starts : l.starts + count_of STX l.rest ≡ count_of STX l.fn.bytes;
}

abbrev pub decreases-loop-block : goal.decreases-loop-block
decreases-loop-block l = length l.rest
