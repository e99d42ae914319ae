use Rattle.std.proofs.Common.{◌≡◌, ◌≤◌, ◌%◌, length, drop}
use Rattle.rx_d0_request.specs.Marks.{marks_of}
use Rattle.rx_d0_request.proofs.marks.chunked_marks.Given as goal

-- the marks of what is after a whole number of chunks
abbrev pub invariant-loop-at : goal.invariant-loop-at
invariant-loop-at l =
    record {
      behind : l.marks ≡ marks_of l.byte (drop l.at l.text);
      within : l.at ≤ length l.text;
      whole : l.at % 16 ≡ 0;
    }

abbrev pub decreases-loop-at : goal.decreases-loop-at
decreases-loop-at l = l.at
