-- The part of the bytes so far.
use Rattle.std.proofs.Common.{◌≡◌, ◌<◌, take}
use Rattle.rx_explain.specs.Parts.{part_of_text}
use Rattle.rx_explain.proofs.part.part_of_text.Given as goal

abbrev pub invariant-loop-byte : goal.invariant-loop-byte
invariant-loop-byte l =
    record {
      value : l.part ≡ part_of_text (take l.byte-index l.bytes);
      within : l.part < 4096;
    }
