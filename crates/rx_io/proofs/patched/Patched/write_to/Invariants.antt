use Rattle.std.proofs.Common.{◌≡◌, false, take}
use Rattle.rx_io.specs.Patches.{pieces_text}
use Rattle.rx_io.specs.Writing.{Gathers}
use Rattle.rx_io.proofs.patched.Patched.write_to.Given as goal

-- the pieces so far are written or gathered, and no write failed
abbrev pub invariant-loop-piece : goal.invariant-loop-piece
invariant-loop-piece g l = record {
  written : Gathers (g.S.Sink.written l.initial.sink) (g.S.Sink.written l.sink) l.gathered.items
      (pieces_text l.lender l.own (take l.piece-index l.piece-items));
  works : g.S.Sink.failed l.sink ≡ false;
}
