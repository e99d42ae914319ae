use Rattle.std.proofs.Common.{◌≡◌, take}
use Rattle.rx_io.specs.Patches.{pieces_text}
use Rattle.rx_io.proofs.patched.Patched.joined.Given as goal

-- the pieces so far
abbrev pub invariant-loop-piece : goal.invariant-loop-piece
invariant-loop-piece l = l.text.items ≡ pieces_text l.lender l.own (take l.piece-index l.piece-items)
