-- The digits of the rest, and after them those that are written, are the whole text.
use Rattle.std.proofs.Common.{◌≡◌, ◌++◌, drop, length}
use Rattle.rx_fields.specs.Digits.{digits_text}
use Rattle.rx_fields.proofs.digits.digits_write.Given as goal

abbrev pub invariant-loop-i : goal.invariant-loop-i
invariant-loop-i g l = record {
  room : length l.digits ≡ g.row.N;
  text : digits_text l.i l.rest ++ drop l.i l.digits ≡ digits_text g.row.N l.fn.number;
}
