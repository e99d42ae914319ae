use Rattle.std.proofs.Common.{◌≡◌, ◌<◌, ◌≤◌, ◌^◌, true, take}
use Rattle.rx_text.specs.Bytes.{all_digits}
use Rattle.rx_fields.specs.Digits.{number}
use Rattle.rx_books_scan.proofs.field.digits_at.Given as goal

-- the bytes so far are digits, at most eighteen, of the number so far
abbrev pub invariant-loop-at : goal.invariant-loop-at
invariant-loop-at l = record {
  few : l.at ≤ 18;
  digits : all_digits (take l.at l.bytes) ≡ true;
  so_far : l.number ≡ number (take l.at l.bytes);
  within : l.number < 10 ^ l.at;
}
