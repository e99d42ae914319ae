use Rattle.std.proofs.Common.{◌≡◌, ◌++◌, take}
use Rattle.rx_print.specs.Escape.{escaped}
use Rattle.rx_print.proofs.escape.put_escaped.Given as goal

abbrev pub invariant-loop-byte : goal.invariant-loop-byte
invariant-loop-byte l = l.text.items ≡ l.fn.text.items ++ escaped l.style (take l.byte-index l.bytes)
