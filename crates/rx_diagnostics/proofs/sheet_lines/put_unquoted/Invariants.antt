use Rattle.std.proofs.Common.{◌≡◌, ◌++◌, take}
use Rattle.rx_diagnostics.specs.SheetLines.{unquoted}
use Rattle.rx_diagnostics.proofs.sheet_lines.put_unquoted.Given as goal

abbrev pub invariant-loop-byte : goal.invariant-loop-byte
invariant-loop-byte l = l.path.items ≡ l.fn.path.items ++ unquoted (take l.byte-index l.names)
