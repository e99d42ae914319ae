use Rattle.std.proofs.Common.{◌≡◌, ◌++◌, take, drop}
use Rattle.rx_d0_values.specs.Echoed.{blanked}
use Rattle.rx_d0_values.proofs.echo.blank_unprintable.Given as goal

abbrev pub invariant-loop-byte : goal.invariant-loop-byte
invariant-loop-byte l = l.bytes ≡ blanked (take l.byte-index l.initial.bytes) ++ drop l.byte-index l.initial.bytes
