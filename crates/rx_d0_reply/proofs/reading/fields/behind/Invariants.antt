use Rattle.std.proofs.Common.{◌≡◌, ◌-◌}
use Rattle.rx_d0_reply.specs.Readers.{behind}
use Rattle.rx_d0_reply.proofs.reading.fields.behind.Given as goal

abbrev pub invariant-loop : goal.invariant-loop
invariant-loop l = behind (l.count - l.counter) l.text l.rest ≡ behind l.count l.text l.bytes
