use Rattle.std.proofs.Common.{◌≡◌, replicate}
use Rattle.rx_desk.specs.declared.state.State.TheVariants.{Waiting}
use Rattle.rx_desk.proofs.making.put_waiting.Given as goal

abbrev pub invariant-records : goal.invariant-records
invariant-records l = l.states.items ≡ replicate l.at Waiting
