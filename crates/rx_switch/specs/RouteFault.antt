-- Meaning: where a fault of a plan's texts stands among the faults of a switch.
use Rattle.std.specs.Prelude.{ℕ}
use Rattle.rx_switch.specs.declared.fault.SwitchFault.{SwitchFault}
use Rattle.rx_switch.specs.declared.fault.SwitchFault.TheVariants as switch
use Rattle.rx_switch.specs.declared.route_fault.RouteFault.{RouteFault}
use Rattle.rx_switch.specs.declared.route_fault.RouteFault.TheVariants as fault

-- out of memory is no plan's, and any other fault of its texts is the plan's
abbrev pub of_plan : ℕ → SwitchFault → RouteFault
of_plan n switch.Memory = fault.Switch switch.Memory
of_plan n f = fault.Plan n f
