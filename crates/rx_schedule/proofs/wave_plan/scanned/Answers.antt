use Rattle.std.proofs.Common.{◌≡◌, ◌≤◌, length, arith, subst}
use Rattle.rx_schedule.specs.Marked.{IsScan}
use Rattle.rx_schedule.proofs.wave_plan.scanned.Goals as goal

pub returns : goal.returns
returns c =
    let fs = c.args.footprints.now in
    let s = c.records.scan in
    let within : c.records.at ≤ length fs = c.records.invariant.within in
    let all : c.records.at ≡ length fs = omega arith in
    subst (λ n. IsScan fs n s.keys.last s.families.last s.numbers.items s.before.items s.top) all c.records.invariant
