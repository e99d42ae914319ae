-- The courses ascend.
use Rattle.std.proofs.Common.{rules, tests}
use Rattle.std.proofs.lemmas.List.Sorted.{IsPartitionPoint-from_clause}
use Rattle.rx_serial.specs.Fills.{is_not_past}
use Rattle.rx_serial.proofs.Refills.{parted_not_past}
use Rattle.rx_serial.proofs.refill.Refill.end_found.Goals as goal

pub returns-clause-before : goal.returns-clause-before
returns-clause-before c =
    let course = c.args.self.now.course in
    let xs = c.args.fills.now in
    let point = IsPartitionPoint-from_clause (is_not_past course) xs c.partition_point.result
    c.partition_point.ensures.partitioned (parted_not_past course xs c.requires) (λ y r f called. search (rules, tests)) in
    point.0

pub returns-clause-past : goal.returns-clause-past
returns-clause-past c =
    let course = c.args.self.now.course in
    let xs = c.args.fills.now in
    let point = IsPartitionPoint-from_clause (is_not_past course) xs c.partition_point.result
    c.partition_point.ensures.partitioned (parted_not_past course xs c.requires) (λ y r f called. search (rules, tests)) in
    point.1
