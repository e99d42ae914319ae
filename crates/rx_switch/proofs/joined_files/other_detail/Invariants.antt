-- The references so far are the same.
use Rattle.std.proofs.Common.{◌≡◌, map, take}
use Rattle.rx_batch.specs.declared.detail.Detail.{Detail}
use Rattle.rx_switch.proofs.joined_files.other_detail.Given as goal

abbrev pub invariant-loop-before : goal.invariant-loop-before
invariant-loop-before l =
    map (λ (d : Detail). d.reference) (take l.before l.own) ≡ map (λ (d : Detail). d.reference) (take l.before l.details)
