-- The plans so far, followed by those of the values from here on, are the plans.
use Rattle.std.proofs.Common.{◌≡◌, ◌+◌, drop, map}
use Rattle.toml.specs.View.{items_view}
use Rattle.rx_sheet.specs.Plans.{parts_of, plans_from}
use Rattle.rx_sheet.proofs.PlanLists.{after}
use Rattle.rx_sheet.proofs.plans.plans_of.Given as goal

abbrev pub invariant-loop-value : goal.invariant-loop-value
invariant-loop-value l =
    (after (map parts_of l.plans.items) (plans_from (l.value-index + 1) (items_view (drop l.value-index l.array)))
    ≡ plans_from 1 (items_view l.array))
    × (l.nth ≡ l.value-index)
