-- The map has what it had, and the billers among the transactions so far.
use Rattle.std.proofs.Common.{◌≡◌, ◌||◌, ℕ, List, take}
use Rattle.std.specs.List.{flat_map}
use Rattle.rx_fields.specs.declared.key.Key.{Key}
use Rattle.rx_schedule.specs.Billed.{has_family, is_biller}
use Rattle.rx_schedule.specs.Footprints.{billed_by}
use Rattle.rx_schedule.proofs.billers.Billers.note_heard.Given as goal

abbrev pub invariant-billings : goal.invariant-billings
invariant-billings l =
    (k : Key) (f : List ℕ) → is_biller l.self.families k f
    ≡ (has_family (flat_map (billed_by l.heard k) (take l.transaction-index l.transaction-items)) f
    || is_biller l.initial.self.families k f)
