-- The longest of the rows so far that are early fills.
use Rattle.std.proofs.Common.{◌≡◌, None, filter, take}
use Rattle.std.specs.List.{fold}
use Rattle.rx_explain.specs.Opens.{is_early_fill}
use Rattle.rx_explain.specs.Shown.{fill_cmp, first_with}
use Rattle.rx_explain.proofs.family.longest_fill.Given as goal

abbrev pub invariant-loop-row : goal.invariant-loop-row
invariant-loop-row l =
    l.longest ≡ fold (first_with (fill_cmp l.figures l.provider)) None (filter (is_early_fill l.figures l.date l.bill) (take l.row-index l.rows))
