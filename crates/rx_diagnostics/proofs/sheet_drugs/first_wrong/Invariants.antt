-- What is found among the entries that are left is what is found among all.
use Rattle.std.proofs.Common.{◌≡◌}
use Rattle.toml.specs.View.{members_view, table_view}
use Rattle.rx_diagnostics.specs.SheetEntries.{wrong_in}
use Rattle.rx_diagnostics.specs.SheetValues.{first_wrong}
use Rattle.rx_diagnostics.proofs.sheet_drugs.first_wrong.Given as goal

abbrev pub invariant-loop-name : goal.invariant-loop-name
invariant-loop-name l =
    first_wrong (wrong_in l.looked) (members_view l.name-iterator) ≡ first_wrong (wrong_in l.looked) (table_view l.table)
