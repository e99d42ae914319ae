use Rattle.std.proofs.Common.{◌≡◌, true}
use Rattle.toml.specs.View.{table_view, members_view}
use Rattle.rx_ledger.specs.Plan.{are_drugs}
use Rattle.rx_sheet.specs.Drugs.{drugs_of}
use Rattle.rx_sheet.proofs.DrugLists.{with_front}
use Rattle.rx_sheet.proofs.drugs.drugs_of.Given as goal

abbrev pub invariant-loop-name : goal.invariant-loop-name
invariant-loop-name l =
    (with_front l.list.items (drugs_of (table_view l.tiers) (members_view l.name-iterator))
    ≡ drugs_of (table_view l.tiers) (table_view l.drugs))
    × (are_drugs l.list.items ≡ true)
