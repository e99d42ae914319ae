use Rattle.std.proofs.Common.{◌≡◌}
use Rattle.toml.specs.View.{table_view, members_view}
use Rattle.rx_sheet.specs.Drugs.{are_shares}
use Rattle.rx_sheet.proofs.drugs.are_shares.Given as goal

abbrev pub invariant-loop-name : goal.invariant-loop-name
invariant-loop-name l = are_shares (members_view l._name-iterator) ≡ are_shares (table_view l.tiers)
