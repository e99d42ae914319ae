use Rattle.std.proofs.Common.{◌≡◌, Some, sym, ap, ◌∙◌}
use Rattle.std.specs.Option.{option_copied}
use Rattle.std.specs.Ordering.{nat_cmp}
use Rattle.rx_ledger.specs.Plan.{is_drug, listed_product}
use Rattle.rx_sorted.specs.Ascending.{item_at}
use Rattle.rx_ledger.specs.declared.sheet.Listed.{Listed}
use Rattle.rx_ledger.proofs.Passed.{passed_found}
use Rattle.rx_ledger.proofs.sheet.Sheet.drug.Goals as goal

pub returns-clause-within : goal.returns-clause-within
returns-clause-within c =
    let listed : Listed = c.in_ok-listed.listed.now in
    let found : item_at nat_cmp listed_product c.self.inside.drugs c.args.product ≡ Some listed =
    sym c.get.ensures ∙ ap option_copied c.in_ok-listed.was in
    passed_found (λ (l : Listed). is_drug l.drug) nat_cmp listed_product c.self.inside.drugs c.args.product listed
    c.self.invariant.drugs_fit found
