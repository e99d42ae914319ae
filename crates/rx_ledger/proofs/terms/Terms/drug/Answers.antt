use Rattle.std.proofs.Common.{sym, ◌∙◌}
use Rattle.std.specs.Ordering.{nat_cmp}
use Rattle.rx_ledger.specs.Plan.{is_drug, listed_product}
use Rattle.rx_ledger.specs.TermList.{drugs_in}
use Rattle.rx_ledger.specs.declared.sheet.Listed.{Listed}
use Rattle.rx_ledger.proofs.Passed.{passed_found}
use Rattle.rx_ledger.proofs.terms.Terms.drug.Goals as goal

pub returns-clause-within : goal.returns-clause-within
returns-clause-within c =
    passed_found (λ (l : Listed). is_drug l.drug) nat_cmp listed_product (drugs_in c.self.inside.places)
    c.args.product c.in_ok-listed.listed
    c.self.invariant.drugs_fit (sym c.listed_in.ensures ∙ c.in_ok-listed.was)
