-- Some row is of the family and too soon exactly where some row of the family is too soon.
use Rattle.std.proofs.Common.{◌∙◌, ap, rules, tests}
use Rattle.std.specs.Prelude.{◌&&◌}
use Rattle.std.specs.List.{list_any}
use Rattle.std.proofs.lemmas.Iterator.{YieldsList-from_slice}
use Rattle.std.proofs.lemmas.Iterator.Search.{any_from_yields_List}
use Rattle.rx_ledger.specs.Answers.{is_too_soon}
use Rattle.rx_ledger.specs.Rows.{claimed_by}
use Rattle.rx_ledger.specs.declared.row.Row.{Row}
use Rattle.rx_ledger.proofs.Found.{any_of_passed}
use Rattle.rx_ledger.proofs.plain.LedgerBasis.is_too_soon.Goals as goal

pub returns : goal.returns
returns c =
    let own = claimed_by c.args.bill.now.family in
    let soon = is_too_soon c.args.figures.now c.args.date c.args.bill.now in
    let any = any_from_yields_List (λ (r : Row). own r && soon r) _ _ c.any.result c.any.ensures.ran
    (YieldsList-from_slice c.rows.result.now cc) (λ x b q k. search (rules, tests)) in
    any ∙ ap (list_any (λ (r : Row). own r && soon r)) c.rows.ensures.value
    ∙ any_of_passed own soon c.args.self.now.rows
