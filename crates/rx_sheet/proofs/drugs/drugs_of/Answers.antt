use Rattle.std.proofs.Common.{◌≡◌, Err, Ok, ap, sym, ◌∙◌, string_bytes}
use Rattle.std.proofs.lemmas.Result.{err_from_is_err_and}
use Rattle.toml.specs.View.{view, members_view, table_view}
use Rattle.rx_sheet.specs.Drugs.{ascending, drugs_of}
use Rattle.rx_sheet.proofs.Ascends.{ascends}
use Rattle.rx_sheet.proofs.DrugLists.{with_front, goes_on, ends, is_done, are_drugs-last, unless_memory}
use Rattle.rx_sheet.proofs.Products.{listed_ascending}
use Rattle.rx_sheet.proofs.drugs.drugs_of.Goals as goal

pub returns-in_err-entry-clause-value : goal.returns-in_err-entry-clause-value
returns-in_err-entry-clause-value c =
    let p = err_from_is_err_and c.from_residual.result c.from_residual.ensures.1 in
    let f = c.in_err-entry.field-0.0 in
    let tiers = table_view c.args.tiers.now in
    let front = c.loop-name.list.items in
    let value = view c.in-Some.value.now in
    let rest = members_view c.next.new.self in
    let turn = ap (λ es. with_front front (drugs_of tiers (members_view es))) c.in-Some.ensures.steps in
    let failed = rw c.as_str.ensures.value at c.in_err-entry.ensures.value in
    let meant : drugs_of tiers (table_view c.args.drugs.now) ≡ Err f =
    sym c.loop-name.invariant.0 ∙ (turn ∙ ends f front tiers (string_bytes c.in-Some.name.now) value rest (sym failed)) in
    let ascend : ascending (table_view c.args.drugs.now) ≡ table_view c.args.drugs.now =
    ascends c.args.drugs.now.entries c.iter-name-items.ensures.ordered in
    rw (p.1, p.2, ascend) (unless_memory f _ meant)

pub loop-name-preserved : goal.loop-name-preserved
loop-name-preserved c =
    let tiers = table_view c.args.tiers.now in
    let front = c.loop-name.list.items in
    let entry = c.in_ok-entry.entry in
    let value = view c.in-Some.value.now in
    let rest = members_view c.next.new.self in
    let turn = ap (λ es. with_front front (drugs_of tiers (members_view es))) c.in-Some.ensures.steps in
    let read = rw c.as_str.ensures.value at c.in_ok-entry.ensures.value in
    let more = goes_on front tiers (string_bytes c.in-Some.name.now) value rest entry (sym read) in
    rw c.in_ok-push.ensures.items (
      more ∙ (sym turn ∙ c.loop-name.invariant.0),
      are_drugs-last front entry c.loop-name.invariant.1 c.in_ok-entry.ensures.within,
    )

pub returns-clause-value : goal.returns-clause-value
returns-clause-value c =
    let tiers = table_view c.args.tiers.now in
    let front = c.loop-name.list.items in
    let end = ap (λ es. with_front front (drugs_of tiers (members_view es))) c.in-None.ensures.steps.0 in
    let ascend : ascending (table_view c.args.drugs.now) ≡ table_view c.args.drugs.now =
    ascends c.args.drugs.now.entries c.iter-name-items.ensures.ordered in
    rw ascend (sym c.loop-name.invariant.0 ∙ (end ∙ is_done front tiers))

pub returns-clause-listed : goal.returns-clause-listed
returns-clause-listed c =
    let tiers = table_view c.args.tiers.now in
    let front = c.loop-name.list.items in
    let end = ap (λ es. with_front front (drugs_of tiers (members_view es))) c.in-None.ensures.steps.0 in
    let value : drugs_of tiers (table_view c.args.drugs.now) ≡ Ok front =
    sym c.loop-name.invariant.0 ∙ (end ∙ is_done front tiers) in
    record {
      fit = c.loop-name.invariant.1;
      ascending = listed_ascending tiers c.args.drugs.now.entries front c.iter-name-items.ensures.ordered value;
    }
