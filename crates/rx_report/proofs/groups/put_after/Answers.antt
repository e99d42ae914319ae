use Rattle.std.proofs.Common.{◌∷◌, [], ◌++◌, sym, ap, ◌∙◌}
use Rattle.rx_report.specs.Adding.{groups_in}
use Rattle.rx_report.proofs.Putting.{first, put_back}
use Rattle.rx_report.proofs.groups.put_after.Goals as goal

-- the items of the provider are put back with one more
pub returns-in_ok-push-in-Some : goal.returns-in_ok-push-in-Some
returns-in_ok-push-in-Some g c =
    put_back c.args.provider c.args.item c.index_mut.result.now c.push.new.self c.args.groups.now.entries c.in-Some.at
    (sym c.in-Some.ensures.index) c.index_mut.ensures.value c.in_ok-push-in-Some.ensures.items

-- the provider is new
pub returns-in_ok-insert-in-None : goal.returns-in_ok-insert-in-None
returns-in_ok-insert-in-None g c =
    ap groups_in c.in_ok-insert-in-None.ensures.entries
    ∙ first c.args.provider c.args.item c.push-in-None.new.self c.args.groups.now.entries (sym c.in-None.ensures.found)
    (c.in_ok-push-in-None.ensures.items ∙ ap (λ xs. xs ++ c.args.item ∷ []) c.new-items.ensures.items)
