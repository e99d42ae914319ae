use Rattle.std.proofs.Common.{◌++◌, ◌∷◌, [], None, map, sym, ap, ◌∙◌, subst}
use Rattle.std.specs.List.{AllZip}
use Rattle.std.specs.Prelude.{IfOk}
use Rattle.std.specs.Vec.{vec_items}
use Rattle.rx_commands.specs.Cycle.{IsAnswered, IsCycleText}
use Rattle.rx_commands.proofs.cycle.law.settle_alone.Goals as goal

-- the one file answers the one batch
pub returns-clause-reads : goal.returns-clause-reads
returns-clause-reads c batch is =
    let files = c.deref.ensures.value ∙ c.in_ok-push.ensures.items
    ∙ ap (λ fs. fs ++ c.args.response ∷ []) c.new-files.ensures.items in
    c.settle_cycle.ensures.reads (batch ∷ [])
    (subst (λ fs. AllZip IsAnswered (map vec_items fs) (batch ∷ [])) (sym files) (is, tt))

pub returns-clause-printed : goal.returns-clause-printed
returns-clause-printed c =
    let files = c.deref.ensures.value ∙ c.in_ok-push.ensures.items
    ∙ ap (λ fs. fs ++ c.args.response ∷ []) c.new-files.ensures.items in
    subst (λ fs. IfOk c.settle_cycle.result (λ text. IsCycleText (map vec_items fs) None text.items)) files
    c.settle_cycle.ensures.settled
