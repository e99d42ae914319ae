use Rattle.std.proofs.Common.{sym, ap, ◌∙◌}
use Rattle.std.specs.Arc.{arc_value}
use Rattle.std.specs.Prelude.{slice_get}
use Rattle.rx_books_store.proofs.Openings.{absent-has, found-has, name_at}
use Rattle.rx_books_store.proofs.opening.Lists.family_of.Goals as goal

pub returns-in-Ok-clause-found : goal.returns-in-Ok-clause-found
returns-in-Ok-clause-found c =
    rw (← c.self.view_is) (ap (λ fs. slice_get fs c.in-Ok.at) (sym c.self.invariant.all_families)
    ∙ name_at c.self.inside.families c.args.family.now c.in-Ok.at c.in-Ok.ensures.found)

pub returns-in-Ok-clause-listed : goal.returns-in-Ok-clause-listed
returns-in-Ok-clause-listed c =
    rw (← c.self.view_is) (sym (found-has (record { members = c.self.inside.members; rows = arc_value c.self.inside.rows }) c.self.inside.families
    c.args.family.now c.in-Ok.at c.self.invariant.all_families c.in-Ok.ensures.found))

pub returns-in-Err-clause-listed : goal.returns-in-Err-clause-listed
returns-in-Err-clause-listed c =
    rw (← c.self.view_is) (sym (absent-has (record { members = c.self.inside.members; rows = arc_value c.self.inside.rows }) c.self.inside.families
    c.args.family.now c.in-Err.field-0 c.self.invariant.all_families c.in-Err.ensures.absent))
