use Rattle.std.proofs.Common.{List, Bool, refl, ap, subst, ◌∙◌}
use Rattle.std.specs.List.{filter}
use Rattle.std.proofs.lemmas.Option.{IfSome_then}
use Rattle.rx_ledger.specs.Rows.{claimed_by}
use Rattle.rx_books_store.specs.Standing.{ArePassed}
use Rattle.rx_serial.proofs.Marked.{IfNone_then}
use Rattle.rx_commands.proofs.FamilyPassed.{claims_passed}
use Rattle.rx_commands.proofs.family.rows.next_marked.Goals as goal

pub returns-clause-none : goal.returns-clause-none
returns-clause-none c =
    let before = c.args.standing.now in
    let after = c.pass_unmarked.new.self in
    IfNone_then c.next_row.result c.next_row.ensures.none (λ none family own.
    claims_passed family before.members before after refl
    (subst (λ (marks : List Bool). ArePassed marks before after) own c.pass_unmarked.ensures)
    ∙ ap (λ rows. filter (claimed_by family) rows) none)

pub returns-clause-row : goal.returns-clause-row
returns-clause-row c =
    let before = c.args.standing.now in
    let after = c.pass_unmarked.new.self in
    IfSome_then c.next_row.result c.next_row.ensures.row (λ r is family own.
    claims_passed family before.members before after refl
    (subst (λ (marks : List Bool). ArePassed marks before after) own c.pass_unmarked.ensures)
    ∙ ap (λ rows. filter (claimed_by family) rows) is)
