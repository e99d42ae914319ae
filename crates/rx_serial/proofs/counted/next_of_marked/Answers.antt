use Rattle.std.proofs.Common.{List, Bool, refl, ap, subst, ◌∙◌}
use Rattle.std.proofs.lemmas.List.Sums.{sum_by-cons}
use Rattle.std.proofs.lemmas.Option.{IfSome_then}
use Rattle.rx_books_store.specs.Standing.{ArePassed}
use Rattle.rx_serial.specs.Fills.{fills_in, one_of}
use Rattle.rx_serial.proofs.Marked.{IfNone_then, fills_passed}
use Rattle.rx_serial.proofs.counted.next_of_marked.Goals as goal

pub returns-clause-none : goal.returns-clause-none
returns-clause-none c =
    let before = c.args.standing.now in
    let after = c.pass_unmarked.new.self in
    let passed = subst (λ (marks : List Bool). ArePassed marks before after) c.deref.ensures.value c.pass_unmarked.ensures in
    IfNone_then c.next_row.result c.next_row.ensures.none (λ none k own.
    fills_passed before.members c.args.marks.now.members.items c.requires k own before after refl passed
    ∙ ap (λ rows. fills_in before.members rows k) none)

pub returns-clause-row : goal.returns-clause-row
returns-clause-row c =
    let before = c.args.standing.now in
    let after = c.pass_unmarked.new.self in
    let passed = subst (λ (marks : List Bool). ArePassed marks before after) c.deref.ensures.value c.pass_unmarked.ensures in
    IfSome_then c.next_row.result c.next_row.ensures.row (λ r is k own.
    fills_passed before.members c.args.marks.now.members.items c.requires k own before after refl passed
    ∙ ap (λ rows. fills_in before.members rows k) is
    ∙ sum_by-cons (one_of before.members k) r.0.now c.next_row.new.self.rows)
