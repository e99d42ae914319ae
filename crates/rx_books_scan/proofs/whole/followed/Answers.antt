use Rattle.std.proofs.Common.{sym, ◌∙◌}
use Rattle.std.specs.List.{flat_map}
use Rattle.std.specs.Vec.{vec_items}
use Rattle.rx_books_scan.proofs.Lengths.{long_more}
use Rattle.rx_books_scan.proofs.Parted.{behind}
use Rattle.rx_books_scan.proofs.whole.followed.Goals as goal

pub returns-clause-lines : goal.returns-clause-lines
returns-clause-lines c =
    let w = c.args.whole in
    let p = c.args.part in
    rw (c.in_ok-members.ensures.members, c.in_ok-members.ensures.deductibles, c.in_ok-runs.ensures, c.in_ok-totals.ensures)
    (behind vec_items w.runs.items w.members.members.items p.members.members.items w.members.deductibles.items
    p.members.deductibles.items p.rows.items w.totals.items p.totals.items w.members.one_each
    (sym c.may_follow.ensures ∙ c.if-not-may_follow.false))

pub returns-clause-measured : goal.returns-clause-measured
returns-clause-measured c = λ v first second.
    let w = c.args.whole in
    let p = c.args.part in
    rw (
      c.in_ok-members.ensures.members,
      c.in_ok-members.ensures.deductibles,
      c.in_ok-members.ensures.bytes,
      c.in_ok-runs.ensures,
      c.in_ok-lengths.ensures,
    )
    (long_more v w.members.members.items p.members.members.items w.members.deductibles.items p.members.deductibles.items
    w.members.bytes p.members.bytes (flat_map vec_items w.runs.items) p.rows.items w.lengths.items p.lengths.items
    w.members.one_each first second)
