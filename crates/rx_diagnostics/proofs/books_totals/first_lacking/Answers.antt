use Rattle.std.proofs.Common.{List, ◌+◌, ◌∙◌, ap, drop, subst, sym}
use Rattle.std.specs.Prelude.{find}
use Rattle.rx_books_text.specs.Printed.{total_family}
use Rattle.rx_books_text.specs.declared.line.TotalLine.{TotalLine}
use Rattle.rx_fields.specs.Order.{id_cmp}
use Rattle.rx_sorted.specs.Ascending.{IsAscending}
use Rattle.rx_diagnostics.specs.BooksTotals.{is_first, lacks_total}
use Rattle.rx_diagnostics.proofs.Lacking.{found, goes_on, still_rise}
use Rattle.rx_diagnostics.proofs.books_totals.first_lacking.Goals as goal

pub returns-then-not-is_first : goal.returns-then-not-is_first
returns-then-not-is_first c =
    let loop = c.loop-member in
    let family = c.member-item.result.key.family in
    let none = ap (is_first family) (sym c.from_family-left.ensures) ∙ sym c.is_first.ensures ∙ c.if-not-is_first.true in
    sym (found loop.left.now c.args.members.now loop.member-index c.member-item.result c.loop-member-test.true c.member-item.is
    loop.invariant.rise none) ∙ loop.invariant.same

pub loop-member-preserved : goal.loop-member-preserved
loop-member-preserved c =
    let loop = c.loop-member in
    let family = c.member-item.result.key.family in
    let left = c.from_family-left in
    let own = ap (is_first family) (sym left.ensures) ∙ sym c.is_first.ensures ∙ c.if-not-is_first.false in
    let more = goes_on loop.left.now c.args.members.now loop.member-index c.member-item.result c.loop-member-test.true c.member-item.is
    loop.invariant.rise c.requires.members own in
    record {
      same =
          ap (λ (ts : List TotalLine). find (lacks_total ts) (drop (loop.member-index + 1) c.args.members.now)) left.ensures
          ∙ more ∙ loop.invariant.same;
      rise = subst (IsAscending id_cmp total_family) (sym left.ensures) (still_rise family loop.left.now loop.invariant.rise);
    }
