use Rattle.std.proofs.Common.{◌≡◌, ◌++◌, ◌∷◌, ◌∙◌, [], ap, subst, sym, refl, drop, ◌+◌}
use Rattle.rx_sorted.proofs.AllSlots.{drop_next, none_left}
use Rattle.rx_sorted.proofs.Kept.{IsAscending-drop, IsAscending-put_all}
use Rattle.rx_ledger.specs.Members.{member_cmp, member_key}
use Rattle.rx_ledger.proofs.Orders.{member_total}
use Rattle.rx_books_upkeep.proofs.MergedMembers.{Rises, joined, joined_more, rest_rises}
use Rattle.rx_books_upkeep.proofs.merging.merged_list.Goals as goal

pub table-preserved : goal.table-preserved
table-preserved c =
    let i = c.table.member-index in
    let y = c.member-item.result in
    let ys = drop (i + 1) c.args.table.now in
    let rest = c.table.rest.now in
    let zs = c.sides_of.result.0.now in
    let after = c.sides_of.result.1.now in
    let left = drop_next i y c.args.table.now c.table-test.true c.member-item.is in
    let above : Rises (y ∷ ys) =
    subst Rises left (IsAscending-drop member_cmp member_total member_key i c.args.table.now c.requires.table) in
    let is = c.sides_of.ensures y refl in
    record {
      rise = rest_rises rest ys y zs after c.table.invariant.rise above is;
      so_far = ap (λ ms. ms ++ joined after ys) (c.in_ok-push.ensures.items
          ∙ ap (λ ms. ms ++ y ∷ []) c.in_ok-extend_from_slice.ensures.items)
          ∙ joined_more rest ys y zs after c.table.invariant.rise above is c.table.list.items
          (joined c.args.members.now c.args.table.now)
          (ap (λ ms. c.table.list.items ++ joined rest ms) (sym left) ∙ c.table.invariant.so_far);
    }

pub returns-clause-value : goal.returns-clause-value
returns-clause-value c =
    let none : drop c.table.member-index c.args.table.now ≡ [] =
    none_left c.table.member-index c.args.table.now c.table-test.false in
    c.in_ok-extend_from_slice-2.ensures.items
    ∙ ap (λ ms. c.table.list.items ++ joined c.table.rest.now ms) (sym none) ∙ c.table.invariant.so_far

pub returns-clause-rise : goal.returns-clause-rise
returns-clause-rise c =
    subst Rises (sym (returns-clause-value c))
    (IsAscending-put_all member_cmp member_total member_key c.args.members.now c.args.table.now c.requires.members)
