use Rattle.std.proofs.Common.{◌≡◌, ◌≤◌, List, Some, length, drop, sym, subst, ap, ◌∙◌}
use Rattle.std.specs.Prelude.{IfSome}
use Rattle.std.specs.List.{All, filter}
use Rattle.std.proofs.lemmas.List.Elements.{All-drop}
use Rattle.rx_fields.specs.Order.{key_cmp}
use Rattle.rx_sorted.proofs.Kept.{IsAscending-drop}
use Rattle.rx_ledger.proofs.Orders.{key_total}
use Rattle.rx_ledger.specs.declared.member.Member.{Member}
use Rattle.rx_ledger.specs.Ledger.{Ledger}
use Rattle.rx_books_store.specs.Standing.{IsUnmarked}
use Rattle.rx_books_store.specs.Store.{slot_key, standing_rows}
use Rattle.rx_books_store.proofs.Marked.{rows_fewer, rows_passed}
use Rattle.rx_books_store.proofs.Passes.{Own}
use Rattle.rx_books_store.proofs.standing.Standing.pass_unmarked.Goals as goal

pub returns : goal.returns
returns c =
    let O : Ledger = c.self.inside.opening.now in
    let all = c.self.inside.slots.now in
    let slots = drop c.self.inside.slot all in
    let marks = c.args.marks.now in
    let i = c.self.inside.row in
    let j = c.next_marked-self-inside.result in
    let rise = c.next_marked-self-inside.ensures.in_order.rows_rise in
    let slots_rise = IsAscending-drop key_cmp key_total slot_key c.self.inside.slot all c.self.invariant.rise in
    let own : All Own slots = All-drop Own c.self.inside.slot all (λ k d lt. (c.self.invariant.own k d lt).under) in
    let same_members : O.members ≡ c.args.self.now.members = ap (λ (L : Ledger). L.members) c.self.view_is in
    record {
      members = same_members;
      rows = λ p refuses.
          sym (rows_passed p i j O.rows slots rise slots_rise own c.next_marked-self-inside.ensures.later
          c.next_marked-self-inside.ensures.within (λ m r le lt there.
          refuses r (subst (λ (ms : List Member). IsUnmarked ms marks r) same_members
          (subst (λ o. IfSome o (IsUnmarked O.members marks)) there (c.next_marked-self-inside.ensures.unmarked m le lt)))))
          ∙ ap (λ (L : Ledger). filter p L.rows) c.self.view_is;
      fewer = subst (λ (L : Ledger). length (standing_rows (drop j O.rows) slots) ≤ length L.rows) c.self.view_is
          (rows_fewer i j O.rows slots rise slots_rise own c.next_marked-self-inside.ensures.later
          c.next_marked-self-inside.ensures.within);
    }
