use Rattle.std.proofs.Common.{◌≡◌, ◌+◌, ◌-◌, ◌<◌, ◌≤◌, ℕ, List, length, drop, take, ap, sym, subst, refl, ◌∙◌, Option, Some, None, arith, get_or}
use Rattle.std.specs.Arc.{arc_value}
use Rattle.std.specs.Prelude.{IfSome, slice_get}
use Rattle.std.proofs.lemmas.List.{get_or-drop, get_or-take, length-drop, length-take}
use Rattle.std.proofs.lemmas.Option.{slice_get_within}
use Rattle.rx_sorted.specs.Ascending.{IsAt}
use Rattle.rx_ledger.specs.declared.row.Row.{Row}
use Rattle.rx_ledger.specs.Ledger.{IsLedger, Ledger}
use Rattle.rx_ledger.specs.Members.{member_cmp, member_key}
use Rattle.rx_ledger.specs.Rows.{member_of_row}
use Rattle.rx_books_store.specs.Standing.{IsUnmarked, is_marked}
use Rattle.rx_books_store.proofs.opening.Lists.next_marked.Goals as goal

pub returns : goal.returns
returns c = record {
  in_order = subst IsLedger c.self.view_is c.self.invariant.in_order;
  later = omega arith;
  within = subst (λ (L : Ledger). c.args.from + c.marked_in.result ≤ length L.rows) c.self.view_is (
      let from = c.args.from in
      let all : List ℕ = c.deref.result.now in
      let same : all ≡ c.self.inside.holders.items = c.deref.ensures.value in
      let one_each = c.self.invariant.held_by.one_each in
      let before = subst (λ (L : Ledger). from ≤ length L.rows) (sym c.self.view_is) c.requires in
      omega (
        arith,
        before,
        c.marked_in.ensures.within,
        length-take (length all - from) (drop from all),
        length-drop from all,
        one_each,
        ap length same,
      ));
  unmarked = λ m le lt. by_row m le lt (slice_get c.args.self.now.rows m) refl;
}
  where
    by_row : (m : ℕ) → c.args.from ≤ m → m < c.args.from + c.marked_in.result → (o : Option Row) → slice_get c.args.self.now.rows m ≡ o
        → IfSome o (IsUnmarked c.args.self.now.members c.args.marks.now)
    by_row m le lt None none = tt
    by_row m le lt (Some r) there =
        let from = c.args.from in
        let holders : List ℕ = c.self.inside.holders.items in
        let all : List ℕ = c.deref.result.now in
        let same : all ≡ holders = c.deref.ensures.value in
        let here : slice_get (arc_value c.self.inside.rows) m ≡ Some r = ap (λ (L : Ledger). slice_get L.rows m) c.self.view_is ∙ there in
        let within = slice_get_within (arc_value c.self.inside.rows) m r here in
        let one_each = c.self.invariant.held_by.one_each in
        let room : m - from < length all - from = omega (arith, le, within, one_each, ap length same) in
        let back : from + (m - from) ≡ m = omega (arith, le) in
        let at : get_or (take (length all - from) (drop from all)) (m - from) 0 ≡ get_or holders m 0 =
        get_or-take (length all - from) (drop from all) (m - from) 0 room
        ∙ get_or-drop from all (m - from) 0 ∙ ap (λ i. get_or all i 0) back ∙ ap (λ xs. get_or xs m 0) same in
        record {
          place = get_or holders m 0;
          holder = subst (λ (L : Ledger). IsAt member_cmp member_key L.members (member_of_row r) (get_or holders m 0)) c.self.view_is
              (c.self.invariant.held_by.each m r here);
          unmarked = ap (is_marked c.args.marks.now) (sym at) ∙ c.marked_in.ensures.unmarked (m - from) (omega (arith, le, lt));
        }
