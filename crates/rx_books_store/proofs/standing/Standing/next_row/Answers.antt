use Rattle.std.proofs.Common.{◌≡◌, ◌+◌, List, ◌∷◌, drop, Option, Some, false, true, sym, subst, ap, ◌∙◌, arith}
use Rattle.std.specs.Prelude.{IfSome, slice_get}
use Rattle.std.specs.List.{All}
use Rattle.std.proofs.lemmas.Option.{get_or_from_slice_get}
use Rattle.rx_fields.specs.Order.{key_cmp}
use Rattle.rx_sorted.specs.Ascending.{IsAscending, IsAt}
use Rattle.rx_ledger.specs.declared.member.Member.{Member}
use Rattle.rx_ledger.specs.declared.row.Row.{Row}
use Rattle.rx_ledger.specs.Ledger.{Ledger}
use Rattle.rx_ledger.specs.Members.{member_cmp, member_key}
use Rattle.rx_ledger.specs.Rows.{member_of_row, row_key}
use Rattle.rx_books_store.specs.Standing.{after_held, is_slot_next, past_key}
use Rattle.rx_books_store.specs.Store.{standing_rows}
use Rattle.rx_books_store.proofs.Passes.{Own, step_row, step_slot}
use Rattle.rx_books_store.proofs.standing.Standing.next_row.Goals as goal

pub returns-in-Some-clause-row : goal.returns-in-Some-clause-row
returns-in-Some-clause-row c =
    let rows = c.rows-rows.result.now in
    let slots = c.self.inside.slots.now in
    let i = c.slots.self-inside.row in
    let j = c.slots.self-inside.slot in
    let s = c.index-slots-self.result in
    let same : rows ≡ c.self.inside.opening.now.rows = c.rows-rows.ensures.value in
    let rise : IsAscending key_cmp row_key rows = subst (IsAscending key_cmp row_key) (sym same) c.rows-rows.ensures.within.rows_rise in
    let own : All Own slots = λ k d lt. (c.self.invariant.own k d lt).under in
    let next : is_slot_next (drop i rows) (drop j slots) ≡ true = sym c.is_slot_next.ensures ∙ c.slots-test.true in
    let step = step_slot rows slots rise c.self.invariant.rise own i j s c.index-slots-self.is next in
    let p = c.past_key-self-inside.result in
    let one : standing_rows (drop i rows) (drop j slots) ≡ c.in-Some.row ∷ standing_rows (drop p rows) (drop (j + 1) slots) =
    step ∙ ap (λ h. after_held h (standing_rows (past_key s.key (drop i rows)) (drop (j + 1) slots))) c.in-Some.is
    ∙ ap (λ xs. c.in-Some.row ∷ standing_rows xs (drop (j + 1) slots)) (sym c.past_key-self-inside.ensures.rest) in
    ap (λ (L : Ledger). L.rows) (sym c.self.view_is)
    ∙ ap (λ xs. standing_rows (drop c.self.inside.row xs) (drop c.self.inside.slot slots)) (sym same)
    ∙ sym c.slots.invariant.rest ∙ one
    ∙ ap (λ xs. c.in-Some.row ∷ standing_rows (drop p xs) (drop (j + 1) slots))
    (same ∙ ap (λ o. o.now.rows) (sym c.slots.invariant.opening))
    ∙ ap (λ ss. c.in-Some.row ∷ standing_rows (drop p c.slots.self-inside.opening.now.rows) (drop (j + 1) ss.now))
    (sym c.slots.invariant.slots)

pub slots-preserved : goal.slots-preserved
slots-preserved c =
    let rows = c.rows-rows.result.now in
    let slots = c.self.inside.slots.now in
    let i = c.slots.self-inside.row in
    let j = c.slots.self-inside.slot in
    let s = c.index-slots-self.result in
    let same : rows ≡ c.self.inside.opening.now.rows = c.rows-rows.ensures.value in
    let rise : IsAscending key_cmp row_key rows = subst (IsAscending key_cmp row_key) (sym same) c.rows-rows.ensures.within.rows_rise in
    let own : All Own slots = λ k d lt. (c.self.invariant.own k d lt).under in
    let next : is_slot_next (drop i rows) (drop j slots) ≡ true = sym c.is_slot_next.ensures ∙ c.slots-test.true in
    let step = step_slot rows slots rise c.self.invariant.rise own i j s c.index-slots-self.is next in
    let p = c.past_key-self-inside.result in
    let one : standing_rows (drop i rows) (drop j slots) ≡ standing_rows (drop p rows) (drop (j + 1) slots) =
    step ∙ ap (λ h. after_held h (standing_rows (past_key s.key (drop i rows)) (drop (j + 1) slots))) c.in-None.is
    ∙ ap (λ xs. standing_rows xs (drop (j + 1) slots)) (sym c.past_key-self-inside.ensures.rest) in
    record {
      opening = c.slots.invariant.opening;
      slots = c.slots.invariant.slots;
      within = c.past_key-self-inside.ensures.within;
      rest = sym one ∙ c.slots.invariant.rest;
    }

pub returns-clause-row : goal.returns-clause-row
returns-clause-row c =
    let rows = c.rows-rows.result.now in
    let slots = c.self.inside.slots.now in
    let i = c.slots.self-inside.row in
    let j = c.slots.self-inside.slot in
    let r = c.at.result.now in
    let same : rows ≡ c.self.inside.opening.now.rows = c.rows-rows.ensures.value in
    let rise : IsAscending key_cmp row_key rows = subst (IsAscending key_cmp row_key) (sym same) c.rows-rows.ensures.within.rows_rise in
    let own : All Own slots = λ k d lt. (c.self.invariant.own k d lt).under in
    let later : is_slot_next (drop i rows) (drop j slots) ≡ false = sym c.is_slot_next.ensures ∙ c.slots-test.false in
    let row_is = sym (get_or_from_slice_get rows i r r c.at.ensures) in
    let step = step_row rows slots rise c.self.invariant.rise own i j r (omega arith) row_is later in
    ap (λ (L : Ledger). L.rows) (sym c.self.view_is)
    ∙ ap (λ xs. standing_rows (drop c.self.inside.row xs) (drop c.self.inside.slot slots)) (sym same)
    ∙ sym c.slots.invariant.rest ∙ step
    ∙ ap (λ xs. r ∷ standing_rows (drop (i + 1) xs) (drop j slots)) (same ∙ ap (λ o. o.now.rows) (sym c.slots.invariant.opening))
    ∙ ap (λ ss. r ∷ standing_rows (drop (i + 1) c.slots.self-inside.opening.now.rows) (drop j ss.now)) (sym c.slots.invariant.slots)

pub returns-clause-holder : goal.returns-clause-holder
returns-clause-holder c =
    let rows = c.rows-rows.result.now in
    let i = c.slots.self-inside.row in
    let r = c.at.result.now in
    let O : Ledger = c.slots.self-inside.opening.now in
    let same : rows ≡ O.rows =
    c.rows-rows.ensures.value ∙ ap (λ o. o.now.rows) (sym c.slots.invariant.opening) in
    let here : slice_get O.rows i ≡ Some r = ap (λ xs. slice_get xs i) (sym same) ∙ c.at.ensures in
    let P : Option Row → Type 0 = λ o. IfSome o (λ x. IsAt member_cmp member_key O.members (member_of_row x) c.holder.result) in
    let at : IsAt member_cmp member_key O.members (member_of_row r) c.holder.result = subst P here c.holder.ensures in
    let M : List Member → Type 0 = λ ms. IsAt member_cmp member_key ms (member_of_row r) c.holder.result in
    subst M (ap (λ o. o.now.members) c.slots.invariant.opening ∙ ap (λ (L : Ledger). L.members) c.self.view_is) at
