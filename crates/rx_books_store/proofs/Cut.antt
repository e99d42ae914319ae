-- The rows of runs, cut off with the places of their members.
use Rattle.std.proofs.Common.{◌≡◌, ℕ, ◌+◌, ◌-◌, ◌<◌, ◌≤◌, ◌^◌, List, [], ◌∷◌, ◌++◌, length, get_or, take, drop, sym, subst, ap, ◌∙◌, arith}
use Rattle.std.specs.Prelude.{slice_get}
use Rattle.std.specs.List.{flat_map}
use Rattle.std.specs.Vec.{vec_items}
use Rattle.std.specs.declared.vec.Vec.{Vec}
use Rattle.std.proofs.lemmas.Grind.{flat_map-append}
use Rattle.std.proofs.lemmas.List.{append-nil, drop_more, get_or-drop, get_or-take, length-append, length-drop, length-take}
use Rattle.std.proofs.lemmas.List.{take-append-drop, take_more}
use Rattle.std.proofs.lemmas.Option.{slice_get_within}
use Rattle.rx_fields.specs.Order.{key_cmp}
use Rattle.rx_sorted.specs.Ascending.{IsAscending}
use Rattle.rx_sorted.specs.Runs.{items_of}
use Rattle.rx_sorted.proofs.InRuns.{get-behind}
use Rattle.rx_ledger.specs.declared.member.Member.{Member}
use Rattle.rx_ledger.specs.declared.row.Row.{Row}
use Rattle.rx_ledger.specs.Ledger.{Ledger}
use Rattle.rx_ledger.specs.Members.{member_cmp, member_key}
use Rattle.rx_ledger.specs.Rows.{row_key}
use Rattle.rx_books_store.specs.Parts.{IsPart}
use Rattle.rx_books_store.specs.Store.{AreHolders}
use Rattle.rx_books_store.proofs.Added.{rows_in}
use Rattle.rx_books_store.proofs.Adding.{front_rises}
use Rattle.rx_books_store.proofs.Openings.{get-left, held-ledger}

back_rises : (xs ys : List Row) → IsAscending key_cmp row_key (xs ++ ys) → IsAscending key_cmp row_key ys
back_rises [] ys rise = rise
back_rises (x ∷ xs) ys rise = back_rises xs ys rise.1

first_held : (ms : List Member) (rs qs : List Row) (hs : List ℕ) → AreHolders ms (rs ++ qs) hs
    → AreHolders ms rs (take (length rs) hs)
first_held ms rs qs hs are = record {
  one_each = omega (arith, are.one_each, length-append rs qs, length-take (length rs) hs);
  each = λ i r is. let lt = slice_get_within rs i r is in
      rw (get_or-take (length rs) hs i 0 lt) (are.each i r (get-left rs qs i lt ∙ is));
}

others_held : (ms : List Member) (rs qs : List Row) (hs : List ℕ) → AreHolders ms (rs ++ qs) hs
    → AreHolders ms qs (drop (length rs) hs)
others_held ms rs qs hs are = record {
  one_each = omega (arith, are.one_each, length-append rs qs, length-drop (length rs) hs);
  each = λ i r is. let back : length rs + i - length rs ≡ i = omega arith in
      rw (get_or-drop (length rs) hs i 0)
      (are.each (length rs + i) r (get-behind rs qs (length rs + i) (omega arith) ∙ ap (slice_get qs) back ∙ is));
}

module _ {Z : Type 0} (ms : List Member) (runs : List (Vec Row Z)) (i : ℕ) (run : Vec Row Z) (hs : List ℕ)
    (lt : i < length runs) (is : run ≡ get_or runs i run) (rest : AreHolders ms (items_of (drop i runs)) hs) where
  here : items_of (drop i runs) ≡ run.items ++ items_of (drop (i + 1) runs)
  here = ap items_of (drop_more runs i run lt ∙ ap (λ r. r ∷ drop (i + 1) runs) (sym is))

  held : AreHolders ms (run.items ++ items_of (drop (i + 1) runs)) hs
  held = subst (λ (rs : List Row). AreHolders ms rs hs) here rest

  pub enough : length run.items ≤ length hs
  enough = omega (arith, held.one_each, length-append run.items (items_of (drop (i + 1) runs)))

  pub others : AreHolders ms (items_of (drop (i + 1) runs)) (drop (length run.items) hs)
  others = others_held ms run.items (items_of (drop (i + 1) runs)) hs held

  whole : items_of runs ≡ items_of (take i runs) ++ (run.items ++ items_of (drop (i + 1) runs))
  whole = ap items_of (sym (take-append-drop i runs)) ∙ flat_map-append vec_items (take i runs) (drop i runs)
      ∙ ap (λ rs. items_of (take i runs) ++ rs) here

  pub own : IsAscending member_cmp member_key ms → IsAscending key_cmp row_key (items_of runs)
      → length (items_of runs) < 2 ^ 63 → IsPart ms run.items (take (length run.items) hs)
  own members_rise rise small =
      let mine = first_held ms run.items (items_of (drop (i + 1) runs)) hs held in
      let rows_rise = front_rises run.items (items_of (drop (i + 1) runs)) (back_rises (items_of (take i runs))
      (run.items ++ items_of (drop (i + 1) runs)) (subst (IsAscending key_cmp row_key) whole rise)) in
      record {
        in_order = held-ledger ms run.items (take (length run.items) hs) members_rise rows_rise mine;
        held_by = mine;
        few = omega (
          arith,
          small,
          ap length whole,
          length-append (items_of (take i runs)) (run.items ++ items_of (drop (i + 1) runs)),
          length-append run.items (items_of (drop (i + 1) runs)),
        );
      }

  pub more_rows : (parts : List Ledger) (p : Ledger) → p.rows ≡ run.items → flat_map rows_in parts ≡ items_of (take i runs)
      → flat_map rows_in (parts ++ p ∷ []) ≡ items_of (take (i + 1) runs)
  more_rows parts p same so_far = flat_map-append rows_in parts (p ∷ [])
      ∙ ap (λ rs. flat_map rows_in parts ++ rs) (append-nil p.rows ∙ same) ∙ ap (λ rs. rs ++ run.items) so_far
      ∙ sym (ap items_of (take_more runs i run lt ∙ ap (λ r. take i runs ++ r ∷ []) (sym is))
      ∙ flat_map-append vec_items (take i runs) (run ∷ [])
      ∙ ap (λ rs. items_of (take i runs) ++ rs) (append-nil run.items))
