-- The slot that is there has the key or hasn't; past the last there is none.
use Rattle.std.proofs.Common.{◌≡◌, ◌<◌, ◌≤◌, Some, length, sym, ap, subst, ◌∙◌, arith}
use Rattle.std.specs.Prelude.{slice_get}
use Rattle.std.proofs.lemmas.Bool.{ltb-false, ltb-true}
use Rattle.std.proofs.lemmas.List.{length-map}
use Rattle.std.proofs.lemmas.Option.{slice_get_within}
use Rattle.rx_fields.specs.declared.key.Key.{Key}
use Rattle.rx_sorted.specs.Ascending.{IsAt}
use Rattle.rx_sorted.proofs.Places.{IsAt-itself}
use Rattle.rx_fields.specs.Order.{key_cmp}
use Rattle.rx_ledger.proofs.Decided.{key_decides}
use Rattle.rx_ledger.proofs.Orders.{key_total}
use Rattle.rx_books_store.specs.declared.slot.KeySlot.{KeySlot}
use Rattle.rx_books_store.specs.Store.{slot_key, slot_keys}
use Rattle.rx_books_store.proofs.Stored.{get-slot_key}
use Rattle.rx_books_store.proofs.open_books.OpenBooks.is_slot.Goals as goal

pub returns-in-Some : goal.returns-in-Some
returns-in-Some c =
    let slots = c.self.inside.changed in
    let at = c.args.slot in
    let s : KeySlot = c.in-Some.found.now in
    let found = rw c.as_slice.ensures.value at c.in-Some.ensures.lookup in
    let lt : at < length slots = ltb-true _ _ (sym found.0) in
    let own : IsAt key_cmp slot_key slots s.key at =
    subst (λ (k : Key). IsAt key_cmp slot_key slots k at) (ap slot_key (sym found.1))
    (IsAt-itself key_cmp key_total slot_key slots at s lt) in
    let here : slice_get (slot_keys slots) at ≡ Some s.key = get-slot_key slots s.key at own in (
      λ same. rw (← c.self.view_is) (here ∙ ap Some ((key_decides s.key c.args.key.now).0 (sym c.eq.ensures ∙ same))),
      λ there.
          let equal : Some s.key ≡ Some c.args.key.now = sym here ∙ rw (← c.self.view_is) at there in
          let keys : s.key ≡ c.args.key.now = cc in
          c.eq.ensures ∙ (key_decides s.key c.args.key.now).1 keys,
    )

pub returns-in-None : goal.returns-in-None
returns-in-None c =
    let slots = c.self.inside.changed in
    let found = rw c.as_slice.ensures.value at c.in-None.ensures.lookup in
    let past : length slots ≤ c.args.slot = ltb-false _ _ (sym found.0) in
    let long : length (slot_keys slots) ≡ length slots = simp length-map in (
      λ none. absurd cc,
      λ there.
          let here : slice_get (slot_keys slots) c.args.slot ≡ Some c.args.key.now = rw (← c.self.view_is) at there in
          let within = slice_get_within (slot_keys slots) c.args.slot c.args.key.now here in
          absurd (omega (arith, within, past, long)),
    )
