use Rattle.std.proofs.Common.{◌≡◌, ℕ, ◌+◌, ◌<◌, List, drop, get_or, length, true, sym, ap, subst, ◌∙◌}
use Rattle.std.specs.Prelude.{IfSome}
use Rattle.std.specs.List.{All}
use Rattle.rx_fields.specs.Order.{key_cmp}
use Rattle.rx_fields.specs.declared.key.Key.{Key}
use Rattle.rx_sorted.specs.Ascending.{contains_key}
use Rattle.rx_sorted.specs.Overlaid.{overlaid}
use Rattle.rx_ledger.specs.declared.member.Member.{Member}
use Rattle.rx_ledger.specs.declared.row.Row.{Row}
use Rattle.rx_ledger.specs.Ledger.{IsLedger, is_listed}
use Rattle.rx_ledger.specs.Members.{member_cmp, member_key}
use Rattle.rx_ledger.specs.Rows.{member_of_row, row_key}
use Rattle.rx_books_store.specs.OpenBooks.{OpenParts}
use Rattle.rx_books_family.specs.declared.place.KeyPlace.{KeyPlace}
use Rattle.rx_books_family.specs.Shelves.{HoldsOwnRow, place_key, row_held}
use Rattle.rx_books_shelf.specs.Closed.{HasSlot}
use Rattle.rx_sorted.proofs.AllSlots.{drop_next, none_left}
use Rattle.rx_books_shelf.proofs.Brought.{brought_ledger}
use Rattle.rx_books_shelf.proofs.closing.brought.Goals as goal

-- a fact of each place is one of this
of_place : (P : KeyPlace → Type 0) (ps : List KeyPlace) (i : ℕ) (p : KeyPlace) → All P ps → i < length ps → p ≡ get_or ps i p → P p
of_place P ps i p all lt is = subst P (sym is) (all i p lt)

pub bring-requires-clause-slot : goal.bring-requires-clause-slot
bring-requires-clause-slot c =
    subst (λ (slots : List Key). HasSlot slots c.place-item.result) (sym c.loop-place.invariant.slots)
    (of_place (HasSlot c.args.books.slots) c.args.places.now c.loop-place.place-index c.place-item.result c.requires.slots
    c.loop-place-test.true c.place-item.is)

pub bring-requires-clause-row : goal.bring-requires-clause-row
bring-requires-clause-row c =
    of_place HoldsOwnRow c.args.places.now c.loop-place.place-index c.place-item.result c.requires.rows c.loop-place-test.true
    c.place-item.is

pub bring-requires-clause-listed : goal.bring-requires-clause-listed
bring-requires-clause-listed c =
    subst (λ (ms : List Member). IfSome (row_held c.place-item.result) (λ (r : Row). contains_key member_cmp member_key ms
    (member_of_row r) ≡ true))
    (sym c.loop-place.invariant.members)
    (of_place (λ p. IfSome (row_held p) (λ (r : Row). is_listed c.args.books.books.ledger (member_of_row r) ≡ true)) c.args.places.now
    c.loop-place.place-index c.place-item.result c.requires.listed c.loop-place-test.true c.place-item.is)

pub bring-requires-clause-rise : goal.bring-requires-clause-rise
bring-requires-clause-rise c = c.loop-place.invariant.in_order.rows_rise

pub loop-place-preserved : goal.loop-place-preserved
loop-place-preserved c =
    let p = c.place-item.result in
    let ps = c.args.places.now in
    let rest = drop (c.loop-place.place-index + 1) ps in
    let here = drop_next c.loop-place.place-index p ps c.loop-place-test.true c.place-item.is in
    let new = c.bring.ensures in
    let listed = subst (λ (ms : List Member). IfSome (row_held p) (λ (r : Row). contains_key member_cmp member_key ms
    (member_of_row r) ≡ true))
    (sym c.loop-place.invariant.members)
    (of_place (λ q. IfSome (row_held q) (λ (r : Row). is_listed c.args.books.books.ledger (member_of_row r) ≡ true)) ps
    c.loop-place.place-index p c.requires.listed c.loop-place-test.true c.place-item.is) in
    record {
      rows = ap (λ (o : OpenParts). overlaid key_cmp row_key place_key row_held o.books.ledger.rows rest) new
          ∙ ap (λ qs. overlaid key_cmp row_key place_key row_held c.loop-place.books.books.ledger.rows qs) (sym here)
          ∙ c.loop-place.invariant.rows;
      members = ap (λ (o : OpenParts). o.books.ledger.members) new ∙ c.loop-place.invariant.members;
      period = ap (λ (o : OpenParts). o.books.period) new ∙ c.loop-place.invariant.period;
      slots = ap (λ (o : OpenParts). o.slots) new ∙ c.loop-place.invariant.slots;
      in_order = subst (λ (o : OpenParts). IsLedger o.books.ledger) (sym new) (brought_ledger c.loop-place.books p
          c.loop-place.invariant.in_order listed);
    }

pub returns-clause-value : goal.returns-clause-value
returns-clause-value c =
    let none = none_left c.loop-place.place-index c.args.places.now c.loop-place-test.false in
    let inv = c.loop-place.invariant in
    let rows = sym (ap (λ qs. overlaid key_cmp row_key place_key row_held c.loop-place.books.books.ledger.rows qs) none) ∙ inv.rows in
    λ i. record {
      books = record { period = inv.period i; ledger = record { members = inv.members i; rows = rows i } };
      slots =
          inv.slots i;
    }
