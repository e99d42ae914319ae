use Rattle.std.proofs.Common.{◌≡◌, ◌++◌, sym, subst, ap, ◌∙◌}
use Rattle.std.specs.List.{All}
use Rattle.rx_fields.specs.Order.{key_cmp}
use Rattle.rx_sorted.specs.Ascending.{IsAscending}
use Rattle.rx_books_store.specs.BooksText.{above_text, below_text, claims_text}
use Rattle.rx_books_store.specs.OpenBooks.{OpenParts}
use Rattle.rx_books_store.specs.Store.{IsSlot, slot_key, standing_rows}
use Rattle.rx_books_store.proofs.KeptText.{books_text-parts}
use Rattle.rx_books_store.proofs.open_books.OpenBooks.patched.Goals as goal

pub lent_between-requires : goal.lent_between-requires
lent_between-requires c =
    let slots = sym c.as_slice-slots.ensures.value in
    record {
      kept = c.in-Some.ensures;
      rise = subst (IsAscending key_cmp slot_key) slots c.as_slice-slots.ensures.ascending;
      own = subst (All (IsSlot c.self.inside.opening.members)) slots c.self.invariant.slots_own;
    }

pub returns : goal.returns
returns c =
    let inside = c.self.inside in
    let b = c.args.self.now.books in
    let above : c.put_above.new.text.items ≡ above_text b.period b.ledger =
    c.in_ok-put_above.ensures ∙ ap (λ t. t ++ above_text b.period b.ledger) c.in_ok-above.ensures.items in
    let below : c.deref.result.now ≡ below_text b.period b.ledger =
    c.deref.ensures.value ∙ c.in_ok-put_below.ensures ∙ ap (λ t. t ++ below_text b.period b.ledger) c.new-below.ensures.items in
    let claims : claims_text (standing_rows inside.opening.rows c.as_slice-slots.result.now) ≡ claims_text b.ledger.rows =
    ap (λ ss. claims_text (standing_rows inside.opening.rows ss)) c.as_slice-slots.ensures.value
    ∙ ap (λ (o : OpenParts). claims_text o.books.ledger.rows) c.self.view_is in
    c.in_ok-text.ensures ∙ (λ i. above i ++ (claims i ++ below i)) ∙ books_text-parts b.period b.ledger
