use Rattle.std.proofs.Common.{◌≡◌, ◌++◌, append_assoc, sym, subst, ap, ◌∙◌}
use Rattle.std.specs.List.{All}
use Rattle.rx_fields.specs.Order.{key_cmp}
use Rattle.rx_sorted.specs.Ascending.{IsAscending}
use Rattle.rx_books_store.specs.BooksText.{claims_text}
use Rattle.rx_books_store.specs.OpenBooks.{OpenParts}
use Rattle.rx_books_store.specs.Store.{IsSlot, slot_key, standing_rows}
use Rattle.rx_books_store.proofs.open_books.OpenBooks.claims_between.Goals as goal

pub lent_between-requires : goal.lent_between-requires
lent_between-requires c =
    let slots = sym c.as_slice-slots.ensures.value in
    record {
      kept = c.in-Some.ensures;
      rise = subst (IsAscending key_cmp slot_key) slots c.as_slice-slots.ensures.ascending;
      own = subst (All (IsSlot c.self.inside.opening.members)) slots c.self.invariant.slots_own;
    }

-- they are written
pub returns-in_default : goal.returns-in_default
returns-in_default c =
    let claims = claims_text c.args.self.now.books.ledger.rows in
    c.in_ok-pieces.ensures ∙ c.in_ok-extend_from_slice.ensures.items
    ∙ ap (λ t. t ++ c.args.below.now) c.in_ok-put_claims.ensures ∙ append_assoc c.args.above.items claims c.args.below.now

-- they are lent
pub returns : goal.returns
returns c =
    let inside = c.self.inside in
    let above = c.args.above.items in
    let below = c.args.below.now in
    let claims : claims_text (standing_rows inside.opening.rows c.as_slice-slots.result.now)
    ≡ claims_text c.args.self.now.books.ledger.rows =
    ap (λ ss. claims_text (standing_rows inside.opening.rows ss)) c.as_slice-slots.ensures.value
    ∙ ap (λ (o : OpenParts). claims_text o.books.ledger.rows) c.self.view_is in
    c.in_ok-text.ensures ∙ ap (λ t. above ++ (t ++ below)) claims
