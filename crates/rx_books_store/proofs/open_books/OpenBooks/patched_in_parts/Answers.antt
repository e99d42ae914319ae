use Rattle.std.proofs.Common.{◌≡◌, [], ◌∷◌, ◌++◌, sym, subst, ap, ◌∙◌}
use Rattle.std.specs.List.{All, flat_map}
use Rattle.rx_fields.specs.Order.{key_cmp}
use Rattle.rx_io.specs.Patches.{Patch}
use Rattle.rx_sorted.specs.Ascending.{IsAscending}
use Rattle.rx_books_store.specs.BooksText.{above_text, below_text, claims_text}
use Rattle.rx_books_store.specs.OpenBooks.{OpenParts}
use Rattle.rx_books_store.specs.Store.{IsSlot, slot_key, standing_rows}
use Rattle.rx_books_store.proofs.KeptText.{books_text-parts}
use Rattle.rx_books_store.proofs.Spans.{text_made}
use Rattle.rx_books_store.proofs.Written.{between}
use Rattle.rx_books_store.proofs.open_books.OpenBooks.patched_in_parts.Goals as goal

pub claims_and_ends-claims-requires-clause-kept : goal.claims_and_ends-claims-requires-clause-kept
claims_and_ends-claims-requires-clause-kept g c κs within = c.in-Some.ensures

pub claims_and_ends-claims-requires-clause-rise : goal.claims_and_ends-claims-requires-clause-rise
claims_and_ends-claims-requires-clause-rise g c κs within =
    subst (IsAscending key_cmp slot_key) (sym c.as_slice-slots.ensures.value) c.as_slice-slots.ensures.ascending

pub claims_and_ends-claims-requires-clause-own : goal.claims_and_ends-claims-requires-clause-own
claims_and_ends-claims-requires-clause-own g c κs within =
    subst (All (IsSlot c.self.inside.opening.members)) (sym c.as_slice-slots.ensures.value) c.self.invariant.slots_own

pub returns : goal.returns
returns g c =
    let b = c.args.self.now.books in
    let found = c.claims_and_ends-claims.ensures in
    let texts = c.in_ok-texts.texts.items in
    let ends = c.in_ok-above.field-0 in
    let first = c.in_ok-first.first in
    let last = c.in_ok-last.last in
    let above_is = found.above in
    let below_is = found.below in
    let claims_are = found.claims in
    let above : first.text ≡ above_text b.period b.ledger =
    ap (λ (p : Patch). p.text) c.in_ok-first.ensures ∙ rw c.in_ok-above.was at above_is in
    let below : last.text ≡ below_text b.period b.ledger =
    ap (λ (p : Patch). p.text) c.in_ok-last.ensures ∙ rw c.in_ok-above.was at below_is in
    let claims : flat_map text_made texts ≡ claims_text b.ledger.rows =
    (rw c.in_ok-texts.was at claims_are)
    ∙ ap (λ ss. claims_text (standing_rows c.self.inside.opening.rows ss)) c.as_slice-slots.ensures.value
    ∙ ap (λ (o : OpenParts). claims_text o.books.ledger.rows) c.self.view_is in
    ap (flat_map text_made) (c.in_ok-push.ensures.items ∙ ap (λ l. l ++ last ∷ []) c.in_ok-insert.ensures.items)
    ∙ between text_made first last texts
    ∙ ap (λ t. t ++ (flat_map text_made texts ++ last.text)) above
    ∙ ap (λ t. above_text b.period b.ledger ++ (flat_map text_made texts ++ t)) below
    ∙ ap (λ t. above_text b.period b.ledger ++ (t ++ below_text b.period b.ledger)) claims
    ∙ books_text-parts b.period b.ledger
