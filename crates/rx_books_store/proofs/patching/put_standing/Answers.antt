use Rattle.std.proofs.Common.{◌≡◌, ℕ, List, ◌++◌, sym, ap, ◌∙◌}
use Rattle.std.proofs.lemmas.List.{append-nil}
use Rattle.rx_io.proofs.Patching.{on_ok}
use Rattle.rx_books_store.specs.Patching.{end_of, rest_text, start}
use Rattle.rx_books_store.proofs.Spans.{rest_none, whole_span}
use Rattle.rx_books_store.proofs.patching.put_standing.Goals as goal

pub put_span-requires-clause-span : goal.put_span-requires-clause-span
put_span-requires-clause-span c = rw (c.end_of-to.ensures, c.rows.ensures.value) (whole_span c.args.opening.now.rows c.args.slots.now)

pub returns : goal.returns
returns c =
    let rows = c.args.opening.now.rows in
    let slots = c.args.slots.now in
    let made = c.put_span.new.text.text in
    let all = rw (c.end_of-to.ensures, c.rows.ensures.value) at c.put_span.ensures in
    on_ok c.put_span.result all
    (λ (put : made ++ rest_text rows slots (end_of rows slots) ≡ c.args.text.now.text ++ rest_text rows slots start).
    sym (append-nil made) ∙ ap (λ (t : List ℕ). made ++ t) (sym (rest_none rows slots)) ∙ put)
