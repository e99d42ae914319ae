use Rattle.std.proofs.Common.{◌++◌, ap, ◌∙◌, append_assoc}
use Rattle.rx_books_text.specs.LineText.{ended, head_text}
use Rattle.rx_books_text.specs.Printed.{member_lines}
use Rattle.rx_books_text.specs.declared.version.Version.TheVariants.{Three}
use Rattle.rx_books_store.specs.BooksText.{lines_text}
use Rattle.rx_books_store.specs.Store.{standing}
use Rattle.rx_books_store.proofs.KeptText.{above-kept}
use Rattle.rx_books_store.proofs.open_books.OpenBooks.put_above.Goals as goal

pub returns : goal.returns
returns c =
    let b = c.self.inside in
    let text = c.args.text.now.items in
    let head = ended (head_text (record { version = Three; period = b.period })) in
    let put = lines_text (member_lines c.as_slice.result.now c.deref.result.now) in
    rw (← c.self.view_is) (
    c.in_ok-put_members.ensures
    ∙ ap (λ t. t ++ put) c.in_ok-put_head.ensures
    ∙ append_assoc text head put
    ∙ ap (λ t. text ++ (head ++ t)) (ap (λ ms. lines_text (member_lines ms c.deref.result.now))
    (c.as_slice.ensures.value ∙ c.members.ensures.value)
    ∙ ap (λ ds. lines_text (member_lines b.opening.members ds)) c.deref.ensures.value)
    ∙ ap (λ t. text ++ t) (above-kept b.period (standing b.opening b.changed) b.deductibles.items b.out_of_pockets.items
    b.family_deductibles.items c.self.invariant.figures)
    )
