use Rattle.std.proofs.Common.{◌++◌, ap, ◌∙◌}
use Rattle.std.proofs.lemmas.Result.{IfOk-weaker}
use Rattle.rx_books_text.specs.declared.version.Version.TheVariants.{Three}
use Rattle.rx_books_text.specs.LineText.{ended, head_text}
use Rattle.rx_books_upkeep.specs.Figured.{person_lines}
use Rattle.rx_books_upkeep.proofs.FiguredText.{above_is}
use Rattle.rx_books_upkeep.proofs.figured.above_claims.Goals as goal

pub returns : goal.returns
returns g c =
    let b = c.args.books.now.books in
    let lines = person_lines b c.args.members.now in
    let head = ended (head_text (record { version = Three; period = c.period.result })) in
    IfOk-weaker c.with_persons.result _ _ (λ all is.
    is ∙ ap (λ t. t ++ lines) (c.in_ok-put_head.ensures ∙ ap (λ t. t ++ head) c.in_ok-text.ensures.items)
    ∙ ap (λ p. ended (head_text (record { version = Three; period = p })) ++ lines) c.period.ensures.value
    ∙ above_is b c.args.members.now) c.with_persons.ensures
