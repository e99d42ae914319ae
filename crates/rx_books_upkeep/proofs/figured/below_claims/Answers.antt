use Rattle.std.proofs.Common.{ap, ◌∙◌}
use Rattle.std.proofs.lemmas.Result.{IfOk-weaker}
use Rattle.rx_books_upkeep.specs.Figured.{family_lines}
use Rattle.rx_books_upkeep.proofs.FiguredText.{below_is}
use Rattle.rx_books_upkeep.proofs.figured.below_claims.Goals as goal

pub returns : goal.returns
returns g c =
    let b = c.args.books.now.books in
    IfOk-weaker c.families_text.result _ _ (λ text is.
    is ∙ ap (family_lines b) c.as_slice.ensures.value
    ∙ below_is b c.in_ok-families.families c.args.members.now c.in_ok-families.ensures) c.families_text.ensures
