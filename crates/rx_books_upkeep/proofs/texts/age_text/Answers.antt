use Rattle.std.proofs.Common.{◌≡◌, Ok, ap, subst, sym, ◌∙◌}
use Rattle.std.specs.Prelude.{MatchOption}
use Rattle.std.proofs.lemmas.Result.{IfOk-weaker}
use Rattle.rx_fields.specs.Calendar.{Civil, IsCivil}
use Rattle.rx_books_store.specs.LedgerBooks.{LedgerBooks}
use Rattle.rx_books_upkeep.specs.Ageing.{IsFirstSafe, IsSafe, dropped}
use Rattle.rx_books_upkeep.specs.TextFault.{of_books}
use Rattle.rx_books_upkeep.specs.Texts.{renamed}
use Rattle.rx_books_upkeep.proofs.texts.age_text.Goals as goal

pub returns-clause-first_safe : goal.returns-clause-first_safe
returns-clause-first_safe g c =
    IfOk-weaker c.age-done.result _ _ (λ done first b is.
    let read = c.in_ok-opened.opened in
    let both : Ok b ≡ Ok read = ap (renamed of_books) (sym is) ∙ c.in_ok-opened.ensures.books in
    let same : read ≡ b = cc in
    subst (λ (x : LedgerBooks). MatchOption done.first_safe
    ((day : Civil) → IsCivil day → ¬ IsSafe c.args.refill_percent (dropped c.args.before x.ledger.rows) day)
    (IsFirstSafe c.args.refill_percent (dropped c.args.before x.ledger.rows))) same first) c.age-done.ensures.first_safe
