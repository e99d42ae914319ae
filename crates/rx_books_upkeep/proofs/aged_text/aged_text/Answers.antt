use Rattle.std.proofs.Common.{◌≡◌, ◌++◌, List, [], Some, ap, sym, subst, ◌∙◌}
use Rattle.std.specs.List.{flat_map}
use Rattle.std.specs.Vec.{vec_items}
use Rattle.std.proofs.lemmas.Result.{IfOk-weaker}
use Rattle.rx_ledger.specs.declared.row.Row.{Row}
use Rattle.rx_books_store.specs.BooksText.{claims_text}
use Rattle.rx_books_store.specs.LedgerBooks.{LedgerBooks}
use Rattle.rx_books_upkeep.specs.AgedText.{AreCut, IsOverFrom}
use Rattle.rx_books_upkeep.specs.Ageing.{dropped}
use Rattle.rx_books_upkeep.proofs.AgedFigures.{aged_between}
use Rattle.rx_books_upkeep.proofs.Cuts.{first_safe_is, over_none, whole}
use Rattle.rx_books_upkeep.proofs.aged_text.aged_text.Goals as goal

pub returns-in-Some-clause-books : goal.returns-in-Some-clause-books
returns-in-Some-clause-books g c =
    let b = c.args.books.now in
    let same : c.args.own.now.books ≡ b = c.requires.same in
    let cut = rw (c.in_ok-cuts.was, c.in-Some.is) at c.cuts_and_sides-cuts.ensures.cuts in
    let are = subst (λ (x : LedgerBooks). AreCut c.args.refill_percent c.args.before x.ledger.rows c.in-Some.cuts) same cut in
    let above = rw c.in_ok-above.was at c.cuts_and_sides-cuts.ensures.above in
    let below = rw c.in_ok-above.was at c.cuts_and_sides-cuts.ensures.below in
    IfOk-weaker c.text_of_cuts.result _ _ (λ done is. is
    ∙ aged_between c.args.before c.args.period b.ledger c.requires.early c.in_ok-above.above.items
    (flat_map vec_items c.in-Some.cuts.staying.items) c.in_ok-above.below.items above are.staying below) c.text_of_cuts.ensures.books

pub returns-in-Some-clause-dropped : goal.returns-in-Some-clause-dropped
returns-in-Some-clause-dropped g c =
    let same : c.args.own.now.books ≡ c.args.books.now = c.requires.same in
    let cut = rw (c.in_ok-cuts.was, c.in-Some.is) at c.cuts_and_sides-cuts.ensures.cuts in
    let are = subst (λ (x : LedgerBooks). AreCut c.args.refill_percent c.args.before x.ledger.rows c.in-Some.cuts) same cut in
    IfOk-weaker c.text_of_cuts.result _ _ (λ done is. is ∙ are.leaving) c.text_of_cuts.ensures.dropped

pub returns-in-Some-clause-left : goal.returns-in-Some-clause-left
returns-in-Some-clause-left g c =
    let same : c.args.own.now.books ≡ c.args.books.now = c.requires.same in
    let cut = rw (c.in_ok-cuts.was, c.in-Some.is) at c.cuts_and_sides-cuts.ensures.cuts in
    let are = subst (λ (x : LedgerBooks). AreCut c.args.refill_percent c.args.before x.ledger.rows c.in-Some.cuts) same cut in
    IfOk-weaker c.text_of_cuts.result _ _ (λ done is. is ∙ are.left) c.text_of_cuts.ensures.left

pub returns-in-Some-clause-first_safe : goal.returns-in-Some-clause-first_safe
returns-in-Some-clause-first_safe g c =
    let same : c.args.own.now.books ≡ c.args.books.now = c.requires.same in
    let cut = rw (c.in_ok-cuts.was, c.in-Some.is) at c.cuts_and_sides-cuts.ensures.cuts in
    let are = subst (λ (x : LedgerBooks). AreCut c.args.refill_percent c.args.before x.ledger.rows c.in-Some.cuts) same cut in
    let rows = dropped c.args.before c.args.books.now.ledger.rows in
    IfOk-weaker c.text_of_cuts.result _ _ (λ done is. first_safe_is c.args.refill_percent rows done.first_safe
    (subst (IsOverFrom c.args.refill_percent rows) (sym is) are.over)) c.text_of_cuts.ensures.first_safe

pub returns-in_ok-claims_between-in-None-clause-books : goal.returns-in_ok-claims_between-in-None-clause-books
returns-in_ok-claims_between-in-None-clause-books g c =
    let b = c.args.books.now in
    let same : c.args.own.now.books ≡ b = c.requires.same in
    let none = rw (c.in_ok-cuts.was, c.in-None.is) at c.cuts_and_sides-cuts.ensures.cuts in
    let stay : dropped c.args.before b.ledger.rows ≡ [] =
    subst (λ (x : LedgerBooks). dropped c.args.before x.ledger.rows ≡ []) same none in
    let above = rw c.in_ok-above.was at c.cuts_and_sides-cuts.ensures.above in
    let below = rw c.in_ok-above.was at c.cuts_and_sides-cuts.ensures.below in
    let claims = claims_text c.args.own.now.books.ledger.rows in
    let are = ap (λ (x : LedgerBooks). claims_text x.ledger.rows) same
    ∙ ap claims_text (sym (whole c.args.before b.ledger.rows stay)) in
    c.in_ok-claims_between-in-None.ensures
    ∙ ap (λ t. c.in_ok-above.above.items ++ (claims ++ t)) c.deref.ensures.value
    ∙ aged_between c.args.before c.args.period b.ledger c.requires.early c.in_ok-above.above.items claims c.in_ok-above.below.items
    above are below

pub returns-in_ok-claims_between-in-None-clause-first_safe : goal.returns-in_ok-claims_between-in-None-clause-first_safe
returns-in_ok-claims_between-in-None-clause-first_safe g c =
    let b = c.args.books.now in
    let same : c.args.own.now.books ≡ b = c.requires.same in
    let none = rw (c.in_ok-cuts.was, c.in-None.is) at c.cuts_and_sides-cuts.ensures.cuts in
    let stay : dropped c.args.before b.ledger.rows ≡ [] =
    subst (λ (x : LedgerBooks). dropped c.args.before x.ledger.rows ≡ []) same none in
    let rows = dropped c.args.before b.ledger.rows in
    let first = Some c.first_day.result in
    first_safe_is c.args.refill_percent rows first
    (subst (λ (rs : List Row). IsOverFrom c.args.refill_percent rs first) (sym stay)
    (over_none c.args.refill_percent c.args.before c.first_day.result c.first_day.ensures))
