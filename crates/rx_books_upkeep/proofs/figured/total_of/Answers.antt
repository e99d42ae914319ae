use Rattle.std.proofs.Common.{◌≡◌, Some, false, sym}
use Rattle.rx_ledger.specs.Sums.{counted, deductible_paid, family_deductible, out_of_pocket, paid_by_patient}
use Rattle.rx_books_store.specs.LedgerBooks.{has_members}
use Rattle.rx_books_upkeep.proofs.Unlisted.{no_figure}
use Rattle.rx_books_upkeep.proofs.figured.total_of.Goals as goal

pub returns-in-Some : goal.returns-in-Some
returns-in-Some c =
    let b = c.args.books.now.books in
    let f = c.args.family.now in
    let found = c.in-Some.ensures.found in
    let pocket : c.out_of_pocket_at.result ≡ out_of_pocket b.period b.ledger f = rw found at c.out_of_pocket_at.ensures in
    let paid : c.family_deductible_at.result ≡ family_deductible b.period b.ledger f =
    rw found at c.family_deductible_at.ensures in
    λ i. record { family = f; out_of_pocket = pocket i; deductible = Some (paid i) }

pub returns-in-None : goal.returns-in-None
returns-in-None c =
    let b = c.args.books.now.books in
    let f = c.args.family.now in
    let none : has_members b.ledger f ≡ false = sym c.in-None.ensures.listed in
    let pocket = no_figure b.ledger c.requires f (counted b.period paid_by_patient) none in
    let paid = no_figure b.ledger c.requires f (counted b.period deductible_paid) none in
    λ i. record { family = f; out_of_pocket = sym pocket i; deductible = Some (sym paid i) }
