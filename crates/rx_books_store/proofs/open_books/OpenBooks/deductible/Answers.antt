use Rattle.std.proofs.Common.{◌≡◌, true, Some, sym, ap}
use Rattle.rx_ledger.specs.Ledger.{is_listed}
use Rattle.rx_books_store.proofs.KeptFigures.{deductible-told}
use Rattle.rx_books_store.proofs.open_books.OpenBooks.deductible.Goals as goal

pub returns : goal.returns
returns c =
    let b = c.args.self.now.books in
    let family = c.args.family.now in
    let person = c.args.person.now in
    let listed : is_listed b.ledger (record { family = family; person = person }) ≡ true = sym c.in_ok-at.ensures.listed in
    let told = deductible-told b (record { family = family; person = person }) c.in_ok-at.at c.deductible_at.result
    c.in_ok-at.ensures.found c.deductible_at.ensures in
    rw listed (ap Some told)
