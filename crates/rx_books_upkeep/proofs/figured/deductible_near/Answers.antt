use Rattle.std.proofs.Common.{◌≡◌, false, sym, subst}
use Rattle.rx_sorted.specs.Ascending.{IsAscending, IsAt, IsGap}
use Rattle.rx_sorted.proofs.Places.{contains_key-gap}
use Rattle.rx_ledger.specs.Ledger.{is_listed}
use Rattle.rx_ledger.specs.Members.{member_cmp, member_key}
use Rattle.rx_ledger.proofs.Orders.{member_total}
use Rattle.rx_books_store.proofs.KeptFigures.{deductible-told}
use Rattle.rx_books_upkeep.proofs.Unlisted.{no_deductible}
use Rattle.rx_books_upkeep.proofs.figured.deductible_near.Goals as goal

pub place_near-requires : goal.place_near-requires
place_near-requires c = subst (IsAscending member_cmp member_key) (sym c.members.ensures.value) c.members.ensures.rise

pub returns-in-Ok : goal.returns-in-Ok
returns-in-Ok c =
    let b = c.args.books.now.books in
    let k = c.args.key.now in
    deductible-told b k c.in-Ok.at c.deductible_at.result
    (subst (λ ms. IsAt member_cmp member_key ms k c.in-Ok.at) c.members.ensures.value c.in-Ok.ensures.found) c.deductible_at.ensures

pub returns-in-Err : goal.returns-in-Err
returns-in-Err c =
    let b = c.args.books.now.books in
    let k = c.args.key.now in
    let gap = subst (λ ms. IsGap member_cmp member_key ms k c.in-Err.at) c.members.ensures.value c.in-Err.ensures.absent in
    let none : is_listed b.ledger k ≡ false = contains_key-gap member_cmp member_total member_key b.ledger.members k c.in-Err.at gap in
    sym (no_deductible b.ledger c.requires k b.period none)
