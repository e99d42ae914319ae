use Rattle.std.proofs.Common.{◌≡◌, true, refl}
use Rattle.rx_ledger.specs.Ledger.{is_listed}
use Rattle.rx_ledger.specs.Rows.{member_of_row}
use Rattle.rx_books_family.specs.FamilyBook.{FamilyBook, own_ledger}
use Rattle.rx_books_family.proofs.Owned.{own-added}
use Rattle.rx_books_shelf.proofs.unsummed.Unsummed.add.Goals as goal

pub put_behind-requires : goal.put_behind-requires
put_behind-requires c = rw (← c.self.view_is) at c.requires.past

pub invariant_of-self-2 : goal.invariant_of-self-2
invariant_of-self-2 c =
    let inside = c.self.inside in
    let b : FamilyBook = record { family = inside.family; period = inside.period; members = inside.members; rows = inside.rows } in
    let listed : is_listed (own_ledger b) (member_of_row c.args.row) ≡ true = rw (← c.self.view_is) at c.requires.listed in
    let few = rw c.in_ok-put_behind.ensures.ok at c.in_ok-put_behind.ensures.small in
    rw c.in_ok-put_behind.ensures.ok
    (own-added b c.args.row c.self.invariant listed c.requires.small few)

pub returns-clause-ok : goal.returns-clause-ok
returns-clause-ok c = rw (c.in_ok-put_behind.ensures.ok, ← c.self.view_is) refl
