-- The families of the members so far, and the places of their families.
use Rattle.std.proofs.Common.{◌≡◌, take}
use Rattle.rx_books_store.specs.BooksText.{families_of}
use Rattle.rx_books_store.specs.Opening.{names_of}
use Rattle.rx_books_store.specs.Store.{AreHomes}
use Rattle.rx_books_store.proofs.opening.homes_of.Given as goal

abbrev pub invariant-loop-member : goal.invariant-loop-member
invariant-loop-member l = record {
  names : names_of l.families ≡ families_of (take l.member-index l.members);
  homes : AreHomes (take l.member-index l.members) (families_of (take l.member-index l.members)) l.homes.items;
}
