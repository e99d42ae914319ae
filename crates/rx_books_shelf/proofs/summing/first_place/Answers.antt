use Rattle.std.proofs.Common.{sym, subst}
use Rattle.rx_sorted.specs.Ascending.{IsAscending}
use Rattle.rx_ledger.specs.Members.{member_cmp, member_key}
use Rattle.rx_books_shelf.proofs.summing.first_place.Goals as goal

pub place_near-requires : goal.place_near-requires
place_near-requires c = subst (IsAscending member_cmp member_key) (sym c.members.ensures.value) c.members.ensures.rise
