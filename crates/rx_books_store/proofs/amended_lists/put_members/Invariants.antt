-- The members that are still to come, put into those that are there.
use Rattle.std.proofs.Common.{◌≡◌, drop}
use Rattle.rx_sorted.specs.Ascending.{put_all}
use Rattle.rx_ledger.specs.Members.{member_cmp, member_key}
use Rattle.rx_books_store.proofs.amended_lists.put_members.Given as goal

abbrev pub invariant-loop-member : goal.invariant-loop-member
invariant-loop-member l =
    put_all member_cmp member_key l.all (drop l.member-index l.members) ≡ put_all member_cmp member_key l.initial.all l.members
