-- The members that are still to come, put into those that are there.
use Rattle.std.proofs.Common.{◌≡◌, drop}
use Rattle.std.specs.List.{filter}
use Rattle.rx_sorted.specs.Ascending.{put_all}
use Rattle.rx_ledger.specs.Members.{member_cmp, member_key}
use Rattle.rx_books_family.specs.Amended.{is_unplaced}
use Rattle.rx_books_store.proofs.amended_lists.put_unplaced.Given as goal

abbrev pub invariant-loop-member : goal.invariant-loop-member
invariant-loop-member l =
    put_all member_cmp member_key l.all (filter (is_unplaced l.places) (drop l.member-index l.members))
    ≡ put_all member_cmp member_key l.initial.all (filter (is_unplaced l.places) l.members)
