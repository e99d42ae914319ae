-- The places that are still to come, put into the members that are there.
use Rattle.std.proofs.Common.{◌≡◌, drop, map}
use Rattle.std.specs.List.{fold}
use Rattle.rx_sorted.specs.Ascending.{put_all}
use Rattle.rx_ledger.specs.Members.{member_cmp, member_key}
use Rattle.rx_books_family.specs.Amended.{members_held}
use Rattle.rx_books_store.proofs.amended_lists.put_held.Given as goal

abbrev pub invariant-loop-place : goal.invariant-loop-place
invariant-loop-place l =
    fold (put_all member_cmp member_key) l.all (map members_held (drop l.place-index l.places))
    ≡ fold (put_all member_cmp member_key) l.initial.all (map members_held l.places)
