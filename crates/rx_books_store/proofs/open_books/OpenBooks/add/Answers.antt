use Rattle.std.proofs.Common.{◌≡◌, ◌<◌, length, false, Some, arith}
use Rattle.std.specs.Prelude.{slice_get}
use Rattle.std.proofs.lemmas.Option.{slice_get_within}
use Rattle.rx_sorted.specs.Ascending.{IsAt}
use Rattle.rx_ledger.specs.Ledger.{is_taken}
use Rattle.rx_ledger.specs.Members.{member_cmp, member_key}
use Rattle.rx_ledger.specs.Rows.{member_of_row}
use Rattle.rx_books_store.specs.BooksText.{families_of}
use Rattle.rx_books_store.specs.Store.{slot_keys, standing}
use Rattle.rx_ledger.proofs.CountedRows.{counted-small, counted_deductible-small}
use Rattle.rx_books_store.proofs.Stored.{deductible-low, family_deductible-low, keys-added, length-family_deductibles}
use Rattle.rx_books_store.proofs.Stored.{length-pockets, pocket-low, same_open, slot-at, stands-added, store-added}
use Rattle.rx_books_store.proofs.open_books.OpenBooks.add.Goals as goal

pub replace_at-requires : goal.replace_at-requires
replace_at-requires c =
    let slot : slice_get (slot_keys c.self.inside.changed) c.args.slot ≡ Some c.args.row.key = rw (← c.self.view_is) at c.requires.slot in
    slot-at c.self.inside.changed c.args.slot c.args.row.key slot

-- ---- places and room

pub add_at-requires-clause-room : goal.add_at-requires-clause-room
add_at-requires-clause-room c =
    let member : IsAt member_cmp member_key c.self.inside.opening.members (member_of_row c.args.row) c.args.member =
    rw (← c.self.view_is) at c.requires.member in
    let low = deductible-low _ _ _ _ _ _ c.self.invariant c.args.member member.in_range in
    let more = counted_deductible-small c.self.inside.period c.args.row c.counted_in-counted.ensures.small in
    omega (arith, low, more, c.counted_in-counted.ensures.deductible)

pub add_at-requires-2-clause-in_range : goal.add_at-requires-2-clause-in_range
add_at-requires-2-clause-in_range c =
    let family : slice_get (families_of c.self.inside.opening.members) c.args.family ≡ Some c.args.row.family =
    rw (← c.self.view_is) at c.requires.family in
    let within : c.args.family < length (families_of c.self.inside.opening.members) = slice_get_within _ _ _ family in
    let long : length c.self.inside.out_of_pockets.items ≡ length (families_of c.self.inside.opening.members) =
    length-pockets _ _ _ _ _ _ c.self.invariant in
    omega arith

pub add_at-requires-2-clause-room : goal.add_at-requires-2-clause-room
add_at-requires-2-clause-room c =
    let family : slice_get (families_of c.self.inside.opening.members) c.args.family ≡ Some c.args.row.family =
    rw (← c.self.view_is) at c.requires.family in
    let low = pocket-low _ _ _ _ _ _ c.self.invariant c.args.family (slice_get_within _ _ _ family) in
    let more = counted-small c.self.inside.period c.args.row c.counted_in-counted.ensures.small in
    omega (arith, low, more, c.counted_in-counted.ensures.out_of_pocket)

pub add_at-requires-3-clause-in_range : goal.add_at-requires-3-clause-in_range
add_at-requires-3-clause-in_range c =
    let family : slice_get (families_of c.self.inside.opening.members) c.args.family ≡ Some c.args.row.family =
    rw (← c.self.view_is) at c.requires.family in
    let within : c.args.family < length (families_of c.self.inside.opening.members) = slice_get_within _ _ _ family in
    let long : length c.self.inside.family_deductibles.items ≡ length (families_of c.self.inside.opening.members) =
    length-family_deductibles _ _ _ _ _ _ c.self.invariant in
    omega arith

pub add_at-requires-3-clause-room : goal.add_at-requires-3-clause-room
add_at-requires-3-clause-room c =
    let family : slice_get (families_of c.self.inside.opening.members) c.args.family ≡ Some c.args.row.family =
    rw (← c.self.view_is) at c.requires.family in
    let low = family_deductible-low _ _ _ _ _ _ c.self.invariant c.args.family (slice_get_within _ _ _ family) in
    let more = counted_deductible-small c.self.inside.period c.args.row c.counted_in-counted.ensures.small in
    omega (arith, low, more, c.counted_in-counted.ensures.deductible)

-- ---- the row is written, and counts

pub invariant_of-self : goal.invariant_of-self
invariant_of-self c =
    let inside = c.self.inside in
    let slot : slice_get (slot_keys inside.changed) c.args.slot ≡ Some c.args.row.key = rw (← c.self.view_is) at c.requires.slot in
    let free : is_taken (standing inside.opening inside.changed) c.args.row.key ≡ false = rw (← c.self.view_is) at c.requires.free in
    let member : IsAt member_cmp member_key inside.opening.members (member_of_row c.args.row) c.args.member =
    rw (← c.self.view_is) at c.requires.member in
    let family : slice_get (families_of inside.opening.members) c.args.family ≡ Some c.args.row.family =
    rw (← c.self.view_is) at c.requires.family in
    rw (
      c.replace_at.ensures.items,
      c.add_at.ensures,
      c.add_at-2.ensures,
      c.add_at-3.ensures,
      c.kept_place.ensures,
      c.counted_in-counted.ensures.deductible,
      c.counted_in-counted.ensures.out_of_pocket,
    )
    (store-added _ _ _ _ _ _ c.self.invariant c.args.row c.args.slot c.args.member c.args.family slot free member family
    c.counted_in-counted.ensures.small)

pub returns : goal.returns
returns c =
    let inside = c.self.inside in
    let slot : slice_get (slot_keys inside.changed) c.args.slot ≡ Some c.args.row.key = rw (← c.self.view_is) at c.requires.slot in
    let free : is_taken (standing inside.opening inside.changed) c.args.row.key ≡ false = rw (← c.self.view_is) at c.requires.free in
    let member : IsAt member_cmp member_key inside.opening.members (member_of_row c.args.row) c.args.member =
    rw (← c.self.view_is) at c.requires.member in
    let family : slice_get (families_of inside.opening.members) c.args.family ≡ Some c.args.row.family =
    rw (← c.self.view_is) at c.requires.family in
    let ledger = stands-added _ _ _ _ _ _ c.self.invariant c.args.row c.args.slot c.args.member c.args.family slot free member family in
    let keys = keys-added _ _ _ _ _ _ c.self.invariant c.args.row c.args.slot c.args.member c.args.family slot free member family in
    rw (c.replace_at.ensures.items, c.kept_place.ensures, ← c.self.view_is)
    (same_open inside.period _ _ _ _ ledger keys)
