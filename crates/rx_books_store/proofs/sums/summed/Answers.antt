use Rattle.std.proofs.Common.{◌≡◌, ◌<◌, ◌^◌, [], ◌∷◌, ◌++◌, length, sym, subst, ap, ◌∙◌, arith}
use Rattle.std.specs.Prelude.{◌==◌}
use Rattle.rx_fields.specs.Order.{key_cmp}
use Rattle.rx_sorted.specs.Ascending.{IsAt}
use Rattle.rx_sorted.proofs.Overlaid.{length-overlaid}
use Rattle.rx_ledger.specs.Ledger.{Ledger}
use Rattle.rx_ledger.specs.Members.{member_cmp, member_key}
use Rattle.rx_ledger.specs.Rows.{member_of_row, row_key}
use Rattle.rx_ledger.proofs.Orders.{key_total}
use Rattle.rx_books_store.specs.BooksText.{families_of}
use Rattle.rx_books_store.specs.Parts.{IsSummed}
use Rattle.rx_books_store.specs.Store.{AreFigures, held, slot_key, standing_rows}
use Rattle.rx_books_store.proofs.Added.{if_ok, none-stand}
use Rattle.rx_books_store.proofs.Adding.{IsCounted, counted_none, has_room, one_more}
use Rattle.rx_books_store.proofs.Openings.{length-names}
use Rattle.rx_books_store.proofs.Stored.{home-of}
use Rattle.rx_books_store.proofs.sums.summed.Goals as goal

pub of-standing-requires-clause-rise : goal.of-standing-requires-clause-rise
of-standing-requires-clause-rise c = rw c.as_slice-slots.ensures.value c.as_slice-slots.ensures.ascending

pub of-standing-requires-clause-own : goal.of-standing-requires-clause-own
of-standing-requires-clause-own c = rw c.as_slice-slots.ensures.value c.requires.own

pub returns-then-is_empty-clause-figures : goal.returns-then-is_empty-clause-figures
returns-then-is_empty-clause-figures c =
    let none = ap (λ ss. length ss == 0) (sym c.as_slice-slots.ensures.value) ∙ sym c.is_empty.ensures ∙ c.if-is_empty.true in
    rw (none-stand c.args.opening.now c.args.slots.now none) (if_ok c.opening_sums.result (IsSummed c.args.period c.args.opening.now)
    (λ f. AreFigures c.args.period c.args.opening.now f.deductibles.items f.out_of_pockets.items f.family_deductibles.items)
    (λ f is. is.figures) c.opening_sums.ensures)

pub rows-init : goal.rows-init
rows-init c =
    let ms = c.args.opening.now.members in
    let here : length c.as_slice-members.result.now ≡ length ms = ap length (c.as_slice-members.ensures.value ∙ c.members.ensures.value) in
    let theirs : length c.families.result.now ≡ length (families_of ms) =
    sym (length-names c.families.result.now) ∙ ap length c.families.ensures in
    let rest : c.of-standing.result.rows ≡ standing_rows c.args.opening.now.rows c.args.slots.now =
    ap (λ (L : Ledger). L.rows) c.of-standing.ensures
    ∙ ap (λ ss. standing_rows c.args.opening.now.rows ss) c.as_slice-slots.ensures.value in (
      [],
      (
        ap (λ (L : Ledger). L.members) c.of-standing.ensures,
        counted_none c.args.period ms _ _ _ _ _ _ _ rest c.in_ok-figures.ensures.members here
            c.in_ok-figures.ensures.pockets c.in_ok-figures.ensures.families theirs,
      ),
    )

pub count-requires : goal.count-requires
count-requires c =
    let ms = c.args.opening.now.members in
    let all = standing_rows c.args.opening.now.rows c.args.slots.now in
    let inv = c.rows.invariant in
    let r = c.in-Some.row.now in
    let ds = c.rows.figures.deductibles.items in
    let os = c.rows.figures.out_of_pockets.items in
    let fs = c.rows.figures.family_deductibles.items in
    let rest = c.next_row.new.self.rows in
    let is_at = subst (λ xs. IsAt member_cmp member_key xs (member_of_row r) c.in-Some.member) inv.1.0 c.in-Some.ensures.holder in
    let so_far = subst (λ xs. IsCounted c.args.period ms all xs inv.0 ds os fs) c.in-Some.ensures.row inv.1.1 in
    let home = home-of ms r c.in-Some.member (families_of ms) c.home.result is_at c.home.ensures in
    let few : length all < 2 ^ 64 = omega (
      arith,
      length-overlaid key_cmp key_total row_key slot_key held c.args.opening.now.rows c.args.slots.now,
      c.requires.few,
    ) in
    let room = has_room c.args.period ms all rest inv.0 r ds os fs c.requires.in_order so_far c.in-Some.member c.home.result is_at home
    c.counted_in-counted.ensures.small few in
    rw (c.counted_in-counted.ensures.deductible, c.counted_in-counted.ensures.out_of_pocket) (record {
      member = room.in_members;
      pocket = room.in_pockets;
      family = room.in_families;
      member_room = room.member_room;
      pocket_room = room.pocket_room;
      family_room = room.family_room;
    })

pub rows-preserved : goal.rows-preserved
rows-preserved c =
    let ms = c.args.opening.now.members in
    let all = standing_rows c.args.opening.now.rows c.args.slots.now in
    let inv = c.rows.invariant in
    let r = c.in-Some.row.now in
    let ds = c.rows.figures.deductibles.items in
    let os = c.rows.figures.out_of_pockets.items in
    let fs = c.rows.figures.family_deductibles.items in
    let rest = c.next_row.new.self.rows in
    let is_at = subst (λ xs. IsAt member_cmp member_key xs (member_of_row r) c.in-Some.member) inv.1.0 c.in-Some.ensures.holder in
    let so_far = subst (λ xs. IsCounted c.args.period ms all xs inv.0 ds os fs) c.in-Some.ensures.row inv.1.1 in
    let home = home-of ms r c.in-Some.member (families_of ms) c.home.result is_at c.home.ensures in
    let more = one_more c.args.period ms all rest inv.0 r ds os fs c.requires.in_order so_far c.in-Some.member c.home.result is_at home
    c.counted_in-counted.ensures.small in (
      inv.0 ++ r ∷ [],
      (
        c.in-Some.ensures.members ∙ inv.1.0,
        rw (
          c.count.ensures.members,
          c.count.ensures.pockets,
          c.count.ensures.families,
          c.counted_in-counted.ensures.deductible,
          c.counted_in-counted.ensures.out_of_pocket,
        ) more,
      ),
    )
