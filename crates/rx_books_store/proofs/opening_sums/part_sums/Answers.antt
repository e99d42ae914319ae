use Rattle.std.proofs.Common.{◌≡◌, [], ◌∷◌, ◌++◌, take, sym, ap, ◌∙◌, arith}
use Rattle.std.proofs.lemmas.List.{take_more}
use Rattle.rx_books_store.specs.BooksText.{families_of}
use Rattle.rx_books_store.proofs.Added.{held-at, so_far-counted}
use Rattle.rx_books_store.proofs.Adding.{has_room, one_more}
use Rattle.rx_books_store.proofs.Stored.{home-of}
use Rattle.rx_books_store.proofs.opening_sums.part_sums.Goals as goal

pub home-requires : goal.home-requires
home-requires c =
    (held-at c.args.opening.now.members c.args.rows.now c.args.holders.now c.loop-at.at c.index-rows-at.result
    c.requires.held_by (omega arith) c.index-rows-at.is).in_range

pub count-requires : goal.count-requires
count-requires c =
    let ms = c.args.opening.now.members in
    let rows = c.args.rows.now in
    let i = c.loop-at.at in
    let r = c.index-rows-at.result in
    let F = c.loop-at.figures in
    let is_at = held-at ms rows c.args.holders.now i r c.requires.held_by (omega arith) c.index-rows-at.is in
    let so_far = so_far-counted c.args.period ms rows i r F (omega arith) c.index-rows-at.is c.loop-at.invariant in
    let home = home-of ms r _ (families_of ms) c.home.result is_at c.home.ensures in
    let room = has_room c.args.period ms rows _ _ r F.deductibles.items F.out_of_pockets.items F.family_deductibles.items
    c.requires.in_order so_far _ c.home.result is_at home c.counted_in.ensures.small c.requires.few in
    rw (c.counted_in.ensures.deductible, c.counted_in.ensures.out_of_pocket) (record {
      member = room.in_members;
      pocket = room.in_pockets;
      family = room.in_families;
      member_room = room.member_room;
      pocket_room = room.pocket_room;
      family_room = room.family_room;
    })

pub loop-at-preserved : goal.loop-at-preserved
loop-at-preserved c =
    let ms = c.args.opening.now.members in
    let rows = c.args.rows.now in
    let i = c.loop-at.at in
    let r = c.index-rows-at.result in
    let F = c.loop-at.figures in
    let is_at = held-at ms rows c.args.holders.now i r c.requires.held_by (omega arith) c.index-rows-at.is in
    let so_far = so_far-counted c.args.period ms rows i r F (omega arith) c.index-rows-at.is c.loop-at.invariant in
    let home = home-of ms r _ (families_of ms) c.home.result is_at c.home.ensures in
    let more = one_more c.args.period ms rows _ _ r F.deductibles.items F.out_of_pockets.items F.family_deductibles.items
    c.requires.in_order so_far _ c.home.result is_at home c.counted_in.ensures.small in
    let next = take_more rows i r (omega arith) ∙ ap (λ x. take i rows ++ x ∷ []) (sym c.index-rows-at.is) in
    record {
      figures = rw (
        next,
        c.count.ensures.members,
        c.count.ensures.pockets,
        c.count.ensures.families,
        c.counted_in.ensures.deductible,
        c.counted_in.ensures.out_of_pocket,
      ) more.figures;
      small = rw next more.small;
    }
