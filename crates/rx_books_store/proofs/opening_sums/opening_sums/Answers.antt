use Rattle.std.proofs.Common.{◌≡◌, List, length, sym, subst, ap, ◌∙◌, ◌<◌, ◌^◌, arith}
use Rattle.std.specs.List.{All, flat_map}
use Rattle.rx_ledger.specs.Ledger.{Ledger}
use Rattle.rx_books_store.specs.Parts.{IsSummed}
use Rattle.rx_books_store.proofs.Added.{IsNext, all-added, next-added, next-room, rows_in}
use Rattle.rx_books_store.proofs.opening_sums.opening_sums.Goals as goal

pub loop-part-init : goal.loop-part-init
loop-part-init c = c.in_ok-figures.ensures c.args.period

pub add-requires : goal.add-requires
add-requires c =
    let period = c.args.period in
    let ms = c.args.opening.now.members in
    let parts : List Ledger = c.deref-part-items.result.now in
    let theirs : All (λ (p : Ledger). p.members ≡ ms) parts = rw c.deref-part-items.ensures.value c.in_ok-parts.ensures.members in
    let rows : flat_map rows_in parts ≡ c.args.opening.now.rows =
    ap (flat_map rows_in) c.deref-part-items.ensures.value ∙ c.in_ok-parts.ensures.rows in
    let few : length c.args.opening.now.rows < 2 ^ 64 = omega (arith, c.in_ok-parts.ensures.few) in
    let next : IsNext (IsSummed period) parts c.loop-part.part-index c.in_ok-more.more =
    record { part = c.part-item.result; within = omega arith; is = c.part-item.is; holds = c.in_ok-more.ensures } in
    let room = next-room period ms c.args.opening.now.rows parts theirs rows few c.loop-part.part-index c.loop-part.figures
    c.in_ok-more.more c.loop-part.invariant next in
    record { members = room.members; pockets = room.pockets; families = room.families }

pub loop-part-preserved : goal.loop-part-preserved
loop-part-preserved c =
    let period = c.args.period in
    let ms = c.args.opening.now.members in
    let parts : List Ledger = c.deref-part-items.result.now in
    let theirs : All (λ (p : Ledger). p.members ≡ ms) parts = rw c.deref-part-items.ensures.value c.in_ok-parts.ensures.members in
    let rows : flat_map rows_in parts ≡ c.args.opening.now.rows =
    ap (flat_map rows_in) c.deref-part-items.ensures.value ∙ c.in_ok-parts.ensures.rows in
    let few : length c.args.opening.now.rows < 2 ^ 64 = omega (arith, c.in_ok-parts.ensures.few) in
    let next : IsNext (IsSummed period) parts c.loop-part.part-index c.in_ok-more.more =
    record { part = c.part-item.result; within = omega arith; is = c.part-item.is; holds = c.in_ok-more.ensures } in
    next-added period ms c.args.opening.now.rows parts theirs rows few c.loop-part.part-index c.loop-part.figures
    c.in_ok-more.more c.loop-part.invariant next c.add.new.self
    (record { members = c.add.ensures.members; pockets = c.add.ensures.pockets; families = c.add.ensures.families })

pub returns : goal.returns
returns c =
    all-added c.args.period c.args.opening.now c.deref-part-items.result.now c.loop-part.part-index
    c.loop-part.figures (ap (flat_map rows_in) c.deref-part-items.ensures.value ∙ c.in_ok-parts.ensures.rows) (omega arith)
    c.loop-part.invariant
