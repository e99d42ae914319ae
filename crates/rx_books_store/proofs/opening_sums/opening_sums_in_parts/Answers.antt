use Rattle.std.proofs.Common.{◌≡◌, ◌<◌, ◌^◌, List, length, sym, subst, ap, ◌∙◌, arith}
use Rattle.std.specs.List.{AllZip}
use Rattle.rx_ledger.specs.Ledger.{Ledger}
use Rattle.rx_books_store.specs.Parts.{IsSummed}
use Rattle.rx_books_store.proofs.Added.{all-found, next-added, next-of, next-room}
use Rattle.rx_books_store.proofs.opening_sums.opening_sums_in_parts.Goals as goal

pub loop-more-init : goal.loop-more-init
loop-more-init g c =
    let period = c.args.period in
    let parts : List Ledger = c.in_ok-parts.parts.items in
    let each : AllZip (IsSummed period) parts c.deref-more-items.result.now =
    rw c.deref-more-items.ensures.value (rw c.deref.ensures.value at c.in_ok-found.ensures) in (
      parts,
      (
        record { members = c.in_ok-parts.ensures.members; rows = c.in_ok-parts.ensures.rows; each = each },
        c.in_ok-figures.ensures period,
      ),
    )

pub add-requires : goal.add-requires
add-requires g c =
    let period = c.args.period in
    let L = c.args.opening.now in
    let inv = c.loop-more.invariant in
    let parts : List Ledger = inv.0 in
    let next = next-of (IsSummed period) parts c.deref-more-items.result.now c.loop-more.more-index c.more-item.result inv.1.0.each
    (omega arith) c.more-item.is in
    let few : length L.rows < 2 ^ 64 = omega (arith, c.in_ok-parts.ensures.few) in
    let room = next-room period L.members L.rows parts inv.1.0.members inv.1.0.rows few c.loop-more.more-index
    c.loop-more.figures c.more-item.result inv.1.1 next in
    record { members = room.members; pockets = room.pockets; families = room.families }

pub loop-more-preserved : goal.loop-more-preserved
loop-more-preserved g c =
    let period = c.args.period in
    let L = c.args.opening.now in
    let inv = c.loop-more.invariant in
    let parts : List Ledger = inv.0 in
    let next = next-of (IsSummed period) parts c.deref-more-items.result.now c.loop-more.more-index c.more-item.result inv.1.0.each
    (omega arith) c.more-item.is in
    let few : length L.rows < 2 ^ 64 = omega (arith, c.in_ok-parts.ensures.few) in
    let more = next-added period L.members L.rows parts inv.1.0.members inv.1.0.rows few c.loop-more.more-index
    c.loop-more.figures c.more-item.result inv.1.1 next c.add.new.self
    (record { members = c.add.ensures.members; pockets = c.add.ensures.pockets; families = c.add.ensures.families }) in
    (parts, (inv.1.0, more))

pub returns-clause-sums : goal.returns-clause-sums
returns-clause-sums g c =
    let inv = c.loop-more.invariant in
    all-found c.args.period c.args.opening.now inv.0 c.deref-more-items.result.now c.loop-more.more-index c.loop-more.figures
    inv.1.0 (omega arith) inv.1.1
