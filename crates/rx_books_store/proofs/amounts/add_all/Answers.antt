use Rattle.std.proofs.Common.{arith}
use Rattle.rx_books_store.proofs.Added.{added-more, added-none, added-room}
use Rattle.rx_books_store.proofs.amounts.add_all.Goals as goal

pub loop-place-init : goal.loop-place-init
loop-place-init c = added-none c.args.figures.now.items

pub add_at-requires-clause-room : goal.add_at-requires-clause-room
add_at-requires-clause-room c =
    let long = c.requires.one_each in
    added-room c.args.figures.now.items c.args.more.now c.loop-place.figures.items c.loop-place.place (omega arith) (omega arith)
    c.loop-place.invariant c.requires

pub loop-place-preserved : goal.loop-place-preserved
loop-place-preserved c =
    let long = c.requires.one_each in
    rw c.add_at.ensures (added-more c.args.figures.now.items c.args.more.now c.loop-place.figures.items c.loop-place.place
    (omega arith) (omega arith) c.loop-place.invariant)
