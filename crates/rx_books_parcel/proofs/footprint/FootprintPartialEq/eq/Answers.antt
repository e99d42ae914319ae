use Rattle.std.specs.Cmp.Lexicographic.{bytes_decides, pointwise_decides}
use Rattle.std.proofs.lemmas.Bool.Decides.{Decides-at}
use Rattle.rx_ledger.proofs.Decided.{key_decides}
use Rattle.rx_books_parcel.proofs.Same.{other_footprint, same_footprint}
use Rattle.rx_books_parcel.proofs.footprint.FootprintPartialEq.eq.Goals as goal

pub returns-then-eq : goal.returns-then-eq
returns-then-eq c =
    let a = c.args.self.now in
    let b = c.args.other.now in
    let keys = rw (c.keys.ensures.value, c.keys-2.ensures.value) at c.eq.ensures in
    let families = rw (c.families.ensures.value, c.families-then-eq.ensures.value) at c.eq-then-eq.ensures in
    same_footprint a b c.eq.result c.eq-then-eq.result (Decides-at _ _ keys (pointwise_decides key_decides a.keys b.keys)) c.if-eq.true
    (Decides-at _ _ families (pointwise_decides bytes_decides a.families b.families))

pub returns-else-eq : goal.returns-else-eq
returns-else-eq c =
    let a = c.args.self.now in
    let b = c.args.other.now in
    let keys = rw (c.keys.ensures.value, c.keys-2.ensures.value) at c.eq.ensures in
    other_footprint a b c.eq.result (Decides-at _ _ keys (pointwise_decides key_decides a.keys b.keys)) c.if-eq.false
