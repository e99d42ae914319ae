use Rattle.std.proofs.Common.{sym, ◌∙◌}
use Rattle.std.specs.Cmp.Lexicographic.{bytes_decides}
use Rattle.rx_serial.proofs.Places.{has_member_there}
use Rattle.rx_serial.proofs.in_order.InOrder.is_near.Goals as goal

pub returns-then-eq : goal.returns-then-eq
returns-then-eq c = λ found.
    let m = c.member_at.result.now in
    rw (← c.self.view_is)
    (has_member_there c.self.inside.books.books.ledger c.in-Some.holder m c.member_at.ensures c.args.family.now
    ((bytes_decides m.key.family c.args.family.now).0 (sym c.eq.ensures ∙ c.if-eq.true)))
