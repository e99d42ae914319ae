-- The member who is near has the key.
use Rattle.std.proofs.Common.{◌≡◌, sym, ◌∙◌}
use Rattle.rx_ledger.proofs.Decided.{member_key_decides}
use Rattle.rx_serial.proofs.Places.{is_listed_there, is_place}
use Rattle.rx_serial.proofs.in_order.InOrder.holder_of.Goals as goal

pub returns-then-eq-clause-found : goal.returns-then-eq-clause-found
returns-then-eq-clause-found c =
    let m = c.member_at.result.now in
    let k = c.args.key.now in
    let equal : m.key ≡ k = (member_key_decides m.key k).0 (sym c.eq.ensures ∙ c.if-eq.true) in
    rw (← c.self.view_is) (is_place c.self.inside.books.books.ledger c.in-Some.holder m c.member_at.ensures k equal)

pub returns-then-eq-clause-listed : goal.returns-then-eq-clause-listed
returns-then-eq-clause-listed c =
    let m = c.member_at.result.now in
    let k = c.args.key.now in
    let equal : m.key ≡ k = (member_key_decides m.key k).0 (sym c.eq.ensures ∙ c.if-eq.true) in
    rw (← c.self.view_is)
    (sym (is_listed_there c.self.inside.books.books.ledger c.in-Some.holder m c.member_at.ensures k equal))
