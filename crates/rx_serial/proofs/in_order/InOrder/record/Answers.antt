-- The keys for which it answers are those of before.
use Rattle.std.proofs.Common.{ap, subst, ◌∙◌}
use Rattle.rx_fields.specs.Order.{key_cmp}
use Rattle.rx_sorted.specs.Ascending.{IsAscending}
use Rattle.rx_ledger.specs.Basis.{Scope}
use Rattle.rx_serial.specs.Underway.{Underway, scope_of}
use Rattle.rx_serial.proofs.Awaited.{same_keys}
use Rattle.rx_serial.proofs.in_order.InOrder.record.Goals as goal

pub answer_record-requires-clause-held : goal.answer_record-requires-clause-held
answer_record-requires-clause-held c = rw c.begin.ensures.same (c.requires.awaited c.args.self.now.books.ledger)

pub returns-clause-keys : goal.returns-clause-keys
returns-clause-keys c =
    let rising = λ (u : Underway). IsAscending key_cmp (λ key. key) u.keys in
    same_keys c.pass.new.self.keys c.args.self.now.keys c.pass.ensures.rise (subst rising c.begin.ensures.same c.begin.ensures.rise)
    (ap (λ (s : Scope). s.has_key)
    (ap scope_of c.pass.ensures.same ∙ c.in_ok-reply.ensures.scope ∙ ap scope_of c.begin.ensures.same))
