-- A key that a record names has a slot.
use Rattle.std.proofs.Common.{Option, Some, None}
use Rattle.std.specs.Prelude.{IfNone}
use Rattle.std.specs.List.{Contains}
use Rattle.std.proofs.lemmas.List.Elements.{All-contains}
use Rattle.rx_serial.proofs.in_order.InOrder.slot_of.Goals as goal

none_weaker : {X P Q : Type 0} (o : Option X) → (P → Q) → IfNone o P → IfNone o Q
none_weaker None more p = more p
none_weaker (Some x) more p = p

pub returns-clause-absent : goal.returns-clause-absent
returns-clause-absent c =
    let o = c.self.inside in
    let key = c.args.key.now in
    rw (← c.self.view_is)
    (none_weaker c.slot_of.result
    (λ none there. none (All-contains (Contains o.books.slots) o.keys.items key c.self.invariant.opened there))
    c.slot_of.ensures.absent)
