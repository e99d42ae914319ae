use Rattle.std.proofs.Common.{refl}
use Rattle.rx_fields.specs.Order.{key_cmp}
use Rattle.rx_sorted.specs.Ascending.{contains_key, put}
use Rattle.rx_ledger.specs.Ledger.{Ledger, IsLedger}
use Rattle.rx_ledger.specs.Rows.{row_key}
use Rattle.rx_ledger.specs.declared.row.Row.{Row}
use Rattle.std.specs.Prelude.{List}
use Rattle.rx_ledger.proofs.Ledgers.{IsLedger-with_row}
use Rattle.rx_ledger.proofs.Refusals.{either_way, free_is_not_there}
use Rattle.rx_ledger.proofs.ledger.Ledger.put_row.Goals as goal
use Rattle.rx_ledger.proofs.ledger.Ledger.put_row.Goals.{in-Ok, in-Err-Memory}

pub unreachable-requires : goal.unreachable-requires
unreachable-requires c =
    let free = rw (← c.self.view_is) at c.requires.free in
    free_is_not_there c.insert.result c.in-Err-There.field-0 c.in-Err-There.field-0-0
    (contains_key key_cmp row_key c.self.inside.rows c.args.row.key) c.insert.ensures.there free c.in-Err-There.is
    c.in-Err-There.field-0-is

pub invariant_of-self : goal.invariant_of-self
invariant_of-self c =
    let L : Ledger = record { members = c.self.inside.members; rows = c.self.inside.rows } in
    let listed = rw (← c.self.view_is) at c.requires.listed in
    let P : List Row → Type 0 = λ rows. IsLedger (record { members = c.self.inside.members; rows = rows }) in
    either_way c.insert.result c.insert.new.self (put key_cmp row_key c.self.inside.rows c.args.row)
    c.self.inside.rows P c.insert.ensures.ok c.insert.ensures.err
    (IsLedger-with_row L c.args.row c.self.invariant listed) c.self.invariant

pub returns-clause-ok : goal.returns-clause-ok
returns-clause-ok c = elim c.match-insert.branch [
  | in-Ok w ↦ rw w.result-is (rw (w.in-Ok.ensures.ok, ← c.self.view_is) refl)
  | in-Err-Memory w ↦ rw w.result-is tt
]
