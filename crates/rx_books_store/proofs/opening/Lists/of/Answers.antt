use Rattle.std.specs.Arc.{arc_value}
use Rattle.rx_books_store.proofs.Openings.{held-ledger}
use Rattle.rx_books_store.proofs.opening.Lists.of.Goals as goal

pub homes_of-requires-clause-rise : goal.homes_of-requires-clause-rise
homes_of-requires-clause-rise c = rw c.as_slice.ensures.value c.as_slice.ensures.ascending

pub invariant_of-result : goal.invariant_of-result
invariant_of-result c =
    let families = rw c.as_slice.ensures.value at c.in_ok-families.ensures in
    record {
      in_order = held-ledger c.args.members (arc_value c.args.rows) c.args.holders.items c.as_slice.ensures.ascending
          c.requires.held.rise c.requires.held.held_by;
      all_families = families.names;
      at_home = rw families.names families.homes;
      held_by = c.requires.held.held_by;
      few = c.requires.few;
    }

pub returns-clause-within : goal.returns-clause-within
returns-clause-within c = held-ledger c.args.members (arc_value c.args.rows) c.args.holders.items c.as_slice.ensures.ascending
    c.requires.held.rise c.requires.held.held_by
