use Rattle.std.proofs.Common.{◌||◌, ap, ◌∙◌}
use Rattle.std.specs.List.{flat_map}
use Rattle.std.proofs.lemmas.List.{take_all}
use Rattle.rx_schedule.specs.Footprints.{families_named, key_named}
use Rattle.rx_schedule.specs.Billed.{has_family}
use Rattle.rx_schedule.proofs.Noted.{more_named, more_put}
use Rattle.rx_schedule.proofs.naming.name_all.Goals as goal

pub transactions-preserved : goal.transactions-preserved
transactions-preserved c = record {
  keys = more_put (key_named c.args.heard.now) c.as_slice-transaction-items.result.now c.transactions.transaction-index
      c.transaction-item.result c.args.keys.now.items c.transactions.keys.items _
      c.transactions-test.true c.transaction-item.is c.transactions.invariant.keys c.in_ok-name_one.ensures.keys;
  families = λ earlier has f.
      more_named (families_named c.args.books.now.ledger earlier c.args.heard.now) _ c.transactions.transaction-index
      c.transaction-item.result f (has_family c.args.families.now.items f) (has_family c.transactions.families.items f) _
      c.transactions-test.true c.transaction-item.is (c.transactions.invariant.families earlier has f)
      (c.in_ok-name_one.ensures.families earlier has f);
}

pub returns-clause-families : goal.returns-clause-families
returns-clause-families c = λ earlier has f.
    c.transactions.invariant.families earlier has f
    ∙ ap (λ ts. has_family c.args.families.now.items f
    || has_family (flat_map (families_named c.args.books.now.ledger earlier c.args.heard.now) ts) f)
    (take_all c.transactions.transaction-index c.as_slice-transaction-items.result.now c.transactions-test.false
    ∙ c.as_slice-transaction-items.ensures.value)
