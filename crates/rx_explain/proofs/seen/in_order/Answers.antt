-- The numbers that are visible are the key of the sort; the closure changes nothing.
use Rattle.std.proofs.Common.{rules}
use Rattle.std.proofs.lemmas.Fn.{always_returns_same}
use Rattle.rx_explain.specs.Seen.{visible}
use Rattle.rx_explain.proofs.seen.in_order.Goals as goal

pub returns-clause-rise : goal.returns-clause-rise
returns-clause-rise c =
    c.in_ok-sort_by_key.ensures.sorted (visible c.args.bill.now) (always_returns_same _ _ _ (λ a r f' k. search rules))
