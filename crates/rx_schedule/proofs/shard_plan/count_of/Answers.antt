use Rattle.std.proofs.Common.{ℕ, ◌<◌, List, arith, subst, take}
use Rattle.std.specs.List.{All}
use Rattle.std.proofs.lemmas.List.{take_all}
use Rattle.std.proofs.lemmas.List.Elements.{All-more, All-weaker}
use Rattle.rx_schedule.proofs.shard_plan.count_of.Goals as goal
use Rattle.rx_schedule.proofs.shard_plan.count_of.Goals.{then-number-count, else-number-count}

pub numbers-preserved : goal.numbers-preserved
numbers-preserved c = elim c.if-number-count.branch [
  | then-number-count w ↦
      let now = w.count-is in
      let past = w.if-number-count.true in
      let below = c.requires c.numbers.number-index 0 c.numbers-test.true in
      record {
        within = All-more (λ number. number < c.if-number-count.count) c.args.numbers.now c.numbers.number-index 0
            c.numbers-test.true
            (All-weaker (λ number. number < c.numbers.count) (λ number. number < c.if-number-count.count)
            (λ number before. omega arith) (take c.numbers.number-index c.args.numbers.now) c.numbers.invariant.within)
            (omega arith);
        few = omega arith;
      }
  | else-number-count w ↦
      let now = w.count-is in
      let own = w.if-number-count.false in
      let few = c.numbers.invariant.few in
      record {
        within = All-more (λ number. number < c.if-number-count.count) c.args.numbers.now c.numbers.number-index 0
            c.numbers-test.true
            (All-weaker (λ number. number < c.numbers.count) (λ number. number < c.if-number-count.count)
            (λ number before. omega arith) (take c.numbers.number-index c.args.numbers.now) c.numbers.invariant.within)
            (omega arith);
        few = omega arith;
      }
]

pub returns-clause-within : goal.returns-clause-within
returns-clause-within c =
    subst (λ (numbers : List ℕ). All (λ number. number < c.numbers.count) numbers)
    (take_all c.numbers.number-index c.args.numbers.now c.numbers-test.false) c.numbers.invariant.within
