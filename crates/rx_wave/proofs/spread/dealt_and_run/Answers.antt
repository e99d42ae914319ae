-- The places of each shard are places of the batch, and what runs there is what the shards leave.
use Rattle.std.proofs.Common.{◌≡◌, ◌<◌, ℕ, List, [], get_or, length, sym, ap, subst, ◌∙◌, arith}
use Rattle.std.specs.List.{All}
use Rattle.std.proofs.lemmas.List.{get_or-map}
use Rattle.std.proofs.lemmas.List.Elements.{All-weaker}
use Rattle.rx_schedule.specs.Shards.{is_of, places_of}
use Rattle.rx_schedule.specs.Waves.{number_in}
use Rattle.rx_schedule.proofs.Chosen.{IsChosen, places_chosen}
use Rattle.rx_wave.specs.Jobs.{HasRun, IsPlaceOf}
use Rattle.rx_wave.specs.declared.job.Job.{Job}
use Rattle.rx_wave.proofs.Joining.{low_of, rises_of}
use Rattle.rx_wave.proofs.spread.dealt_and_run.Goals as goal

pub run_all-requires-clause-places : goal.run_all-requires-clause-places
run_all-requires-clause-places g c κs within = λ k d lt.
    let numbers = c.in_ok-shards.shards.numbers.items in
    let lists = c.in_ok-places.places.items in
    let n = length c.args.transmissions.now in
    let count = c.in_ok-places.ensures.one_each in
    let one_each : length numbers ≡ n = c.in_ok-shards.ensures.one_each in
    let shard = is_of (number_in numbers) k in
    let is : (get_or lists k d).items ≡ places_of shard n =
    sym (get_or-map (λ list. list.items) lists k d [] lt) ∙ c.in_ok-places.ensures.places k (omega (arith, lt, count))
    ∙ ap (places_of shard) one_each in
    subst (All (IsPlaceOf n)) (sym is)
    (All-weaker (IsChosen shard n) (IsPlaceOf n) (λ i w. record { from_one = w.from_one; to_count = w.to }) (places_of shard n)
    (places_chosen shard n))

pub returns : goal.returns
returns g c =
    let job : Job = record { lot = c.args.lot; sheet = c.args.sheet; books = c.args.books; transmissions = c.args.transmissions } in
    let n = length c.args.transmissions.now in
    let numbers = c.in_ok-shards.shards.numbers.items in
    let ended = c.in_ok-ended.ended.items in
    let count = c.in_ok-places.ensures.one_each in
    let long = c.in_ok-ended.ensures.one_each in
    let one_each : length numbers ≡ n = c.in_ok-shards.ensures.one_each in
    let low_each : All (λ number. number < c.in_ok-shards.shards.count) numbers = c.in_ok-shards.ensures.within in
    record {
      in_order = rises_of c.args.books.now.ledger c.period.ensures.within;
      grouped = c.in_ok-shards.ensures.together;
      one_each = one_each;
      within = λ i d lt. let low = low_each i d lt in omega (arith, low, count, long);
      each = λ k end is.
          let low = low_of ended k end is in
          subst (λ (ps : List ℕ). HasRun job ps end)
          (c.in_ok-places.ensures.places k (omega (arith, low, count, long))
          ∙ ap (places_of (is_of (number_in numbers) k)) one_each)
          (c.in_ok-ended.ensures.each k end is);
    }
