-- Each shard's records are a part of the job.
use Rattle.std.proofs.Common.{subst, sym}
use Rattle.rx_wave.specs.Jobs.{ArePlaces, IsJob}
use Rattle.rx_wave.proofs.spread.run_each.Goals as goal

pub map_vec-requires-after_bounds : goal.map_vec-requires-after_bounds
map_vec-requires-after_bounds g c κs within = λ i x lt is.
    subst (λ list. IsJob c.args.job.now × ArePlaces c.args.job.now list.items) (sym is) (c.requires.job, c.requires.places i x lt)
