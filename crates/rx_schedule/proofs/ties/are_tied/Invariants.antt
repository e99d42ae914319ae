-- Each mention so far may follow the one before.
use Rattle.std.proofs.Common.{ℕ, suc, ◌<◌, get_or}
use Rattle.rx_schedule.specs.declared.mentions.Mention.{Mention}
use Rattle.rx_schedule.specs.Mentions.{MayFollow}
use Rattle.rx_schedule.proofs.ties.are_tied.Given as goal

abbrev pub invariant-neighbours : goal.invariant-neighbours
invariant-neighbours l = (k : ℕ) (d : Mention) → suc k < l.at → MayFollow l.numbers (get_or l.mentions k d) (get_or l.mentions (suc k) d)
