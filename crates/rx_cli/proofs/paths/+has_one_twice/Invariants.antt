use Rattle.std.proofs.Common.{length}
use Rattle.rx_cli.proofs.paths.+has_one_twice.Given as goal

-- the list gets shorter
abbrev pub decreases-has_one_twice : goal.decreases-has_one_twice
decreases-has_one_twice l = length l.paths.now
