use Rattle.std.proofs.Common.{length}
use Rattle.rx_print.proofs.number.+put_threes.Given as goal

-- the digits get fewer
abbrev pub decreases-put_threes : goal.decreases-put_threes
decreases-put_threes l = length l.digits.now
