use Rattle.std.proofs.Common.{length}
use Rattle.rx_sorted.proofs.hinted.hash_of_text.Given as goal

abbrev pub decreases-words : goal.decreases-words
decreases-words l = length l.rest
