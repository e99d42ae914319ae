-- The bytes that are left make of the name so far what all make of the first.
use Rattle.std.proofs.Common.{◌≡◌, length}
use Rattle.rx_schedule.specs.Mentions.{with_bytes}
use Rattle.rx_schedule.proofs.book_names.with_bytes.Given as goal

abbrev pub invariant-words : goal.invariant-words
invariant-words l = with_bytes l.named l.rest ≡ with_bytes l.name l.bytes

abbrev pub decreases-words : goal.decreases-words
decreases-words l = length l.rest
