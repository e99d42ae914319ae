-- The name with the bytes so far.
use Rattle.std.proofs.Common.{◌≡◌, take}
use Rattle.std.specs.List.{fold}
use Rattle.rx_schedule.specs.Mentions.{with_number}
use Rattle.rx_schedule.proofs.book_names.with_each.Given as goal

abbrev pub invariant-bytes : goal.invariant-bytes
invariant-bytes l = l.named ≡ fold with_number l.name (take l.byte-index l.bytes)
