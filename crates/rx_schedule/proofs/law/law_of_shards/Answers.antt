use Rattle.rx_schedule.proofs.Grouped.{shard_apart}
use Rattle.rx_schedule.proofs.Joined.{joined}
use Rattle.rx_schedule.proofs.Sharded.{shard_books, shard_ledger, shard_replies, shard_untouched}
use Rattle.rx_schedule.proofs.Unparted.{unparted_books, unparted_others, unparted_replies}
use Rattle.rx_schedule.proofs.law.law_of_shards.Goals as goal

pub returns-clause-ledger : goal.returns-clause-ledger
returns-clause-ledger c = shard_ledger

pub returns-clause-replies : goal.returns-clause-replies
returns-clause-replies c = shard_replies

pub returns-clause-books : goal.returns-clause-books
returns-clause-books c = shard_books

pub returns-clause-untouched : goal.returns-clause-untouched
returns-clause-untouched c = shard_untouched

pub returns-clause-unparted_replies : goal.returns-clause-unparted_replies
returns-clause-unparted_replies c = unparted_replies

pub returns-clause-unparted_books : goal.returns-clause-unparted_books
returns-clause-unparted_books c = unparted_books

pub returns-clause-unparted_others : goal.returns-clause-unparted_others
returns-clause-unparted_others c = unparted_others

pub returns-clause-apart : goal.returns-clause-apart
returns-clause-apart c = shard_apart

pub returns-clause-joined : goal.returns-clause-joined
returns-clause-joined c = joined
