-- Where the member is, the key is listed, and where it is searched for in vain it isn't.
use Rattle.std.proofs.Common.{sym}
use Rattle.rx_sorted.proofs.Places.{contains_key-at, contains_key-gap}
use Rattle.rx_ledger.specs.Members.{member_cmp, member_key}
use Rattle.rx_ledger.proofs.Orders.{member_total}
use Rattle.rx_books_store.proofs.hints.Places.place_of.Goals as goal

pub returns-in-Some-clause-listed : goal.returns-in-Some-clause-listed
returns-in-Some-clause-listed c =
    sym (contains_key-at member_cmp member_total member_key _ c.args.key.now c.in-Some.place
    (rw c.as_slice.ensures.value at c.in-Some.ensures))

pub returns-in-Ok-clause-listed : goal.returns-in-Ok-clause-listed
returns-in-Ok-clause-listed c =
    sym (contains_key-at member_cmp member_total member_key _ c.args.key.now c.in-Ok.place c.in-Ok.ensures.found)

pub returns-in-Err-clause-listed : goal.returns-in-Err-clause-listed
returns-in-Err-clause-listed c =
    sym (contains_key-gap member_cmp member_total member_key _ c.args.key.now c.in-Err.field-0 c.in-Err.ensures.absent)
