use Rattle.rx_books_upkeep.proofs.FiguredText.{person_more}
use Rattle.rx_books_upkeep.proofs.figured.put_persons.Goals as goal

pub loop-member-preserved : goal.loop-member-preserved
loop-member-preserved c =
    person_more c.args.books.now.books c.args.text.now.items c.loop-member.text.items c.put_member.new.text.items
    c.args.members.now c.loop-member.member-index c.member-item.result c.deductible_near-deductible.result.0 c.loop-member-test.true
    c.member-item.is c.deductible_near-deductible.ensures c.loop-member.invariant c.in_ok-put_member.ensures
