use Rattle.std.specs.Arc.{arc_value}
use Rattle.rx_books_store.proofs.VersionThree.{claims_feeds}
use Rattle.rx_books_upkeep.proofs.texts.opened.Goals as goal

pub returns-in-Ok-clause-lines : goal.returns-in-Ok-clause-lines
returns-in-Ok-clause-lines g c =
    claims_feeds (arc_value c.args.text.now).items c.in-Ok.books.period c.in-Ok.books.ledger c.in-Ok.ensures.ok
