use Rattle.rx_desk.proofs.Closing.{end_agreed, end_books, end_replies, nothing_out}
use Rattle.rx_desk.proofs.desk.Desk.finished.Goals as goal

pub closed-books-requires-clause-inside : goal.closed-books-requires-clause-inside
closed-books-requires-clause-inside c =
    let all = rw (← c.self.view_is) at c.requires in
    nothing_out _ _ _ _ _ _ _ _ _ c.self.invariant all

pub closed-books-requires-clause-agreed : goal.closed-books-requires-clause-agreed
closed-books-requires-clause-agreed c =
    let all = rw (← c.self.view_is) at c.requires in
    end_agreed _ _ _ _ _ _ _ _ _ c.self.invariant all

pub returns-clause-books : goal.returns-clause-books
returns-clause-books c =
    let all = rw (← c.self.view_is) at c.requires in
    rw (← c.self.view_is) (end_books _ _ _ _ _ _ _ _ _ c.self.invariant all
    c.closed-books.result c.closed-books.ensures.period c.closed-books.ensures.within c.closed-books.ensures.values)

pub returns-clause-replies : goal.returns-clause-replies
returns-clause-replies c =
    let all = rw (← c.self.view_is) at c.requires in
    rw (← c.self.view_is) (end_replies _ _ _ _ _ _ _ _ _ c.self.invariant all)
