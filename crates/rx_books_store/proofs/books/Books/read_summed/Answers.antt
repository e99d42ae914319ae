use Rattle.std.proofs.Common.{arith}
use Rattle.rx_books_store.proofs.Limits.{lines_few, printed_holds}
use Rattle.rx_books_store.proofs.books.Books.read_summed.Goals as goal

pub wrong_line-requires-clause-one_each : goal.wrong_line-requires-clause-one_each
wrong_line-requires-clause-one_each c =
    (printed_holds c.args.text.now c.in_ok-printed.printed c.in_ok-printed.ensures.value).one_each

pub wrong_line-requires-clause-few : goal.wrong_line-requires-clause-few
wrong_line-requires-clause-few c =
    let few = lines_few c.in_ok-printed.printed 1_000_001
    (printed_holds c.args.text.now c.in_ok-printed.printed c.in_ok-printed.ensures.value) in
    omega arith
