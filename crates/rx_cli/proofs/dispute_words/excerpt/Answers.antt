use Rattle.std.proofs.Common.{codes, rules}
use Rattle.clap.specs.Words.{found_of, rows_of}
use Rattle.rx_cli.specs.Asked.{HasLongNumber, HoldsExcerpt, NoneHolds}
use Rattle.rx_cli.proofs.dispute_words.excerpt.Goals as goal

pub returns-in_err-place-clause-none : goal.returns-in_err-place-clause-none
returns-in_err-place-clause-none c =
    let rows = rows_of (found_of c.args.found.now) in
    let no_number : NoneHolds (HasLongNumber rows (codes "record")) = search rules in
    let none : NoneHolds (HoldsExcerpt rows) = λ e h. no_number e.place h.place in
    rw c.from_residual-in_err-place.ensures none
