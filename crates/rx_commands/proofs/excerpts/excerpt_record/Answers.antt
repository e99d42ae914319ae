-- What is said of a record of the batch that was read is said of the inputs.
use Rattle.std.specs.Option.{option_copied}
use Rattle.std.proofs.lemmas.Result.{IfErr-weaker, IfOk-weaker, err_from_is_err_and}
use Rattle.rx_switch.specs.Planned.IsNotPlanned.{memory}
use Rattle.rx_commands.proofs.ExcerptTop.{are_accepted, is_alike, is_excerpt, is_none}
use Rattle.rx_commands.proofs.excerpts.excerpt_record.Goals as goal

pub returns-in_err-given-clause-refused : goal.returns-in_err-given-clause-refused
returns-in_err-given-clause-refused g c =
    let p = err_from_is_err_and c.from_residual.result c.from_residual.ensures.1 in
    rw (p.1, p.2) c.in_err-given.ensures.refused

pub returns-in_default-clause-refused : goal.returns-in_default-clause-refused
returns-in_default-clause-refused g c = memory

pub excerpt_in-made-requires-clause-file : goal.excerpt_in-made-requires-clause-file
excerpt_in-made-requires-clause-file g c = (c.args.inputs.now.batch.now, c.in_ok-given.ensures.batch)

pub returns-clause-excerpt : goal.returns-clause-excerpt
returns-clause-excerpt g c =
    let given = c.args.inputs.now in
    let read = c.in_ok-given.given in
    let is = c.in_ok-given.ensures in
    IfOk-weaker c.excerpt_in-made.result _ _
    (λ e own. is_excerpt given.sheet.now given.books.now given.batch.now read.sheet read.books.period read.books.ledger
    read.batch.head read.batch.details is.sheet is.books is.batch c.args.place (option_copied c.args.response) read.file e is.file
    own)
    (rw c.as_ref.ensures.value at c.excerpt_in-made.ensures.excerpt)

pub returns-clause-accepted : goal.returns-clause-accepted
returns-clause-accepted g c =
    let given = c.args.inputs.now in
    let read = c.in_ok-given.given in
    let is = c.in_ok-given.ensures in
    IfOk-weaker c.excerpt_in-made.result _ _
    (λ e own. are_accepted given.sheet.now given.books.now given.batch.now read.sheet read.books.period read.books.ledger
    read.batch.head read.batch.details is.sheet is.books is.batch c.args.place _ e own)
    c.excerpt_in-made.ensures.excerpt

pub returns-clause-alike : goal.returns-clause-alike
returns-clause-alike g c =
    let given = c.args.inputs.now in
    let read = c.in_ok-given.given in
    let is = c.in_ok-given.ensures in
    IfOk-weaker c.excerpt_in-made.result _ _
    (λ e own. is_alike given.sheet.now given.books.now given.batch.now read.sheet read.books.period read.books.ledger
    read.batch.head read.batch.details is.sheet is.books is.batch c.args.place _ e own)
    c.excerpt_in-made.ensures.excerpt

pub returns-clause-refused : goal.returns-clause-refused
returns-clause-refused g c =
    let given = c.args.inputs.now in
    let read = c.in_ok-given.given in
    let is = c.in_ok-given.ensures in
    IfErr-weaker c.excerpt_in-made.result _ _
    (λ f none. is_none given.sheet.now given.books.now given.batch.now read.sheet read.books.period read.books.ledger
    read.batch.head read.batch.details is.sheet is.books is.batch c.args.place (option_copied c.args.response) read.file f is.file
    none)
    c.excerpt_in-made.ensures.refused
