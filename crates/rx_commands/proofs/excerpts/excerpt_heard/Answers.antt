-- The excerpt of the record on the books before it.
use Rattle.std.proofs.Common.{refl, subst}
use Rattle.std.specs.Option.{option_copied}
use Rattle.std.specs.Prelude.{IfErr, IfOk}
use Rattle.std.proofs.lemmas.Result.{err_from_is_err_and}
use Rattle.rx_ledger.specs.Ledger.{Ledger}
use Rattle.rx_commands.specs.Excerpts.{HasNoneOf, IsExcerptOf, disputed_on}
use Rattle.rx_commands.proofs.excerpts.excerpt_heard.Goals as goal

pub returns-in_err-before-clause-refused : goal.returns-in_err-before-clause-refused
returns-in_err-before-clause-refused c =
    let p = err_from_is_err_and c.from_residual.result c.from_residual.ensures.1 in
    rw (p.1, p.2) refl

pub returns-in_err-ledger-clause-refused : goal.returns-in_err-ledger-clause-refused
returns-in_err-ledger-clause-refused c =
    let p = err_from_is_err_and c.from_residual-in_err-ledger.result c.from_residual-in_err-ledger.ensures.1 in
    rw (p.1, p.2) refl

pub returns-clause-excerpt : goal.returns-clause-excerpt
returns-clause-excerpt c =
    let job = c.args.job.now in
    let own = c.args.own.now in
    let whole = c.in_ok-ledger.ensures.within in
    subst (λ (before : Ledger). IfOk c.excerpt_of.result (IsExcerptOf own.place
    (disputed_on job.sheet.now job.batch.now.head own.detail.now before) (option_copied c.args.file)))
    c.in_ok-before.ensures
    (c.excerpt_of.ensures.excerpt c.in_ok-before.before.ledger
    (record { members_rise = whole.members_rise; rows_rise = whole.rows_rise }) c.in_ok-ledger.ensures.value)

pub returns-clause-refused : goal.returns-clause-refused
returns-clause-refused c =
    let job = c.args.job.now in
    let own = c.args.own.now in
    subst (λ (before : Ledger). IfErr c.excerpt_of.result (HasNoneOf
    (disputed_on job.sheet.now job.batch.now.head own.detail.now before)))
    c.in_ok-before.ensures (c.excerpt_of.ensures.refused c.in_ok-before.before.ledger c.in_ok-ledger.ensures.value)
