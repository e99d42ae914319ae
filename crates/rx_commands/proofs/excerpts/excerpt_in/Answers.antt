-- The record at the place, if there is one.
use Rattle.std.proofs.Common.{◌≡◌, List, None, refl, subst, sym}
use Rattle.std.specs.Option.{option_copied}
use Rattle.std.proofs.lemmas.Result.{IfErr-weaker, IfOk-weaker}
use Rattle.rx_d0_values.specs.declared.transmission.Transmission.{Transmission}
use Rattle.rx_explain.specs.Before.{ledger_at}
use Rattle.rx_explain.specs.Spots.{item}
use Rattle.rx_commands.proofs.ExcerptTop.{asked_few, asks_there, excerpt_in_batch, no_detail, none_in_batch, place_within, rejected_there}
use Rattle.rx_commands.proofs.PlainParts.{plain_in}
use Rattle.rx_commands.proofs.excerpts.excerpt_in.Goals as goal

pub returns-in_default-clause-refused : goal.returns-in_default-clause-refused
returns-in_default-clause-refused c = sym (rw c.as_slice.ensures at c.in_default.ensures)

pub returns-in_default-item-clause-refused : goal.returns-in_default-item-clause-refused
returns-in_default-item-clause-refused c =
    let job = c.args.job.now in
    no_detail job.sheet.now job.batch.now.details c.args.place _ refl
    (subst (λ (ts : List Transmission). item ts c.args.place ≡ None) c.requires.asked (sym c.in_default-item.ensures))

pub returns-in-Rejected-clause-refused : goal.returns-in-Rejected-clause-refused
returns-in-Rejected-clause-refused c =
    let job = c.args.job.now in
    rejected_there job.sheet.now job.batch.now.head job.batch.now.details c.args.books.ledger job.asked.now c.args.place
    c.in-Some.detail.now c.in-Some-item.transmission.now c.in-Rejected.field-0 c.requires.asked
    (sym (rw c.as_slice.ensures at c.in-Some.ensures)) (sym c.in-Some-item.ensures) c.in-Rejected.is

pub excerpt_heard-requires-clause-first : goal.excerpt_heard-requires-clause-first
excerpt_heard-requires-clause-first c =
    (place_within c.args.job.now.asked.now c.args.place c.in-Some-item.transmission.now (sym c.in-Some-item.ensures)).0

pub excerpt_heard-requires-clause-last : goal.excerpt_heard-requires-clause-last
excerpt_heard-requires-clause-last c =
    (place_within c.args.job.now.asked.now c.args.place c.in-Some-item.transmission.now (sym c.in-Some-item.ensures)).1

pub excerpt_heard-requires-clause-few : goal.excerpt_heard-requires-clause-few
excerpt_heard-requires-clause-few c =
    let job = c.args.job.now in
    asked_few job.sheet.now job.batch.now.details job.asked.now _ c.requires.asked c.requires.file.1.few

pub excerpt_heard-requires-clause-plain : goal.excerpt_heard-requires-clause-plain
excerpt_heard-requires-clause-plain c =
    let job = c.args.job.now in
    plain_in c.requires.file.0 job.batch.now.head job.batch.now.details c.args.place c.in-Some.detail.now c.requires.file.1
    (sym (rw c.as_slice.ensures at c.in-Some.ensures))

pub excerpt_heard-requires-clause-heard : goal.excerpt_heard-requires-clause-heard
excerpt_heard-requires-clause-heard c = (c.in-Heard.field-0, c.in-Heard.is)

pub excerpt_heard-requires-clause-asked : goal.excerpt_heard-requires-clause-asked
excerpt_heard-requires-clause-asked c =
    let job = c.args.job.now in
    asks_there job.sheet.now job.batch.now.details job.asked.now c.args.place c.in-Some.detail.now c.in-Some-item.transmission.now
    c.requires.asked (sym (rw c.as_slice.ensures at c.in-Some.ensures)) (sym c.in-Some-item.ensures)

pub returns-in-Heard-clause-excerpt : goal.returns-in-Heard-clause-excerpt
returns-in-Heard-clause-excerpt c =
    let job = c.args.job.now in
    let batch = job.batch.now in
    IfOk-weaker c.excerpt_heard.result _ _
    (excerpt_in_batch job.sheet.now batch.head batch.details c.args.books.ledger c.args.place c.in-Some.detail.now job.asked.now
    (ledger_at batch.head.lot job.sheet.now job.asked.now c.args.books.ledger c.args.place)
    (sym (rw c.as_slice.ensures at c.in-Some.ensures)) c.requires.asked refl (option_copied c.args.file))
    c.excerpt_heard.ensures.excerpt

pub returns-in-Heard-clause-refused : goal.returns-in-Heard-clause-refused
returns-in-Heard-clause-refused c =
    let job = c.args.job.now in
    let batch = job.batch.now in
    IfErr-weaker c.excerpt_heard.result _ _
    (none_in_batch job.sheet.now batch.head batch.details c.args.books.ledger c.args.place c.in-Some.detail.now job.asked.now
    (ledger_at batch.head.lot job.sheet.now job.asked.now c.args.books.ledger c.args.place)
    (sym (rw c.as_slice.ensures at c.in-Some.ensures)) c.requires.asked refl)
    c.excerpt_heard.ensures.refused
