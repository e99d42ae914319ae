-- The texts that were made are the excerpt of the record on the books that the ledger is of.
use Rattle.std.proofs.Common.{◌∙◌, ap, refl, subst, sym}
use Rattle.std.specs.Option.{option_copied}
use Rattle.std.proofs.lemmas.Result.{err_from_is_err_and}
use Rattle.rx_d0_values.specs.declared.transmission.Transmission.{Transmission}
use Rattle.rx_commands.specs.ExcerptParts.{excerpt_ledger}
use Rattle.rx_commands.specs.Excerpts.{IsExcerptOf, IsHeard, disputed_on}
use Rattle.rx_commands.specs.declared.excerpts.Excerpt.{Excerpt}
use Rattle.rx_commands.proofs.ExcerptTop.{made, not_made}
use Rattle.rx_commands.proofs.excerpts.excerpt_of.Goals as goal

pub returns-in_err-texts-clause-refused : goal.returns-in_err-texts-clause-refused
returns-in_err-texts-clause-refused c before named =
    let p = err_from_is_err_and c.from_residual.result c.from_residual.ensures.1 in
    let job = c.args.job.now in
    let own = c.args.own.now in
    rw (p.1, p.2)
    (not_made (disputed_on job.sheet.now job.batch.now.head own.detail.now before) c.args.ledger c.in_err-texts.field-0.0
    (subst (λ (t : Transmission). IsHeard t.body) c.requires.asked c.requires.heard)
    (named ∙ ap (λ (t : Transmission). excerpt_ledger t.body before) c.requires.asked) c.in_err-texts.ensures.refused)

pub returns-in_err-text-clause-refused : goal.returns-in_err-text-clause-refused
returns-in_err-text-clause-refused c before named =
    let p = err_from_is_err_and c.from_residual-in_err-text.result c.from_residual-in_err-text.ensures.1 in
    rw (p.1, p.2) refl

pub returns-in_err-page-clause-refused : goal.returns-in_err-page-clause-refused
returns-in_err-page-clause-refused c before named =
    let p = err_from_is_err_and c.from_residual-in_err-page.result c.from_residual-in_err-page.ensures.1 in
    rw (p.1, p.2) refl

pub returns-clause-excerpt : goal.returns-clause-excerpt
returns-clause-excerpt c before order named =
    let job = c.args.job.now in
    let own = c.args.own.now in
    let file = option_copied c.args.file in
    let e : Excerpt = record {
      sheet = c.in_ok-texts.texts.sheet;
      books = c.in_ok-texts.texts.books;
      batch = c.in_ok-texts.texts.batch;
      readme = c.in_ok-page.page;
      compared = c.compared_to-compared.result;
    } in
    subst (λ (x : Excerpt). IsExcerptOf own.place (disputed_on job.sheet.now job.batch.now.head own.detail.now before) file x)
    (sym c.with_readme.ensures)
    (made own.place job.sheet.now job.batch.now.head own.detail.now before c.args.ledger own.transmission.now file
    c.in_ok-text.text.items e c.requires.asked c.requires.heard order named c.in_ok-texts.ensures.sheet
    c.in_ok-texts.ensures.books c.in_ok-texts.ensures.batch c.in_ok-text.ensures
    (rw c.deref.ensures.value at c.compared_to-compared.ensures) (rw c.deref-2.ensures.value at c.in_ok-page.ensures))
