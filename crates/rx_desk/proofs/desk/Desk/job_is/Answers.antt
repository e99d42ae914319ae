use Rattle.std.proofs.Common.{◌≡◌, refl, rules, sym, ◌∙◌}
use Rattle.rx_desk.proofs.desk.Desk.job_is.Goals as goal

pub returns : goal.returns
returns c =
    let lot : c.self.inside.lot ≡ c.args.lot = search rules in
    let figures : c.self.inside.figures ≡ c.args.sheet.now.figures =
    c.if-not-same_figures.ensures.0 refl ∙ c.figures.ensures.value in
    let drugs : c.self.inside.drugs.items ≡ c.args.sheet.now.drugs = search rules in
    let books : c.self.inside.books ≡ c.args.books.now = search rules in (
      λ t. rw (← c.self.view_is) (record {
        lot_is = lot;
        plan_is = λ i. record { figures = figures i; drugs = drugs i };
        books_are = books;
        records_are = sym c.deref-2.ensures.value ∙ c.same_records.ensures.0 t;
      }),
      λ is.
          let own = rw (← c.self.view_is) at is in
          c.same_records.ensures.1 (c.deref-2.ensures.value ∙ own.records_are),
    )
