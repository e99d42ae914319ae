use Rattle.std.proofs.Common.{◌≡◌, ◌≤◌, false, true, refl, sym, ap, ◌∙◌, arith}
use Rattle.rx_desk.specs.declared.state.State.TheVariants.{Out}
use Rattle.rx_desk.proofs.Steps.{is_out_of, record_read, state_read, terms_read}
use Rattle.rx_desk.proofs.desk.Desk.has_out.Goals as goal

pub returns-then-not-is_out_with : goal.returns-then-not-is_out_with
returns-then-not-is_out_with c =
    let read = rw c.place-place.ensures.value at c.index.ensures in (
      λ e. absurd (let no : false ≡ true = e in cc),
      λ told.
          let out = rw (← c.self.view_is) at told in
          let is = state_read _ _ _ _ _ _ _ _ _ c.self.invariant c.args.order.now out _ read in
          let yes = c.is_out_with.ensures.1 (is ∙ ap (λ p. Out p) (sym c.parcel.ensures.value)) in
          cc,
    )

pub returns-then-not-same_terms : goal.returns-then-not-same_terms
returns-then-not-same_terms c =
    let read = rw c.place-place.ensures.value at c.index-2.ensures in (
      λ e. absurd (let no : false ≡ true = e in cc),
      λ told.
          let out = rw (← c.self.view_is) at told in
          let is = terms_read _ _ _ _ _ _ _ _ _ c.self.invariant c.args.order.now out _ read in
          let yes = c.same_terms.ensures.1 (is ∙ sym c.terms.ensures) in
          cc,
    )

pub returns : goal.returns
returns c =
    let place = c.place-place.ensures.value in
    let state = rw place at c.index.ensures in
    let terms = rw place at c.index-2.ensures in
    let record_there = rw place at c.index-3.ensures in
    let one : 1 ≤ c.args.order.now.place = c.place-place.ensures.within.from_one in
    let same_state = c.if-not-is_out_with.ensures.0 refl ∙ ap (λ p. Out p) c.parcel.ensures.value in
    let same_terms = c.if-not-same_terms.ensures.0 refl ∙ c.terms.ensures in (
      λ t. rw (← c.self.view_is) (is_out_of _ _ _ _ _ _ _ _ _ c.self.invariant c.args.order.now one (omega arith) _ _ _ state terms
          record_there same_state same_terms (c.same_record.ensures.0 t ∙ c.transmission.ensures)),
      λ told.
          let out = rw (← c.self.view_is) at told in
          c.same_record.ensures.1 (record_read _ _ _ _ _ _ _ _ _ c.self.invariant c.args.order.now out _ record_there
          ∙ sym c.transmission.ensures),
    )
