use Rattle.std.proofs.Common.{◌≡◌, List, [], ◌∷◌, ◌++◌, refl, sym, subst, ap, ◌∙◌, arith}
use Rattle.rx_ledger.specs.declared.row.Row.{Row}
use Rattle.rx_books_store.specs.declared.patching.Cut.{Cut}
use Rattle.rx_books_store.specs.BooksText.{claims_text}
use Rattle.rx_books_store.specs.Patching.{AreInTurn, IsCut, StretchTexts, end_of, rest_text, start}
use Rattle.rx_books_store.specs.Store.{standing_rows}
use Rattle.rx_books_store.proofs.Spans.{end_cut, rest_none, rows_in_order, start_cut, turn_more}
use Rattle.rx_books_store.proofs.patching.stretches_of.Goals as goal

pub cuts-init : goal.cuts-init
cuts-init c =
    let rows = c.args.opening.now.rows in
    let slots = c.args.slots.now in
    let whole = claims_text (standing_rows rows slots) in
    let none : c.new-stretches.result.items ≡ [] = c.new-stretches.ensures.items in
    record {
      turn = subst (λ (ps : List StretchTexts). AreInTurn whole ps (rest_text rows slots start)) (sym none) refl;
      cut = start_cut rows slots;
    }

pub cut_before-to-requires-clause-up : goal.cut_before-to-requires-clause-up
cut_before-to-requires-clause-up c = rw c.rows-rows.ensures.value c.rows-rows.ensures.within.rows_rise

pub invariant_of-push : goal.invariant_of-push
invariant_of-push c =
    let rows = c.args.opening.now.rows in
    let slots = c.args.slots.now in
    let from = c.cuts.from in
    let to = c.cut_before-to.result in
    let begins = c.cuts.invariant.cut in
    let ends = subst (λ (rs : List Row). IsCut rs slots to) c.rows-rows.ensures.value c.cut_before-to.ensures.cut in
    record {
      lines = c.requires.kept;
      rise = c.requires.rise;
      own = c.requires.own;
      within = record {
        begins = begins;
        ends = ends;
        row_order = rows_in_order rows slots from to begins ends (omega (arith, c.cut_before-to.ensures.slot, c.requires.some));
        slot_order = omega (arith, c.cut_before-to.ensures.slot);
      };
    }

pub cuts-preserved : goal.cuts-preserved
cuts-preserved c =
    let rows = c.args.opening.now.rows in
    let slots = c.args.slots.now in
    let whole = claims_text (standing_rows rows slots) in
    let from = c.cuts.from in
    let to = c.cut_before-to.result in
    let before = c.cuts.stretches.items in
    let p : StretchTexts = record { whole = rest_text rows slots from; after = rest_text rows slots to } in
    let items : c.push.new.self.items ≡ before ++ p ∷ [] = c.in_ok-push.ensures.items in
    record {
      turn = subst (λ (ps : List StretchTexts). AreInTurn whole ps (rest_text rows slots to)) (sym items)
          (turn_more whole (rest_text rows slots from) (rest_text rows slots to) before p c.cuts.invariant.turn refl refl);
      cut = subst (λ (rs : List Row). IsCut rs slots to) c.rows-rows.ensures.value c.cut_before-to.ensures.cut;
    }

pub invariant_of-push-2 : goal.invariant_of-push-2
invariant_of-push-2 c =
    let rows = c.args.opening.now.rows in
    let slots = c.args.slots.now in
    let from = c.cuts.from in
    let to = c.end_of-to.result in
    let to_is : to ≡ end_of rows slots = c.end_of-to.ensures ∙ ap (λ (rs : List Row). end_of rs slots) c.rows-rows.ensures.value in
    let begins = c.cuts.invariant.cut in
    record {
      lines = c.requires.kept;
      rise = c.requires.rise;
      own = c.requires.own;
      within = record {
        begins = begins;
        ends = subst (IsCut rows slots) (sym to_is) (end_cut rows slots);
        row_order = omega (arith, begins.row_within, ap (λ (t : Cut). t.row) to_is);
        slot_order = omega (arith, begins.slot_within, ap (λ (t : Cut). t.slot) to_is);
      };
    }

pub returns : goal.returns
returns c =
    let rows = c.args.opening.now.rows in
    let slots = c.args.slots.now in
    let whole = claims_text (standing_rows rows slots) in
    let from = c.cuts.from in
    let to = c.end_of-to.result in
    let to_is : to ≡ end_of rows slots = c.end_of-to.ensures ∙ ap (λ (rs : List Row). end_of rs slots) c.rows-rows.ensures.value in
    let before = c.cuts.stretches.items in
    let p : StretchTexts = record { whole = rest_text rows slots from; after = rest_text rows slots to } in
    let items : c.push-2.new.self.items ≡ before ++ p ∷ [] = c.in_ok-push-2.ensures.items in
    subst (λ (ps : List StretchTexts). AreInTurn whole ps []) (sym items)
    (turn_more whole (rest_text rows slots from) [] before p c.cuts.invariant.turn refl
    (ap (rest_text rows slots) to_is ∙ rest_none rows slots))
