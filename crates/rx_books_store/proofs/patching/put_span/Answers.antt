use Rattle.std.proofs.Common.{◌≡◌, ℕ, ◌+◌, ◌-◌, ◌<◌, ◌≤◌, List, ◌++◌, length, take, drop, arith, append-nil, sym, subst, ap, ◌∙◌}
use Rattle.std.specs.List.{All, slice_range}
use Rattle.std.proofs.lemmas.List.Elements.{All-weaker}
use Rattle.rx_fields.specs.Order.{key_cmp}
use Rattle.rx_io.specs.Patches.{Patch}
use Rattle.rx_io.proofs.Patching.{on_ok}
use Rattle.rx_sorted.specs.Ascending.{IsAscending}
use Rattle.rx_ledger.specs.declared.row.Row.{Row}
use Rattle.rx_ledger.specs.Rows.{row_key}
use Rattle.rx_books_store.specs.BooksText.{claims_text}
use Rattle.rx_books_store.specs.Kept.{IsKept, kept_text}
use Rattle.rx_books_store.specs.Patching.{IsSpan, begin_of, held_rows, rest_text}
use Rattle.rx_books_store.specs.Store.{IsSlot, standing_rows}
use Rattle.rx_books_store.proofs.Passes.{Own}
use Rattle.rx_books_store.proofs.Patches.{end_at, end_is, end_within, lent_at, run_lent, run_longer}
use Rattle.rx_books_store.proofs.Patches.{slot_before, slots_before, text_join, text_step}
use Rattle.rx_books_store.proofs.Spans.{before_slots, run_within, span_ends, text_up_to}
use Rattle.rx_books_store.proofs.patching.put_span.Goals as goal

pub end_of-begin-requires-clause-room : goal.end_of-begin-requires-clause-room
end_of-begin-requires-clause-room c =
    let rows = c.rows-rows.result.now in
    let slots = c.args.slots.now in
    let T = kept_text c.args.kept.now in
    let same = c.rows-rows.ensures.value in
    let kept = subst (IsKept c.args.kept.now) (sym same) c.requires.kept in
    let lengths = c.args.kept.now.lengths.items in
    let above = c.args.kept.now.above in
    let span = c.args.span in
    let is_span = subst (λ (rs : List Row). IsSpan rs slots span) (sym same) c.requires.span in
    let begins = is_span.begins in
    let first = span.from.row in
    let top : c.above.result ≡ begin_of above rows 0 = c.above.ensures ∙ (omega arith) in
    omega (
      arith,
      top,
      end_is T lengths above rows kept 0 first (omega arith) begins.row_within,
      end_within T lengths above rows kept 0 first (omega arith) begins.row_within,
    )

pub loop-at-init : goal.loop-at-init
loop-at-init c =
    let rows = c.rows-rows.result.now in
    let slots = c.args.slots.now in
    let T = kept_text c.args.kept.now in
    let same = c.rows-rows.ensures.value in
    let kept = subst (IsKept c.args.kept.now) (sym same) c.requires.kept in
    let lengths = c.args.kept.now.lengths.items in
    let above = c.args.kept.now.above in
    let span = c.args.span in
    let is_span = subst (λ (rs : List Row). IsSpan rs slots span) (sym same) c.requires.span in
    let begins = is_span.begins in
    let first = span.from.row in
    let nothing : first - first ≡ 0 = omega arith in
    let top : c.above.result ≡ begin_of above rows 0 = c.above.ensures ∙ (omega arith) in
    record {
      order = omega arith;
      row_within = is_span.row_order;
      slot_within = omega (arith, is_span.slot_order);
      place_is = end_at T lengths above rows kept 0 first (omega arith) begins.row_within c.above.result c.end_of-begin.result top
          c.end_of-begin.ensures;
      lender = c.requires.lender;
      before = before_slots rows slots span.from begins;
      whole =
          ap (λ (n : ℕ). (c.args.text.now.text ++ claims_text (take n (drop first rows)))
          ++ claims_text (standing_rows (drop first rows) (drop span.from.slot slots))) nothing
          ∙ ap (λ (t : List ℕ). t ++ claims_text (standing_rows (drop first rows) (drop span.from.slot slots)))
          (append-nil c.args.text.now.text);
    }

pub run_before-run-requires-clause-rise : goal.run_before-run-requires-clause-rise
run_before-run-requires-clause-rise c =
    subst (IsAscending key_cmp row_key) (sym c.rows-rows.ensures.value) c.rows-rows.ensures.within.rows_rise

pub run_before-run-requires-clause-before : goal.run_before-run-requires-clause-before
run_before-run-requires-clause-before c =
    let rows = c.rows-rows.result.now in
    let slots = c.args.slots.now in
    let T = kept_text c.args.kept.now in
    let same = c.rows-rows.ensures.value in
    let kept = subst (IsKept c.args.kept.now) (sym same) c.requires.kept in
    let lengths = c.args.kept.now.lengths.items in
    let above = c.args.kept.now.above in
    let up = subst (IsAscending key_cmp row_key) (sym same) c.rows-rows.ensures.within.rows_rise in
    let own = All-weaker (IsSlot c.args.opening.now.members) Own (λ s is. is.under) slots c.requires.own in
    let span = c.args.span in
    let is_span = subst (λ (rs : List Row). IsSpan rs slots span) (sym same) c.requires.span in
    let i = c.loop-at.at in
    let s = c.index-slots-at.result in
    let lt : i < length slots = omega (arith, is_span.ends.slot_within) in
    let is = c.index-slots-at.is in
    let before_end : i < span.to.slot = omega arith in
    slot_before rows slots up c.requires.rise own c.loop-at.row i s lt is c.loop-at.invariant.before

pub loop-at-preserved-then-is_as_read : goal.loop-at-preserved-then-is_as_read
loop-at-preserved-then-is_as_read c =
    let rows = c.rows-rows.result.now in
    let slots = c.args.slots.now in
    let T = kept_text c.args.kept.now in
    let same = c.rows-rows.ensures.value in
    let kept = subst (IsKept c.args.kept.now) (sym same) c.requires.kept in
    let lengths = c.args.kept.now.lengths.items in
    let above = c.args.kept.now.above in
    let up = subst (IsAscending key_cmp row_key) (sym same) c.rows-rows.ensures.within.rows_rise in
    let own = All-weaker (IsSlot c.args.opening.now.members) Own (λ s is. is.under) slots c.requires.own in
    let span = c.args.span in
    let is_span = subst (λ (rs : List Row). IsSpan rs slots span) (sym same) c.requires.span in
    let i = c.loop-at.at in
    let s = c.index-slots-at.result in
    let lt : i < length slots = omega (arith, is_span.ends.slot_within) in
    let is = c.index-slots-at.is in
    let before_end : i < span.to.slot = omega arith in
    let first = c.loop-at.first in
    let row = c.loop-at.row in
    let place = c.loop-at.place in
    let last = c.run_before-run.result.last in
    let next = c.run_before-run.result.next in
    let so_far = c.loop-at.invariant in
    let run_is = c.run_before-run.ensures in
    let order : first ≤ last = omega (arith, so_far.order, run_is.order) in
    let within : last ≤ length rows = omega (arith, run_is.some, run_is.next_within) in
    let done = c.loop-at.text.text in
    let before = claims_text (take (row - first) (drop first rows)) in
    let run = claims_text (take (last - row) (drop row rows)) in
    let held_text = claims_text (held_rows s.held) in
    let rest = claims_text (standing_rows (drop row rows) (drop i slots)) in
    let behind = claims_text (standing_rows (drop next rows) (drop (i + 1) slots)) in
    let all = c.args.text.now.text ++ rest_text rows slots span.from in
    let split = text_step rows slots up c.requires.rise own row i s lt is last next run_is in
    let longer = claims_text (take (next - first) (drop first rows)) in
    let up_to : first ≤ next = omega (arith, run_is.some) in
    let read = c.is_as_read.ensures c.if-is_as_read.true in
    let joined : longer ≡ before ++ (run ++ held_text) =
    text_join rows first row next so_far.order (omega (arith, run_is.order, run_is.some))
    ∙ ap (λ (t : List ℕ). before ++ t) (text_join rows row last next run_is.order run_is.some
    ∙ ap (λ (xs : List Row). run ++ claims_text xs) (sym read)) in
    record {
      order = up_to;
      row_within = run_within rows slots span.to is_span.ends row last next i s up so_far.row_within run_is before_end is;
      slot_within = omega (arith, before_end);
      place_is = so_far.place_is;
      lender = so_far.lender;
      before = slots_before rows slots up c.requires.rise own row i s lt is last next run_is so_far.before;
      whole = run_longer done before run held_text behind all rest longer so_far.whole split joined;
    }

pub end_of-end-requires-clause-room : goal.end_of-end-requires-clause-room
end_of-end-requires-clause-room c =
    let rows = c.rows-rows.result.now in
    let slots = c.args.slots.now in
    let T = kept_text c.args.kept.now in
    let same = c.rows-rows.ensures.value in
    let kept = subst (IsKept c.args.kept.now) (sym same) c.requires.kept in
    let lengths = c.args.kept.now.lengths.items in
    let above = c.args.kept.now.above in
    let first = c.loop-at.first in
    let row = c.loop-at.row in
    let place = c.loop-at.place in
    let last = c.run_before-run.result.last in
    let next = c.run_before-run.result.next in
    let so_far = c.loop-at.invariant in
    let run_is = c.run_before-run.ensures in
    let order : first ≤ last = omega (arith, so_far.order, run_is.order) in
    let within : last ≤ length rows = omega (arith, run_is.some, run_is.next_within) in
    omega (
      arith,
      so_far.place_is,
      end_is T lengths above rows kept first last order within,
      end_within T lengths above rows kept first last order within,
    )

pub lend-requires-clause-within : goal.lend-requires-clause-within
lend-requires-clause-within c =
    let rows = c.rows-rows.result.now in
    let slots = c.args.slots.now in
    let T = kept_text c.args.kept.now in
    let same = c.rows-rows.ensures.value in
    let kept = subst (IsKept c.args.kept.now) (sym same) c.requires.kept in
    let lengths = c.args.kept.now.lengths.items in
    let above = c.args.kept.now.above in
    let first = c.loop-at.first in
    let row = c.loop-at.row in
    let place = c.loop-at.place in
    let last = c.run_before-run.result.last in
    let next = c.run_before-run.result.next in
    let so_far = c.loop-at.invariant in
    let run_is = c.run_before-run.ensures in
    let order : first ≤ last = omega (arith, so_far.order, run_is.order) in
    let within : last ≤ length rows = omega (arith, run_is.some, run_is.next_within) in
    omega (
      arith,
      ap length so_far.lender,
      end_at T lengths above rows kept first last order within place c.end_of-end.result so_far.place_is c.end_of-end.ensures,
      end_within T lengths above rows kept first last order within,
    )

pub end_of-place-requires-clause-room : goal.end_of-place-requires-clause-room
end_of-place-requires-clause-room c =
    let rows = c.rows-rows.result.now in
    let slots = c.args.slots.now in
    let T = kept_text c.args.kept.now in
    let same = c.rows-rows.ensures.value in
    let kept = subst (IsKept c.args.kept.now) (sym same) c.requires.kept in
    let lengths = c.args.kept.now.lengths.items in
    let above = c.args.kept.now.above in
    let first = c.loop-at.first in
    let row = c.loop-at.row in
    let place = c.loop-at.place in
    let last = c.run_before-run.result.last in
    let next = c.run_before-run.result.next in
    let so_far = c.loop-at.invariant in
    let run_is = c.run_before-run.ensures in
    let order : first ≤ last = omega (arith, so_far.order, run_is.order) in
    let within : last ≤ length rows = omega (arith, run_is.some, run_is.next_within) in
    omega (
      arith,
      end_at T lengths above rows kept first last order within place c.end_of-end.result so_far.place_is c.end_of-end.ensures,
      end_is T lengths above rows kept last next run_is.some run_is.next_within,
      end_within T lengths above rows kept last next run_is.some run_is.next_within,
    )

pub loop-at-preserved : goal.loop-at-preserved
loop-at-preserved c =
    let rows = c.rows-rows.result.now in
    let slots = c.args.slots.now in
    let T = kept_text c.args.kept.now in
    let same = c.rows-rows.ensures.value in
    let kept = subst (IsKept c.args.kept.now) (sym same) c.requires.kept in
    let lengths = c.args.kept.now.lengths.items in
    let above = c.args.kept.now.above in
    let up = subst (IsAscending key_cmp row_key) (sym same) c.rows-rows.ensures.within.rows_rise in
    let own = All-weaker (IsSlot c.args.opening.now.members) Own (λ s is. is.under) slots c.requires.own in
    let span = c.args.span in
    let is_span = subst (λ (rs : List Row). IsSpan rs slots span) (sym same) c.requires.span in
    let i = c.loop-at.at in
    let s = c.index-slots-at.result in
    let lt : i < length slots = omega (arith, is_span.ends.slot_within) in
    let is = c.index-slots-at.is in
    let before_end : i < span.to.slot = omega arith in
    let first = c.loop-at.first in
    let row = c.loop-at.row in
    let place = c.loop-at.place in
    let last = c.run_before-run.result.last in
    let next = c.run_before-run.result.next in
    let so_far = c.loop-at.invariant in
    let run_is = c.run_before-run.ensures in
    let order : first ≤ last = omega (arith, so_far.order, run_is.order) in
    let within : last ≤ length rows = omega (arith, run_is.some, run_is.next_within) in
    let done = c.loop-at.text.text in
    let before = claims_text (take (row - first) (drop first rows)) in
    let run = claims_text (take (last - row) (drop row rows)) in
    let held_text = claims_text (held_rows s.held) in
    let rest = claims_text (standing_rows (drop row rows) (drop i slots)) in
    let behind = claims_text (standing_rows (drop next rows) (drop (i + 1) slots)) in
    let all = c.args.text.now.text ++ rest_text rows slots span.from in
    let split = text_step rows slots up c.requires.rise own row i s lt is last next run_is in
    let end = c.end_of-end.result in
    let end_place = end_at T lengths above rows kept first last order within place end so_far.place_is c.end_of-end.ensures in
    let longer = claims_text (take (last - first) (drop first rows)) in
    let joined : longer ≡ before ++ run = text_join rows first row last so_far.order run_is.order in
    let lent : c.lend.new.self.text ≡ done ++ longer =
    ap (λ (p : Patch). p.text) c.in_ok-lend.ensures
    ∙ ap (λ (t : List ℕ). done ++ t) (lent_at T lengths above rows kept first last order within place end so_far.place_is
    c.end_of-end.ensures c.loop-at.text.lender so_far.lender) in
    let put : c.put_held.new.text.text ≡ c.lend.new.self.text ++ held_text =
    ap (λ (p : Patch). p.text) c.in_ok-put_held.ensures in
    let nothing : next - next ≡ 0 = omega arith in
    record {
      order = omega arith;
      row_within = run_within rows slots span.to is_span.ends row last next i s up so_far.row_within run_is before_end is;
      slot_within = omega (arith, before_end);
      place_is = end_at T lengths above rows kept last next run_is.some run_is.next_within end c.end_of-place.result end_place
          c.end_of-place.ensures;
      lender = ap (λ (p : Patch). p.lender) c.in_ok-put_held.ensures ∙ ap (λ (p : Patch). p.lender) c.in_ok-lend.ensures
          ∙ so_far.lender;
      before = slots_before rows slots up c.requires.rise own row i s lt is last next run_is so_far.before;
      whole =
          ap (λ (n : ℕ). (c.put_held.new.text.text ++ claims_text (take n (drop next rows))) ++ behind) nothing
          ∙ run_lent done before run held_text behind all rest longer c.lend.new.self.text c.put_held.new.text.text so_far.whole
          split joined lent put;
    }

pub end_of-end-requires-2-clause-room : goal.end_of-end-requires-2-clause-room
end_of-end-requires-2-clause-room c =
    let rows = c.rows-rows.result.now in
    let slots = c.args.slots.now in
    let T = kept_text c.args.kept.now in
    let same = c.rows-rows.ensures.value in
    let kept = subst (IsKept c.args.kept.now) (sym same) c.requires.kept in
    let lengths = c.args.kept.now.lengths.items in
    let above = c.args.kept.now.above in
    let span = c.args.span in
    let is_span = subst (λ (rs : List Row). IsSpan rs slots span) (sym same) c.requires.span in
    let first = c.loop-at.first in
    let place = c.loop-at.place in
    let last = span.to.row in
    let so_far = c.loop-at.invariant in
    let order : first ≤ last = omega (arith, so_far.order, so_far.row_within) in
    let within = is_span.ends.row_within in
    omega (
      arith,
      so_far.place_is,
      end_is T lengths above rows kept first last order within,
      end_within T lengths above rows kept first last order within,
    )

pub lend-requires-2-clause-within : goal.lend-requires-2-clause-within
lend-requires-2-clause-within c =
    let rows = c.rows-rows.result.now in
    let slots = c.args.slots.now in
    let T = kept_text c.args.kept.now in
    let same = c.rows-rows.ensures.value in
    let kept = subst (IsKept c.args.kept.now) (sym same) c.requires.kept in
    let lengths = c.args.kept.now.lengths.items in
    let above = c.args.kept.now.above in
    let span = c.args.span in
    let is_span = subst (λ (rs : List Row). IsSpan rs slots span) (sym same) c.requires.span in
    let first = c.loop-at.first in
    let place = c.loop-at.place in
    let last = span.to.row in
    let so_far = c.loop-at.invariant in
    let order : first ≤ last = omega (arith, so_far.order, so_far.row_within) in
    let within = is_span.ends.row_within in
    omega (
      arith,
      ap length so_far.lender,
      end_at T lengths above rows kept first last order within place c.end_of-end-2.result so_far.place_is c.end_of-end-2.ensures,
      end_within T lengths above rows kept first last order within,
    )

pub returns : goal.returns
returns c =
    let rows = c.rows-rows.result.now in
    let first_rows = c.args.opening.now.rows in
    let slots = c.args.slots.now in
    let T = kept_text c.args.kept.now in
    let same = c.rows-rows.ensures.value in
    let kept = subst (IsKept c.args.kept.now) (sym same) c.requires.kept in
    let lengths = c.args.kept.now.lengths.items in
    let above = c.args.kept.now.above in
    let own = All-weaker (IsSlot c.args.opening.now.members) Own (λ s is. is.under) slots c.requires.own in
    let span = c.args.span in
    let is_span = subst (λ (rs : List Row). IsSpan rs slots span) (sym same) c.requires.span in
    let first = c.loop-at.first in
    let row = c.loop-at.row in
    let place = c.loop-at.place in
    let last = span.to.row in
    let so_far = c.loop-at.invariant in
    let order : first ≤ last = omega (arith, so_far.order, so_far.row_within) in
    let within = is_span.ends.row_within in
    let i = c.loop-at.at in
    let past : span.to.slot ≡ i = omega (arith, so_far.slot_within) in
    let end = c.end_of-end-2.result in
    let done = c.loop-at.text.text in
    let lender = c.loop-at.text.lender in
    let before = claims_text (take (row - first) (drop first rows)) in
    let rest = rest_text rows slots span.to in
    let made : Patch = record { lender = lender; text = done ++ slice_range lender place end } in
    let lent = lent_at T lengths above rows kept first last order within place end so_far.place_is c.end_of-end-2.ensures lender
    so_far.lender in
    let left : claims_text (standing_rows (drop row rows) (drop i slots)) ≡ claims_text (take (last - row) (drop row rows)) ++ rest =
    ap (λ (n : ℕ). claims_text (standing_rows (drop row rows) (drop n slots))) (sym past)
    ∙ text_up_to rows slots span.to is_span.ends row own so_far.row_within in
    on_ok c.lend-2.result c.lend-2.ensures (λ (put : c.lend-2.new.self ≡ made).
    ap (λ (p : Patch). p.text ++ rest_text first_rows slots span.to) put
    ∙ ap (λ (rs : List Row). (done ++ slice_range lender place end) ++ rest_text rs slots span.to) (sym same)
    ∙ span_ends done before (claims_text (take (last - row) (drop row rows))) rest
    (claims_text (standing_rows (drop row rows) (drop i slots))) (claims_text (take (last - first) (drop first rows)))
    (slice_range lender place end) (c.args.text.now.text ++ rest_text rows slots span.from) lent
    (text_join rows first row last so_far.order so_far.row_within) left so_far.whole
    ∙ ap (λ (rs : List Row). c.args.text.now.text ++ rest_text rs slots span.from) same)
