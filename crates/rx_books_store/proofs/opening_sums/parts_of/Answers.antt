use Rattle.std.proofs.Common.{◌≡◌, ◌+◌, ◌<◌, ◌^◌, [], ◌∷◌, ◌++◌, List, length, refl, sym, subst, ap, ◌∙◌, arith}
use Rattle.std.specs.List.{All, flat_map}
use Rattle.std.proofs.lemmas.List.Elements.{All-append, All-cons, All-nil}
use Rattle.rx_fields.specs.Order.{key_cmp}
use Rattle.rx_sorted.specs.Ascending.{IsAscending}
use Rattle.rx_sorted.specs.Runs.{items_of}
use Rattle.rx_ledger.specs.Ledger.{Ledger}
use Rattle.rx_ledger.specs.Rows.{row_key}
use Rattle.rx_books_store.proofs.Added.{rows_in}
use Rattle.rx_books_store.proofs.Cut.{enough, more_rows, others, own}
use Rattle.rx_books_store.proofs.opening_sums.parts_of.Goals as goal

pub split_at-requires : goal.split_at-requires
split_at-requires c =
    let room = enough c.args.opening.now.members c.runs-runs.result.now c.loop-run.run-index c.run-item.result c.loop-run.holders.now
    (omega arith) c.run-item.is c.loop-run.invariant.rest in
    omega (arith, room)

pub invariant_of-push : goal.invariant_of-push
invariant_of-push c =
    let rise = subst (IsAscending key_cmp row_key) (sym c.runs-runs.ensures.value) c.runs-runs.ensures.ascending in
    let small : length (items_of c.runs-runs.result.now) < 2 ^ 63 =
    omega (arith, c.runs-runs.ensures.small, ap length c.runs-runs.ensures.value) in
    let long : c.len.result ≡ length c.run-item.result.items = omega arith in
    rw (c.deref.ensures.value, c.split_at.ensures.front, long)
    (own c.args.opening.now.members c.runs-runs.result.now c.loop-run.run-index c.run-item.result c.loop-run.holders.now
    (omega arith) c.run-item.is c.loop-run.invariant.rest c.rows.ensures.within.members_rise rise small)

pub loop-run-preserved : goal.loop-run-preserved
loop-run-preserved c =
    let ms = c.args.opening.now.members in
    let runs = c.runs-runs.result.now in
    let i = c.loop-run.run-index in
    let run = c.run-item.result in
    let hs = c.loop-run.holders.now in
    let long : c.len.result ≡ length run.items = omega arith in
    let p : Ledger = record { members = ms; rows = c.deref.result.now } in
    let items : c.push.new.self.items ≡ c.loop-run.parts.items ++ p ∷ [] = c.in_ok-push.ensures.items in
    record {
      members = subst (λ (ps : List Ledger). All (λ (q : Ledger). q.members ≡ ms) ps) (sym items)
          (All-append (λ (q : Ledger). q.members ≡ ms) c.loop-run.parts.items (p ∷ []) c.loop-run.invariant.members
          (All-cons (λ (q : Ledger). q.members ≡ ms) p [] refl (All-nil (λ (q : Ledger). q.members ≡ ms))));
      rows = ap (flat_map rows_in) items ∙ more_rows ms runs i run hs (omega arith) c.run-item.is c.loop-run.invariant.rest
          c.loop-run.parts.items p c.deref.ensures.value c.loop-run.invariant.rows;
      rest = rw (c.split_at.ensures.back, long) (others ms runs i run hs (omega arith) c.run-item.is c.loop-run.invariant.rest);
    }

pub returns-clause-few : goal.returns-clause-few
returns-clause-few c = omega (arith, c.runs-runs.ensures.small, ap length c.rows.ensures.value)
