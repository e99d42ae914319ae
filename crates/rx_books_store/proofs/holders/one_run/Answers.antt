use Rattle.std.proofs.Common.{◌≡◌, [], ◌∷◌, ◌++◌, false, true, length, sym, ap, ◌∙◌, subst, arith}
use Rattle.std.specs.Prelude.{◌==◌}
use Rattle.rx_fields.specs.Order.{key_cmp}
use Rattle.rx_sorted.specs.Ascending.{IsAscending}
use Rattle.rx_sorted.specs.Runs.{are_runs}
use Rattle.rx_ledger.specs.Rows.{row_key}
use Rattle.rx_books_store.proofs.Openings.{one-run}
use Rattle.rx_books_store.proofs.holders.one_run.Goals.{then-not-is_empty+in_ok-push, else-not-is_empty}
use Rattle.rx_books_store.proofs.holders.one_run.Goals as goal

pub unreachable-requires : goal.unreachable-requires
unreachable-requires c = elim c.if-not-is_empty.branch [
  | then-not-is_empty+in_ok-push w ↦
      let run = w.into_vec.result in
      let items : run.items ≡ c.args.rows = w.into_vec.ensures in
      let some : (length run.items == 0) ≡ false =
      ap (λ rs. length rs == 0) (items ∙ sym c.as_slice.ensures.value) ∙ sym c.is_empty.ensures ∙ w.if-not-is_empty.true in
      let rise = subst (IsAscending key_cmp row_key) (c.as_slice.ensures.value ∙ sym items)
      (rw c.as_slice.ensures.value c.as_slice.ensures.ascending) in
      let runs = ap (λ v. v.items) w.runs-is ∙ w.in_ok-push.ensures.items
      ∙ ap (λ rs. rs ++ run ∷ []) c.new-runs.ensures.items in
      let e : false ≡ true = c.in-Err.ensures.ok ∙ ap (are_runs key_cmp row_key) runs
      ∙ one-run run some rise (omega (arith, ap length items, c.as_slice.ensures.small)) in
      cc
  | else-not-is_empty w ↦
      let runs = ap (λ v. v.items) w.runs-is ∙ c.new-runs.ensures.items in
      let e : false ≡ true = c.in-Err.ensures.ok ∙ ap (are_runs key_cmp row_key) runs in
      cc
]
