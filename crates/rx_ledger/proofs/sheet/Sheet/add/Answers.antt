use Rattle.std.proofs.Common.{◌≡◌, List, true, Err, sym, ap, ◌∙◌}
use Rattle.std.specs.Ordering.{nat_cmp}
use Rattle.rx_sorted.specs.Ascending.{put}
use Rattle.rx_sorted.specs.InsertError.{is_there}
use Rattle.rx_ledger.specs.Plan.{is_drug, listed_product, lists}
use Rattle.rx_ledger.specs.Planned.{IsPlan}
use Rattle.rx_ledger.specs.declared.sheet.AddFault.TheVariants as faults
use Rattle.rx_ledger.specs.declared.sheet.Listed.{Listed}
use Rattle.rx_ledger.proofs.Passed.{passed_put}
use Rattle.rx_ledger.proofs.Refusals.{either_way, fails, not_refused, refused_so}
use Rattle.rx_ledger.proofs.sheet.Sheet.add.Goals as goal
use Rattle.rx_ledger.proofs.sheet.Sheet.add.Goals.{in-Ok, in-Err-There, in-Err-Memory}

pub invariant_of-self : goal.invariant_of-self
invariant_of-self c =
    let drugs : List Listed = c.self.inside.drugs in
    let listed : Listed = record { product = c.args.product; drug = c.args.drug } in
    let P : List Listed → Type 0 = λ after. IsPlan c.self.inside.figures after in
    let fits : is_drug c.args.drug ≡ true = sym c.is_in_range.ensures ∙ c.if-not-is_in_range.false in
    let more : IsPlan c.self.inside.figures (put nat_cmp listed_product drugs listed) = record {
      figures_fit = c.self.invariant.figures_fit;
      drugs_fit = passed_put (λ (l : Listed). is_drug l.drug) nat_cmp listed_product drugs listed
          c.self.invariant.drugs_fit fits;
    } in
    either_way c.insert.result c.insert.new.self (put nat_cmp listed_product drugs listed) drugs P c.insert.ensures.ok
    c.insert.ensures.err more c.self.invariant

pub returns-clause-there : goal.returns-clause-there
returns-clause-there c =
    let listed = lists c.args.self.now c.args.product in
    let tells : is_there c.insert.result ≡ listed = rw (← c.self.view_is) c.insert.ensures.there in
    let fits : is_drug c.args.drug ≡ true = sym c.is_in_range.ensures ∙ c.if-not-is_in_range.false in
    let refused = (is_drug c.args.drug ≡ true) × (listed ≡ true) in
    elim c.match-insert.branch [
      | in-Ok w ↦ not_refused c.match-insert.result faults.There refused (λ h. cc)
          (λ t. fails listed (sym tells ∙ ap is_there w.in-Ok.is) t.1)
      | in-Err-There w ↦ refused_so c.match-insert.result faults.There refused w.result-is
          (fits, sym tells ∙ ap is_there (w.in-Err-There.is ∙ ap Err w.in-Err-There.field-0-is))
      | in-Err-Memory w ↦ not_refused c.match-insert.result faults.There refused (λ h. cc)
          (λ t. fails listed (sym tells ∙ ap is_there (w.in-Err-Memory.is ∙ ap Err w.in-Err-Memory.field-0-is)) t.1)
    ]
