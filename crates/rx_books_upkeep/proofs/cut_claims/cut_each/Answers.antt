use Rattle.std.proofs.Common.{List, ℕ, Result, ap, ◌∙◌, subst}
use Rattle.std.specs.Prelude.{IfOk}
use Rattle.std.specs.List.{AllZip}
use Rattle.rayon.proofs.ToStd.{slice-AllZip}
use Rattle.rx_fields.specs.Calendar.{Civil}
use Rattle.rx_fields.specs.declared.memory.Memory.{Memory}
use Rattle.rx_ledger.specs.declared.row.Row.{Row}
use Rattle.rx_books_scan.proofs.Begins.{all_ok}
use Rattle.rx_books_store.proofs.Spans.{IfOk-matched}
use Rattle.rx_books_upkeep.specs.declared.cut_claims.CutClaims.{CutClaims}
use Rattle.rx_books_upkeep.specs.AgedText.{IsCut}
use Rattle.rx_books_upkeep.proofs.cut_claims.cut_each.Goals as goal

-- The threads give a result for each part, in order; all are Ok where the whole is.
pub returns : goal.returns
returns g c =
    let parts = c.args.parts.now in
    let day = c.map.result.f.1 in
    let percent = c.map.result.f.2 in
    let Is : List Row → Result CutClaims Memory → Type 0 = λ part r. IfOk r (IsCut percent day part) in
    let e = c.in_ok-collect.ensures in
    let slice = ap (λ it. it.base.slice.now) c.map.ensures.base ∙ ap (λ it. it.slice.now) c.with_min_len.ensures.base
    ∙ c.par_iter.ensures in
    let each : AllZip Is parts e.0 = slice-AllZip e.1.0 parts (e.1.1 ∙ slice) Is e.0 e.1.2 in
    IfOk-matched c.in_ok-collect.field-0 _ _ _ e.2 (λ v k.
    rw k.2 (subst (λ (n : ℕ). AllZip (IsCut n c.args.day) parts k.0) (ap (λ f. f.2) c.map.ensures.f)
    (subst (λ (d : Civil). AllZip (IsCut percent d) parts k.0) (ap (λ f. f.1) c.map.ensures.f)
    (all_ok Memory (IsCut percent day) parts k.0 (subst (AllZip Is parts) k.1 each)))))
