use Rattle.std.proofs.Common.{ap, ◌∙◌, subst}
use Rattle.std.specs.Prelude.{IfOk}
use Rattle.std.specs.List.{AllZip}
use Rattle.rayon.proofs.ToStd.{slice-AllZip}
use Rattle.rx_fields.specs.Numbered.{Span}
use Rattle.rx_fields.specs.declared.memory.Memory.{Memory}
use Rattle.rx_books_scan.proofs.Begins.{all_ok}
use Rattle.rx_books_store.specs.Parts.{IsSummed}
use Rattle.rx_books_store.proofs.opening_sums.sums_of.Goals as goal

-- The threads give a result for each part, in order; all are Ok where the whole is.
pub returns : goal.returns
returns g c =
    let parts = c.args.parts.now in
    let e = c.in-Ok.ensures in
    let period = ap (λ f. f.1) c.map.ensures.f in
    let slice = ap (λ it. it.base.slice.now) c.map.ensures.base ∙ ap (λ it. it.slice.now) c.with_min_len.ensures.base
    ∙ c.par_iter.ensures in
    let each = slice-AllZip e.1.0 parts (e.1.1 ∙ slice) (λ part r. IfOk r (IsSummed c.map.result.f.1 part)) e.0 e.1.2 in
    let all = rw c.in-Ok-found.is at e.2 in
    let fine = rw all.1 at each in
    rw all.2 (subst (λ (p : Span). AllZip (IsSummed p) parts all.0) period
    (all_ok Memory (IsSummed c.map.result.f.1) parts all.0 fine))
