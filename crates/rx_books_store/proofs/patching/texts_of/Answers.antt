use Rattle.std.proofs.Common.{◌∙◌, Result, ap, subst}
use Rattle.std.specs.Prelude.{IfOk}
use Rattle.std.specs.List.{AllZip}
use Rattle.rayon.proofs.ToStd.{slice-AllZip}
use Rattle.rx_fields.specs.declared.memory.Memory.{Memory}
use Rattle.rx_io.specs.Patches.{Patch}
use Rattle.rx_books_scan.proofs.Begins.{all_ok}
use Rattle.rx_books_store.specs.Patching.{FillsStretch, StretchTexts}
use Rattle.rx_books_store.proofs.Spans.{IfOk-matched}
use Rattle.rx_books_store.proofs.patching.texts_of.Goals as goal

-- The threads give a result for each stretch, in order; all are Ok where the whole is.
pub returns : goal.returns
returns g c =
    let stretches = c.args.stretches.now in
    let Is : StretchTexts → Result Patch Memory → Type 0 = λ stretch r. IfOk r (FillsStretch stretch) in
    let e = c.in_ok-collect.ensures in
    let slice = ap (λ it. it.base.slice.now) c.map.ensures.base ∙ ap (λ it. it.slice.now) c.with_min_len.ensures.base
    ∙ c.par_iter.ensures in
    let each : AllZip Is stretches e.0 = slice-AllZip e.1.0 stretches (e.1.1 ∙ slice) Is e.0 e.1.2 in
    IfOk-matched c.in_ok-collect.field-0 _ _ _ e.2 (λ v k.
    rw k.2 (all_ok Memory FillsStretch stretches k.0 (subst (AllZip Is stretches) k.1 each)))
