use Rattle.std.proofs.Common.{◌≡◌, ap, ◌∙◌, Result, subst}
use Rattle.std.specs.Prelude.{IfOk}
use Rattle.std.specs.List.{AllZip}
use Rattle.std.proofs.lemmas.Slice.Zip.{AllZip-map}
use Rattle.rayon.proofs.ToStd.{slice-AllZip}
use Rattle.rx_batch.specs.declared.detail.Detail.{Detail}
use Rattle.rx_d0_values.specs.declared.transmission.Transmission.{Transmission}
use Rattle.rx_fields.specs.declared.memory.Memory.{Memory}
use Rattle.rx_wave.specs.AtDoors.{transmission_at, transmissions_at}
use Rattle.rx_wave.proofs.Gathered.{AllZip-all_ok, IfOk-matched}
use Rattle.rx_wave.proofs.decoding.decode_in_pieces.Goals as goal

-- The threads give a result for each detail, in order; all are Ok where the whole is.
pub returns : goal.returns
returns g c =
    let details = c.args.details.now in
    let one : Detail → Transmission = transmission_at c.map.result.f.1 in
    let IsOne : Detail → Result Transmission Memory → Type 0 = λ detail r. IfOk r (λ t. t ≡ one detail) in
    let e = c.in_ok-collect.ensures in
    let slice = ap (λ it. it.base.slice.now) c.map.ensures.base ∙ ap (λ it. it.slice.now) c.with_min_len.ensures.base
    ∙ c.par_iter.ensures in
    let each : AllZip IsOne details e.0 = slice-AllZip e.1.0 details (e.1.1 ∙ slice) IsOne e.0 e.1.2 in
    IfOk-matched c.in_ok-collect.field-0 _ _ _ e.2 (λ v k.
    subst (λ a. v.items ≡ transmissions_at a details) (ap (λ f. f.1) c.map.ensures.f)
    (k.2 ∙ AllZip-map one details k.0 (AllZip-all_ok Memory (λ detail t. t ≡ one detail) details k.0
    (subst (AllZip IsOne details) k.1 each))))
