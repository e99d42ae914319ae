-- One more detail is found to hold what it holds.
use Rattle.std.proofs.Common.{◌≡◌, ◌<◌, ℕ, ◌+◌, List, [], ◌∷◌, ◌++◌, get_or, length, take, sym, ap, subst, ◌∙◌}
use Rattle.std.proofs.lemmas.List.{take_more}
use Rattle.std.proofs.lemmas.Slice.Zip.{all_zipped_more}
use Rattle.std.specs.List.{AllZip}
use Rattle.rx_batch.specs.declared.detail.Detail.{Detail}
use Rattle.rx_show.specs.declared.responses.found.Found.{Found}
use Rattle.rx_show.specs.Found.{IsFound}

pub found_more : (details : List Detail) (found : List Found) (i : ℕ) (d : Detail) (f : Found) → i < length details
    → d ≡ get_or details i d → AllZip (λ d f. IsFound d.text f) (take i details) found → IsFound d.text f
    → AllZip (λ d f. IsFound d.text f) (take (i + 1) details) (found ++ f ∷ [])
found_more details found i d f lt is so here =
    let R : Detail → Found → Type 0 = λ d f. IsFound d.text f in
    let e : take (i + 1) details ≡ take i details ++ d ∷ [] =
    take_more details i d lt ∙ ap (λ (x : Detail). take i details ++ x ∷ []) (sym is) in
    subst (λ (ds : List Detail). AllZip R ds (found ++ f ∷ [])) (sym e)
    (all_zipped_more R (take i details) found d f so here)
