-- Items that have the same keys are in order together, as the words under lines and the lines.
use Rattle.std.proofs.Common.{◌≡◌, List, [], ◌∷◌, map, refl, sym, ap, ◌∙◌}
use Rattle.std.specs.Prelude.{◌&&◌}
use Rattle.std.specs.List.{AllZip}
use Rattle.std.specs.Ordering.{is_lt}
use Rattle.std.specs.declared.cmp.Ordering.{Ordering}
use Rattle.rx_sorted.specs.Ascending.{is_ascending}
use Rattle.rx_report.specs.declared.line.Line.{Line}
use Rattle.rx_report_text.specs.Whys.{spot_cmp, spot_of}
use Rattle.rx_report_text.specs.declared.why.Why.{Why}
use Rattle.rx_commands.specs.declared.replay.batch.Adjudicated.{Adjudicated}
use Rattle.rx_commands.specs.Tiers.{SheetTable}
use Rattle.rx_commands.specs.Whys.{AreWhys}

module _ {X K : Type 0} (cmp : K → K → Ordering) (key : X → K) where
  by_keys : (xs : List X) → is_ascending cmp key xs ≡ is_ascending cmp (λ k. k) (map key xs)
  by_keys [] = refl
  by_keys (x ∷ []) = refl
  by_keys (x ∷ y ∷ ys) = ap (λ b. is_lt (cmp (key x) (key y)) && b) (by_keys (y ∷ ys))

-- texts are in order where the lines that they are about are
pub same_order : (whys : List Why) (lines : List Line) → map (λ (w : Why). w.spot) whys ≡ map spot_of lines
    → is_ascending spot_cmp (λ w. w.spot) whys ≡ is_ascending spot_cmp spot_of lines
same_order whys lines e =
    by_keys spot_cmp (λ (w : Why). w.spot) whys
    ∙ ap (is_ascending spot_cmp (λ k. k)) e
    ∙ sym (by_keys spot_cmp spot_of lines)

module _ (R : Line → Why → Type 0) (spots : (l : Line) (w : Why) → R l w → w.spot ≡ spot_of l) where
  spots_of : (lines : List Line) (whys : List Why) → AllZip R lines whys → map (λ (w : Why). w.spot) whys ≡ map spot_of lines
  spots_of [] [] are = refl
  spots_of [] (w ∷ ws) are = absurd are
  spots_of (l ∷ ls) [] are = absurd are
  spots_of (l ∷ ls) (w ∷ ws) are =
      ap (λ s. s ∷ map (λ (v : Why). v.spot) ws) (spots l w are.0) ∙ ap (λ ss. spot_of l ∷ ss) (spots_of ls ws are.1)

-- the words under the lines of a batch stand where the lines do
pub spots_of_whys : (tiers : SheetTable) (b : Adjudicated) (lines : List Line) (whys : List Why) → AreWhys tiers b lines whys
    → map (λ (w : Why). w.spot) whys ≡ map spot_of lines
spots_of_whys tiers b lines whys are = spots_of _ (λ l w why. why.spot_is) lines whys are
