use Rattle.std.proofs.Common.{◌++◌, ◌+◌, ◌∷◌, [], List, map, take, refl, ap, sym, ◌∙◌, subst}
use Rattle.std.specs.List.{range_with_len}
use Rattle.std.proofs.lemmas.List.{take_more}
use Rattle.std.proofs.lemmas.List.FromFn.{map-range_with_len_more}
use Rattle.rx_d0_values.specs.declared.transmission.Transmission.{Transmission}
use Rattle.rx_schedule.specs.Billed.{HasBilled}
use Rattle.rx_schedule.specs.Footprints.{footprint_at}
use Rattle.rx_schedule.proofs.Noted.{footprint-next}
use Rattle.rx_schedule.proofs.naming.footprints.Goals as goal

pub records-preserved : goal.records-preserved
records-preserved c =
    let L = c.args.books.now.ledger in
    let ts = c.args.transmissions.now in
    let i = c.records.transmission-index in
    let t = c.transmission-item.result in
    record {
      list = c.in_ok-push.ensures.items
          ∙ ap (λ fs. fs ++ c.in_ok-footprint.field-0 ∷ []) c.records.invariant.list
          ∙ ap (λ F. map (footprint_at L ts) (range_with_len 1 i) ++ F ∷ [])
          (c.in_ok-footprint.ensures (take i ts) c.records.invariant.billed
          ∙ footprint-next L ts i t c.records-test.true c.transmission-item.is)
          ∙ sym (map-range_with_len_more (footprint_at L ts) 1 i (1 + i) refl);
      billed = subst (λ (us : List Transmission). HasBilled c.note.new.self.families us)
          (sym (take_more ts i t c.records-test.true ∙ ap (λ u. take i ts ++ u ∷ []) (sym c.transmission-item.is)))
          (c.in_ok-note.ensures (take i ts) c.records.invariant.billed);
    }
