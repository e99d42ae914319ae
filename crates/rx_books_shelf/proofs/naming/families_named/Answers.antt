use Rattle.std.proofs.Common.{◌∷◌, [], ◌++◌, take, sym, ap, subst, ◌∙◌}
use Rattle.std.specs.List.{All, flat_map}
use Rattle.std.proofs.lemmas.List.{take_more}
use Rattle.std.proofs.lemmas.List.Elements.{All-append, All-cons, All-nil}
use Rattle.rx_fields.specs.Order.{id_cmp}
use Rattle.rx_sorted.specs.Ascending.{contains_key, itself}
use Rattle.rx_ledger.proofs.Orders.{id_exact}
use Rattle.rx_books_parcel.specs.Footprints.{FootprintParts, IsFootprint}
use Rattle.rx_books_shelf.proofs.AllNamed.{flat_more, all_taken, families_are}
use Rattle.rx_books_shelf.proofs.naming.families_named.Goals as goal

pub loop-footprint-preserved : goal.loop-footprint-preserved
loop-footprint-preserved c =
    let Fs = c.args.footprints.now in
    let i = c.loop-footprint.footprint-index in
    let F : FootprintParts = c.footprint-item.result in
    let more = take_more Fs i F c.loop-footprint-test.true in
    let last = ap (λ (G : FootprintParts). take i Fs ++ G ∷ []) c.footprint-item.is in
    record {
      names = c.in_ok-extend_from_slice.ensures.items
          ∙ ap (λ xs. c.loop-footprint.families.items ++ xs) c.families.ensures.value
          ∙ ap (λ xs. xs ++ F.families) c.loop-footprint.invariant.names
          ∙ sym (flat_more (λ (G : FootprintParts). G.families) (take i Fs) F)
          ∙ ap (flat_map (λ (G : FootprintParts). G.families)) (last ∙ sym more);
      in_order = subst (All IsFootprint) (last ∙ sym more)
          (All-append IsFootprint (take i Fs) (F ∷ []) c.loop-footprint.invariant.in_order
          (All-cons IsFootprint F [] c.families.ensures.within (All-nil IsFootprint)));
    }

pub returns-clause-value : goal.returns-clause-value
returns-clause-value c =
    let Fs = c.args.footprints.now in
    let all = all_taken c.loop-footprint.footprint-index Fs c.loop-footprint-test.false in
    let names = c.loop-footprint.invariant.names ∙ ap (flat_map (λ (G : FootprintParts). G.families)) all in
    families_are Fs (subst (All IsFootprint) all c.loop-footprint.invariant.in_order) c.put_in_order.new.items.items
    c.put_in_order.ensures.rise
    (λ k. c.put_in_order.ensures.same k ∙ ap (λ xs. contains_key id_cmp itself xs k) names)

pub put_in_order-requires : goal.put_in_order-requires
put_in_order-requires c = λ a b tied. id_exact a b tied
