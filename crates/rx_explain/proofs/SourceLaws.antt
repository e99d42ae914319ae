-- What is said of a claim that stands before a transaction, in a batch.
use Rattle.std.specs.Prelude.{reverse}
use Rattle.std.specs.Option.{option_map}
use Rattle.std.specs.List.{find}
use Rattle.std.proofs.Common.{◌≡◌, List, [], ◌∷◌, Option, Some, None, sym, ap, subst, ◌∙◌, inl, inr}
use Rattle.rx_fields.specs.Numbered.{LotParts}
use Rattle.rx_d0_values.specs.declared.transmission.Transmission.{Transmission}
use Rattle.rx_ledger.specs.declared.row.Row.{Row}
use Rattle.rx_ledger.specs.Fold.{fold_ledger}
use Rattle.rx_ledger.specs.Ledger.{Ledger, row_under}
use Rattle.rx_ledger.specs.Plan.{Plan}
use Rattle.rx_explain.specs.declared.at.At.{At}
use Rattle.rx_explain.specs.declared.events.Event.{Event}
use Rattle.rx_explain.specs.declared.traced.Source.TheVariants as source
use Rattle.rx_explain.specs.Sources.{IsBefore, IsPaidAt, IsTakenBackAt, StandsAfter, StandsBefore, StandsBetween, StandsUpTo}
use Rattle.rx_explain.specs.Sources.{TakesBack, traced_at}
use Rattle.rx_explain.specs.Spots.{Spot, spot_at}
use Rattle.rx_explain.specs.Traces.{source_at}
use Rattle.rx_explain.proofs.Flattened.{Step, events_by, events_by_steps, ledger_by_steps, next, steps_of}
use Rattle.rx_explain.proofs.Placed.{ArePlaced, IsAmong, among, steps_placed, steps_rise}
use Rattle.rx_explain.proofs.Since.{From, pays, since}
use Rattle.rx_explain.proofs.Until.{To, returns, until}

abbrev at_of : Option Event → Option At
at_of o = option_map (λ e. e.at) o

module _ (lot : LotParts) (plan : Plan) (ts : List Transmission) (opening : Ledger) where
  there : (x : Step) (xs : List Step) (L : Ledger) → ArePlaced lot plan ts opening L xs → IsAmong x xs
      → spot_at ts x.at ≡ Some x.spot
  there x [] L placed here = absurd here
  there x (y ∷ ys) L placed (inl here) = subst (λ (z : Step). spot_at ts z.at ≡ Some z.spot) here placed.0.is_there
  there x (y ∷ ys) L placed (inr more) = there x ys (next lot plan L y) placed.1 more

  there_in_batch : (x : Step) → IsAmong x (steps_of 1 ts) → spot_at ts x.at ≡ Some x.spot
  there_in_batch x here = there x (steps_of 1 ts) opening (steps_placed lot plan ts opening) here

  module _ (at : At) (s : Spot) (r : Row) (is : spot_at ts at ≡ Some s) (stands : StandsBefore lot plan ts opening r at s) where
    abbrev this : Step
    this = record { at = at; spot = s }

    -- ---- its source

    paid_by_found : (o : Option Event) → From lot plan ts opening this r opening (steps_of 1 ts) o → (paid : At)
        → source_at (at_of o) ≡ source.Record paid
        → IsBefore paid at × IsPaidAt lot plan ts opening r paid × StandsBetween lot plan ts opening paid at r
    paid_by_found None from paid traced_is = cc
    paid_by_found (Some e) from paid traced_is =
        let here : from.payer.at ≡ paid = from.at_is ∙ (cc) in
        subst
        (λ (p : At). IsBefore p at × IsPaidAt lot plan ts opening r p × StandsBetween lot plan ts opening p at r)
        here (
          from.before,
          (from.payer.spot, there_in_batch from.payer from.is_among, from.pays_it),
          λ other u u_is later up. from.stood (record { at = other; spot = u }) (among ts other u u_is) later up,
        )

    opening_found : (o : Option Event) → From lot plan ts opening this r opening (steps_of 1 ts) o
        → source_at (at_of o) ≡ source.Opening → (row_under opening r.key ≡ Some r) × StandsUpTo lot plan ts opening at r
    opening_found None from traced_is =
        (from.0, λ other u u_is up. from.1 (record { at = other; spot = u }) (among ts other u u_is) up)
    opening_found (Some e) from traced_is = cc

    from_batch : From lot plan ts opening this r opening (steps_of 1 ts)
        (find (pays lot plan ts opening this r) (reverse (events_by lot plan opening (steps_of 1 ts))))
    from_batch =
        since lot plan ts opening this r (steps_of 1 ts) opening (steps_rise 1 ts) (steps_placed lot plan ts opening)
        (among ts at s is) stands

    source_is : (traced_at lot plan ts opening at r).source
        ≡ source_at (at_of (find (pays lot plan ts opening this r) (reverse (events_by lot plan opening (steps_of 1 ts)))))
    source_is =
        ap (λ (es : List Event). source_at (at_of (find (pays lot plan ts opening this r) (reverse es))))
        (events_by_steps lot plan 1 ts opening)

    pub paid_by : (paid : At) → (traced_at lot plan ts opening at r).source ≡ source.Record paid
        → IsBefore paid at × IsPaidAt lot plan ts opening r paid × StandsBetween lot plan ts opening paid at r
    paid_by paid traced_is = paid_by_found _ from_batch paid (sym source_is ∙ traced_is)

    pub from_opening : (traced_at lot plan ts opening at r).source ≡ source.Opening
        → (row_under opening r.key ≡ Some r) × StandsUpTo lot plan ts opening at r
    from_opening traced_is = opening_found _ from_batch (sym source_is ∙ traced_is)

    -- ---- its end

    module _ (leaves : ¬ TakesBack lot plan ts opening r at s) where
      taken_by_found : (o : Option Event) → To lot plan ts opening this r opening (steps_of 1 ts) o → (back : At)
          → at_of o ≡ Some back
          → IsBefore at back × IsTakenBackAt lot plan ts opening r back × StandsBetween lot plan ts opening at back r
      taken_by_found None to back traced_is = cc
      taken_by_found (Some e) to back traced_is =
          let here : to.taker.at ≡ back = to.at_is ∙ (cc) in
          subst
          (λ (p : At). IsBefore at p × IsTakenBackAt lot plan ts opening r p × StandsBetween lot plan ts opening at p r)
          here (
            to.later,
            (to.taker.spot, there_in_batch to.taker to.is_among, to.takes_it),
            λ other u u_is later up. to.stands (record { at = other; spot = u }) (among ts other u u_is) later up,
          )

      stands_found : (o : Option Event) → To lot plan ts opening this r opening (steps_of 1 ts) o
          → at_of o ≡ None
          → StandsAfter lot plan ts opening at r × (row_under (fold_ledger lot plan 1 ts opening) r.key ≡ Some r)
      stands_found None to traced_is = (
        λ other u u_is later. to.0 (record { at = other; spot = u }) (among ts other u u_is) later,
        ap (λ M. row_under M r.key) (ledger_by_steps lot plan 1 ts opening) ∙ to.1,
      )
      stands_found (Some e) to traced_is = cc

      to_end : To lot plan ts opening this r opening (steps_of 1 ts)
          (find (returns lot plan ts opening this r) (events_by lot plan opening (steps_of 1 ts)))
      to_end =
          until lot plan ts opening this r (steps_of 1 ts) opening (steps_rise 1 ts) (steps_placed lot plan ts opening)
          (among ts at s is) stands leaves

      end_is : (traced_at lot plan ts opening at r).taken_back
          ≡ at_of (find (returns lot plan ts opening this r) (events_by lot plan opening (steps_of 1 ts)))
      end_is =
          ap (λ (es : List Event). at_of (find (returns lot plan ts opening this r) es))
          (events_by_steps lot plan 1 ts opening)

      pub taken_by : (back : At) → (traced_at lot plan ts opening at r).taken_back ≡ Some back
          → IsBefore at back × IsTakenBackAt lot plan ts opening r back × StandsBetween lot plan ts opening at back r
      taken_by back traced_is = taken_by_found _ to_end back (sym end_is ∙ traced_is)

      pub stands_on : (traced_at lot plan ts opening at r).taken_back ≡ None
          → StandsAfter lot plan ts opening at r × (row_under (fold_ledger lot plan 1 ts opening) r.key ≡ Some r)
      stands_on traced_is = stands_found _ to_end (sym end_is ∙ traced_is)
