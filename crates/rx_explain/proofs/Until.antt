-- The first taking back under a claim's fill key after a transaction is the claim's own, and the claim stood until then.
use Rattle.std.specs.Option.{option_or}
use Rattle.std.specs.List.{find}
use Rattle.std.specs.Ordering.{is_lt}
use Rattle.std.specs.declared.cmp.Ordering.TheVariants.{Less, Greater}
use Rattle.std.proofs.Common.{◌≡◌, Bool, true, false, List, [], ◌∷◌, Option, Some, None, refl, sym, ap, subst, ◌∙◌, inl, inr}
use Rattle.std.proofs.lemmas.Cmp.{tied_itself}
use Rattle.std.proofs.lemmas.List.Folds.{find-append}
use Rattle.rx_fields.specs.Numbered.{LotParts}
use Rattle.rx_d0_values.specs.declared.transmission.Transmission.{Transmission}
use Rattle.rx_ledger.specs.declared.row.Row.{Row}
use Rattle.rx_ledger.specs.Ledger.{Ledger, row_under}
use Rattle.rx_ledger.specs.Plan.{Plan}
use Rattle.rx_ledger.proofs.Orders.{key_total}
use Rattle.rx_explain.specs.declared.at.At.{At}
use Rattle.rx_explain.specs.declared.events.Change.TheVariants as change
use Rattle.rx_explain.specs.declared.events.Event.{Event}
use Rattle.rx_explain.specs.Sources.{IsBefore, IsTakenBackBy, IsUpTo}
use Rattle.rx_explain.specs.Traces.{at_cmp, returns_after}
use Rattle.rx_explain.proofs.Changed.{Leaves, TakesUnder, effect}
use Rattle.rx_explain.proofs.Flattened.{Step, asked_of, events_at, events_by, ledger_by, next}
use Rattle.rx_explain.proofs.Placed.{ArePlaced, AreRising, IsAmong, IsBelowAll, at_total, before_step}
use Rattle.rx_explain.proofs.Since.{Stands, and_false, and_false_and, below_each, not_before_itself, not_up_to, step_fails, turned}

module _ (lot : LotParts) (plan : Plan) (ts : List Transmission) (opening : Ledger) (this : Step) (r : Row) where
  abbrev StandsAt : Step → Type 0
  StandsAt x = Stands lot plan ts opening this r x

  abbrev pub TakesIt : Step → Type 0
  TakesIt x = IsTakenBackBy (asked_of lot plan x) (before_step lot plan ts opening x) x.spot.transaction r

  abbrev pub returns : Event → Bool
  returns = returns_after r.key this.at

  -- among the transactions from a ledger on, one takes the claim back, and it stands until then
  pub record IsTaker (xs : List Step) (e : Event) : Type 0 where
    pub taker : Step
    pub is_among : IsAmong taker xs
    pub at_is : taker.at ≡ e.at
    pub later : IsBefore this.at taker.at
    pub takes_it : TakesIt taker
    pub stands : (x : Step) → IsAmong x xs → IsBefore this.at x.at → IsUpTo x.at taker.at → StandsAt x

  -- or none does, and it stands to the end
  abbrev pub To : Ledger → List Step → Option Event → Type 0
  To L xs None =
      ((x : Step) → IsAmong x xs → IsBefore this.at x.at → StandsAt x) × (row_under (ledger_by lot plan L xs) r.key ≡ Some r)
  To L xs (Some e) = IsTaker xs e

  -- the same with one transaction more before them, by which it stands if it is a later one
  longer : (x : Step) (xs : List Step) (L : Ledger) → (IsBefore this.at x.at → StandsAt x) → (o : Option Event)
      → To (next lot plan L x) xs o → To L (x ∷ xs) o
  longer x xs L first (Some e) rest = record {
    taker = rest.taker;
    is_among = inr rest.is_among;
    at_is = rest.at_is;
    later = rest.later;
    takes_it = rest.takes_it;
    stands = λ y among later up. elim among [
      | inl here ↦ subst (λ (z : Step). StandsAt z) here
          (first (ap (λ (z : Step). at_cmp this.at z.at) here ∙ later))
      | inr more ↦ rest.stands y more later up
    ];
  }
  longer x xs L first None rest = (
    λ y among later. elim among [
      | inl here ↦ subst (λ (z : Step). StandsAt z) here
          (first (ap (λ (z : Step). at_cmp this.at z.at) here ∙ later))
      | inr more ↦ rest.0 y more later
    ],
    rest.1,
  )

  -- where it took nothing back, what is found is found after it
  found_later : (x : Step) (xs : List Step) (L : Ledger) → find returns (events_at lot plan L x) ≡ None
      → find returns (events_by lot plan L (x ∷ xs)) ≡ find returns (events_by lot plan (next lot plan L x) xs)
  found_later x xs L none =
      find-append returns (events_at lot plan L x) (events_by lot plan (next lot plan L x) xs)
      ∙ ap (λ o. option_or o (find returns (events_by lot plan (next lot plan L x) xs))) none

  silent : (x : Step) (L : Ledger) → Leaves lot plan x L r.key → find returns (events_at lot plan L x) ≡ None
  silent x L q = q.silent returns (λ e other. rw other (and_false_and _ _))

  taken_free : (L : Ledger) → row_under L r.key ≡ Some r → row_under L r.key ≡ None → ⊥
  taken_free L is free = let e : None ≡ Some r = sym free ∙ is in cc

  module _ (x : Step) (xs : List Step) (L : Ledger) (below : IsBelowAll x.at xs) (on : before_step lot plan ts opening x ≡ L)
      (later : at_cmp this.at x.at ≡ Less) (is : row_under L r.key ≡ Some r) where
    passes : returns (record { at = x.at; key = r.key; change = change.TakenBack }) ≡ true
    passes = rw (tied_itself key_total r.key, later) refl

    stands_here : StandsAt x
    stands_here = ap (λ M. row_under M r.key) on ∙ is

    by_return : TakesUnder lot plan x L r.key → To L (x ∷ xs) (find returns (events_by lot plan L (x ∷ xs)))
    by_return t =
        let more = events_by lot plan (next lot plan L x) xs in
        let event : Event = record { at = x.at; key = r.key; change = change.TakenBack } in
        let own : find returns (events_at lot plan L x) ≡ Some event = ap (find returns) t.says ∙ rw passes refl in
        let found : find returns (events_by lot plan L (x ∷ xs)) ≡ Some event =
        find-append returns (events_at lot plan L x) more ∙ ap (λ o. option_or o (find returns more)) own in
        subst (To L (x ∷ xs)) (sym found)
        (record {
          taker = x;
          is_among = inl refl;
          at_is = refl;
          later = later;
          takes_it = subst (λ (M : Ledger). IsTakenBackBy (asked_of lot plan x) M x.spot.transaction r) (sym on) (t.takes r refl);
          stands = λ y among y_later up. elim among [
            | inl here ↦ subst (λ (z : Step). StandsAt z) here stands_here
            | inr more ↦ absurd (not_up_to x.at y.at (below_each x.at xs y below more) up)
          ];
        })

  -- from the next transaction on
  onwards : (xs : List Step) (L : Ledger) → IsBelowAll this.at xs → AreRising xs → ArePlaced lot plan ts opening L xs
      → row_under L r.key ≡ Some r → To L xs (find returns (events_by lot plan L xs))
  onwards [] L below rising placed is = (λ x among later. absurd among, is)
  onwards (x ∷ xs) L below rising placed is = elim (effect lot plan x L r.key) [
    | inl p ↦ absurd (taken_free L is p.was_free)
    | inr (inl t) ↦ by_return x xs L rising.0 placed.0.is_on below.0 is t
    | inr (inr q) ↦
        let rest = onwards xs (next lot plan L x) below.1 rising.1 placed.1 (q.now ∙ is) in
        subst (To L (x ∷ xs)) (sym (found_later x xs L (silent x L q)))
        (longer x xs L (λ later. ap (λ M. row_under M r.key) placed.0.is_on ∙ is) _ rest)
  ]

  none_yet : (x : Step) (L : Ledger) → is_lt (at_cmp this.at x.at) ≡ false → find returns (events_at lot plan L x) ≡ None
  none_yet x L other =
      step_fails lot plan returns x L
      (λ e e_is. rw (ap (λ (a : At). is_lt (at_cmp this.at a)) e_is ∙ other) (and_false _))

  pub until : (xs : List Step) (L : Ledger) → AreRising xs → ArePlaced lot plan ts opening L xs → IsAmong this xs → StandsAt this
      → ¬ TakesIt this → To L xs (find returns (events_by lot plan L xs))
  until [] L rising placed among stands leaves = absurd among
  until (x ∷ xs) L rising placed (inl same) stands leaves =
      let on : before_step lot plan ts opening this ≡ L =
      ap (λ (z : Step). before_step lot plan ts opening z) (sym same) ∙ placed.0.is_on in
      let is : row_under L r.key ≡ Some r = ap (λ M. row_under M r.key) (sym on) ∙ stands in
      let other : is_lt (at_cmp this.at x.at) ≡ false =
      ap (λ (z : Step). is_lt (at_cmp this.at z.at)) same ∙ ap is_lt (tied_itself at_total this.at) in
      let after_it : row_under (next lot plan L x) r.key ≡ Some r = elim (effect lot plan x L r.key) [
        | inl p ↦ absurd (taken_free L is p.was_free)
        | inr (inl t) ↦ absurd
            (leaves
            (subst (λ (M : Ledger). IsTakenBackBy (asked_of lot plan this) M this.spot.transaction r) (sym on)
            (subst (λ (z : Step). IsTakenBackBy (asked_of lot plan z) L z.spot.transaction r) same (t.takes r refl))))
        | inr (inr q) ↦ q.now ∙ is
      ] in
      let below : IsBelowAll this.at xs = subst (λ (z : Step). IsBelowAll z.at xs) same rising.0 in
      let rest = onwards xs (next lot plan L x) below rising.1 placed.1 after_it in
      subst (To L (x ∷ xs)) (sym (found_later x xs L (none_yet x L other)))
      (longer x xs L
      (λ later. absurd (not_before_itself this.at (ap (λ (z : Step). at_cmp this.at z.at) (sym same) ∙ later))) _ rest)
  until (x ∷ xs) L rising placed (inr more) stands leaves =
      let earlier = below_each x.at xs this rising.0 more in
      let other : at_cmp this.at x.at ≡ Greater = turned x.at this.at earlier in
      let rest = until xs (next lot plan L x) rising.1 placed.1 more stands leaves in
      subst (To L (x ∷ xs)) (sym (found_later x xs L (none_yet x L (ap is_lt other))))
      (longer x xs L (λ later. absurd (let e : Greater ≡ Less = sym other ∙ later in cc)) _ rest)
