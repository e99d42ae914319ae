-- The last payment under a claim's fill key before a transaction is the claim's own, and the claim stood since.
use Rattle.std.specs.Prelude.{◌&&◌, reverse}
use Rattle.std.specs.Option.{option_or}
use Rattle.std.specs.List.{find}
use Rattle.std.specs.Ordering.{is_le, is_lt}
use Rattle.std.specs.declared.cmp.Ordering.TheVariants.{Less, Equal, Greater}
use Rattle.std.proofs.Common.{◌≡◌, Bool, true, false, List, [], ◌∷◌, Option, Some, None, refl, sym, ap, subst, ◌∙◌, inl, inr}
use Rattle.std.proofs.lemmas.Cmp.{tied_itself}
use Rattle.std.proofs.lemmas.List.{reverse-append}
use Rattle.std.proofs.lemmas.List.Folds.{find-append}
use Rattle.rx_fields.specs.Numbered.{LotParts}
use Rattle.rx_d0_values.specs.declared.reply.Answer.{Answer}
use Rattle.rx_d0_values.specs.declared.reply.Answer.TheVariants.{Paid, Twice, Approved, Refused}
use Rattle.rx_d0_values.specs.declared.transmission.Heard.{Heard as HeardRecord}
use Rattle.rx_d0_values.specs.declared.transmission.Transmission.{Transmission}
use Rattle.rx_sorted.proofs.Keys.{Greater-from_Less}
use Rattle.rx_ledger.specs.declared.row.Row.{Row}
use Rattle.rx_ledger.specs.Ledger.{Ledger, row_under}
use Rattle.rx_ledger.specs.Named.{key_in}
use Rattle.rx_ledger.specs.Plan.{Plan}
use Rattle.rx_ledger.proofs.Orders.{key_total}
use Rattle.rx_explain.specs.declared.at.At.{At}
use Rattle.rx_explain.specs.declared.events.Change.TheVariants as change
use Rattle.rx_explain.specs.declared.events.Event.{Event}
use Rattle.rx_explain.specs.Sources.{IsBefore, IsPaidBy, IsUpTo}
use Rattle.rx_explain.specs.Traces.{at_cmp, event_of, pays_before}
use Rattle.rx_explain.proofs.Changed.{Leaves, PaysUnder, effect}
use Rattle.rx_explain.proofs.Flattened.{Step, asked_of, events_at, events_by, next, step_at}
use Rattle.rx_explain.proofs.Placed.{ArePlaced, AreRising, IsAmong, IsBelowAll, at_total, before_step}

-- ---- places

pub not_before_itself : (a : At) → at_cmp a a ≡ Less → ⊥
not_before_itself a less = let e : Equal ≡ Less = sym (tied_itself at_total a) ∙ less in cc

pub turned : (a b : At) → at_cmp a b ≡ Less → at_cmp b a ≡ Greater
turned a b less = Greater-from_Less at_cmp at_total step_at a b less

pub not_up_to : (a b : At) → at_cmp a b ≡ Less → is_le (at_cmp b a) ≡ true → ⊥
not_up_to a b less up = let e : false ≡ true = sym (ap is_le (turned a b less)) ∙ up in cc

pub below_each : (at : At) (xs : List Step) (x : Step) → IsBelowAll at xs → IsAmong x xs → at_cmp at x.at ≡ Less
below_each at [] x below among = absurd among
below_each at (y ∷ ys) x below (inl here) = ap (λ (z : Step). at_cmp at z.at) (sym here) ∙ below.0
below_each at (y ∷ ys) x below (inr more) = below_each at ys x below.1 more

-- ---- events of other places

pub and_false : (b : Bool) → (b && false) ≡ false
and_false true = refl
and_false false = refl

pub and_false_and : (b c : Bool) → ((b && false) && c) ≡ false
and_false_and true c = refl
and_false_and false c = refl

module _ (test : Event → Bool) where
  event_fails : (h : HeardRecord) (at : At) (given : Answer) → ((e : Event) → e.at ≡ at → test e ≡ false)
      → find test (event_of h at given) ≡ None
  event_fails h at (Paid p) fails =
      rw (fails (record { at = at; key = key_in h p.reference; change = change.Paid }) refl) refl
  event_fails h at (Twice p) fails = refl
  event_fails h at (Approved p) fails =
      rw (fails (record { at = at; key = key_in h p.reference; change = change.TakenBack }) refl) refl
  event_fails h at (Refused p) fails = refl

-- what a transaction changed is at most one
pub alone : (h : HeardRecord) (at : At) (given : Answer) → reverse (event_of h at given) ≡ event_of h at given
alone h at (Paid p) = refl
alone h at (Twice p) = refl
alone h at (Approved p) = refl
alone h at (Refused p) = refl

none_or : {X : Type 0} (o p : Option X) → o ≡ None → p ≡ None → option_or o p ≡ None
none_or o p first rest = rw (first, rest) refl

module _ (lot : LotParts) (plan : Plan) (test : Event → Bool) where
  pub step_fails : (x : Step) (L : Ledger) → ((e : Event) → e.at ≡ x.at → test e ≡ false)
      → find test (events_at lot plan L x) ≡ None
  step_fails x L fails = event_fails test x.spot.heard x.at _ fails

  pub turned_one : (x : Step) (L : Ledger) → find test (reverse (events_at lot plan L x)) ≡ find test (events_at lot plan L x)
  turned_one x L = ap (find test) (alone x.spot.heard x.at _)

  pub found_after : (x : Step) (xs : List Step) (L : Ledger)
      → find test (reverse (events_by lot plan L (x ∷ xs)))
      ≡ option_or (find test (reverse (events_by lot plan (next lot plan L x) xs))) (find test (events_at lot plan L x))
  found_after x xs L =
      let first = events_at lot plan L x in
      let rest = events_by lot plan (next lot plan L x) xs in
      ap (find test) (reverse-append first rest) ∙ find-append test (reverse rest) (reverse first)
      ∙ ap (option_or (find test (reverse rest))) (turned_one x L)

  none_found : (xs : List Step) (L : Ledger) → ((x : Step) → IsAmong x xs → (e : Event) → e.at ≡ x.at → test e ≡ false)
      → find test (reverse (events_by lot plan L xs)) ≡ None
  none_found [] L fails = refl
  none_found (x ∷ xs) L fails =
      found_after x xs L
      ∙ none_or _ _ (none_found xs (next lot plan L x) (λ y more. fails y (inr more)))
      (step_fails x L (fails x (inl refl)))

-- ---- the last payment

module _ (lot : LotParts) (plan : Plan) (ts : List Transmission) (opening : Ledger) (this : Step) (r : Row) where
  abbrev pub Stands : Step → Type 0
  Stands x = row_under (before_step lot plan ts opening x) r.key ≡ Some r

  abbrev pub pays : Event → Bool
  pays = pays_before r.key this.at

  -- among the transactions from a ledger on, one paid the claim, and it stood since
  pub record IsPayer (xs : List Step) (e : Event) : Type 0 where
    pub payer : Step
    pub is_among : IsAmong payer xs
    pub at_is : payer.at ≡ e.at
    pub before : IsBefore payer.at this.at
    pub pays_it : IsPaidBy (asked_of lot plan payer) (before_step lot plan ts opening payer) payer.spot.transaction r
    pub stood : (x : Step) → IsAmong x xs → IsBefore payer.at x.at → IsUpTo x.at this.at → Stands x

  -- or none did, and it stood all along
  abbrev pub From : Ledger → List Step → Option Event → Type 0
  From L xs None =
      (row_under L r.key ≡ Some r) × ((x : Step) → IsAmong x xs → IsUpTo x.at this.at → Stands x)
  From L xs (Some e) = IsPayer xs e

  late : (e : Event) → is_lt (at_cmp e.at this.at) ≡ false → pays e ≡ false
  late e other = rw other (and_false _)

  none_so_far : (x : Step) (xs : List Step) (L : Ledger) → x ≡ this → IsBelowAll x.at xs
      → find pays (reverse (events_by lot plan L (x ∷ xs))) ≡ None
  none_so_far x xs L same below =
      none_found lot plan pays (x ∷ xs) L
      (λ y among e e_is. late e (elim among [
        | inl here ↦
            let there : e.at ≡ this.at = e_is ∙ ap step_at (sym here ∙ same) in
            ap (λ (a : At). is_lt (at_cmp a this.at)) there ∙ ap is_lt (tied_itself at_total this.at)
        | inr more ↦
            let less : at_cmp this.at e.at ≡ Less =
            ap (λ (a : At). at_cmp a e.at) (ap step_at (sym same)) ∙ ap (at_cmp x.at) e_is ∙ below_each x.at xs y below more in
            ap is_lt (turned this.at e.at less)
      ]))

  module _ (x : Step) (xs : List Step) (L : Ledger) (rising : IsBelowAll x.at xs) (on : before_step lot plan ts opening x ≡ L)
      (early : at_cmp x.at this.at ≡ Less) where
    passes : pays (record { at = x.at; key = r.key; change = change.Paid }) ≡ true
    passes = rw (tied_itself key_total r.key, early) refl

    by_payment : From (next lot plan L x) xs None → PaysUnder lot plan x L r.key
        → From L (x ∷ xs) (find pays (events_at lot plan L x))
    by_payment rest p =
        let same : p.row ≡ r = let e : Some p.row ≡ Some r = sym p.now ∙ rest.0 in cc in
        let found : find pays (events_at lot plan L x) ≡ Some (record { at = x.at; key = r.key; change = change.Paid }) =
        ap (find pays) p.says ∙ rw passes refl in
        subst (From L (x ∷ xs)) (sym found)
        (record {
          payer = x;
          is_among = inl refl;
          at_is = refl;
          before = early;
          pays_it = subst (λ (M : Ledger). IsPaidBy (asked_of lot plan x) M x.spot.transaction r) (sym on)
              (subst (λ (q : Row). IsPaidBy (asked_of lot plan x) L x.spot.transaction q) same p.pays);
          stood = λ y among later up. elim among [
            | inl here ↦ absurd (not_before_itself x.at (ap (λ (z : Step). at_cmp x.at z.at) here ∙ later))
            | inr more ↦ rest.1 y more up
          ];
        })

    unpaid : From (next lot plan L x) xs None → Leaves lot plan x L r.key
        → From L (x ∷ xs) (find pays (events_at lot plan L x))
    unpaid rest q =
        let none : find pays (events_at lot plan L x) ≡ None = q.silent pays (λ e other. rw other (and_false_and _ _)) in
        let is : row_under L r.key ≡ Some r = sym q.now ∙ rest.0 in
        subst (From L (x ∷ xs)) (sym none) (
          is,
          λ y among up. elim among [
            | inl here ↦ ap (λ (z : Step). row_under (before_step lot plan ts opening z) r.key) (sym here)
                ∙ ap (λ M. row_under M r.key) on ∙ is
            | inr more ↦ rest.1 y more up
          ],
        )

    earlier : (o : Option Event) → From (next lot plan L x) xs o
        → From L (x ∷ xs) (option_or o (find pays (events_at lot plan L x)))
    earlier (Some e) rest = record {
      payer = rest.payer;
      is_among = inr rest.is_among;
      at_is = rest.at_is;
      before = rest.before;
      pays_it = rest.pays_it;
      stood = λ y among later up. elim among [
        | inl here ↦ absurd
            (let above : at_cmp x.at rest.payer.at ≡ Less = below_each x.at xs rest.payer rising rest.is_among in
            let later_than : at_cmp rest.payer.at x.at ≡ Less = ap (λ (z : Step). at_cmp rest.payer.at z.at) here ∙ later in
            let e : Greater ≡ Less = sym (turned x.at rest.payer.at above) ∙ later_than in
            cc)
        | inr more ↦ rest.stood y more later up
      ];
    }
    earlier None rest = elim (effect lot plan x L r.key) [
      | inl p ↦ by_payment rest p
      | inr (inl t) ↦ absurd (let e : None ≡ Some r = sym t.now ∙ rest.0 in cc)
      | inr (inr q) ↦ unpaid rest q
    ]

  pub since : (xs : List Step) (L : Ledger) → AreRising xs → ArePlaced lot plan ts opening L xs → IsAmong this xs → Stands this
      → From L xs (find pays (reverse (events_by lot plan L xs)))
  since [] L rising placed among stands = absurd among
  since (x ∷ xs) L rising placed (inl same) stands =
      let is : row_under L r.key ≡ Some r =
      ap (λ M. row_under M r.key) (sym placed.0.is_on)
      ∙ ap (λ (z : Step). row_under (before_step lot plan ts opening z) r.key) same ∙ stands in
      subst (From L (x ∷ xs)) (sym (none_so_far x xs L same rising.0)) (
        is,
        λ y among up. elim among [
          | inl here ↦ ap (λ (z : Step). row_under (before_step lot plan ts opening z) r.key) (sym here ∙ same) ∙ stands
          | inr more ↦ absurd
              (not_up_to this.at y.at (ap (λ (z : Step). at_cmp z.at y.at) (sym same) ∙ below_each x.at xs y rising.0 more) up)
        ],
      )
  since (x ∷ xs) L rising placed (inr more) stands =
      let rest = since xs (next lot plan L x) rising.1 placed.1 more stands in
      subst (From L (x ∷ xs)) (sym (found_after lot plan pays x xs L))
      (earlier x xs L rising.0 placed.0.is_on (below_each x.at xs this rising.0 more) _ rest)
