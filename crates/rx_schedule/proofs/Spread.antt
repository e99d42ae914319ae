-- Footprints spread into uses of names, and put together again.
use Rattle.std.proofs.Common.{◌≡◌, ◌≢◌, ℕ, zero, suc, ◌+◌, ◌<◌, ◌≤◌, false, ◌||◌, ◌==◌, List, [], ◌∷◌, ◌++◌, append-nil}
use Rattle.std.proofs.Common.{append_assoc, length, get_or, map, take, refl, ap, sym, ◌∙◌, inl, inr, arith}
use Rattle.std.specs.Cmp.{IsTotalOrder}
use Rattle.std.specs.List.{filter, list_any, range_with_len}
use Rattle.std.specs.Ordering.{eq_by_cmp, is_eq, nat_cmp}
use Rattle.std.specs.declared.cmp.Ordering.{Ordering}
use Rattle.std.specs.declared.cmp.Ordering.TheVariants.{Equal}
use Rattle.std.proofs.lemmas.Bool.{cases_Bool, cases_lt, eq-eqb, eqb-false, eqb-true}
use Rattle.std.proofs.lemmas.Cmp.{tied_itself}
use Rattle.std.proofs.lemmas.List.{get_or_default, length-take-le, map-append, same_lists, take_more}
use Rattle.std.proofs.lemmas.List.Elements.{filter-append}
use Rattle.std.proofs.lemmas.List.FromFn.{get_or-map-range_with_len, length-map-range_with_len}
use Rattle.std.proofs.lemmas.Map.Lookups.{CmpEqualImpliesEq}
use Rattle.rx_sorted.proofs.KeyOrders.{number_exact, number_total}
use Rattle.rx_sorted.proofs.Keys.{cases_Ordering, Equal-from_is_eq}
use Rattle.rx_books_parcel.specs.Footprints.{FootprintParts}
use Rattle.rx_schedule.specs.Links.{is_used, use_cmp}
use Rattle.rx_schedule.specs.Marked.{has_name}
use Rattle.rx_schedule.specs.Used.{AreWithin, footprints_used, names_at}
use Rattle.rx_schedule.specs.Waves.{nothing}
use Rattle.rx_schedule.proofs.InOrder.{named_in}

-- the uses of each record's names, from a place on
abbrev pub spread : {K : Type 0} → (FootprintParts → List K) → ℕ → List FootprintParts → List (K × ℕ)
spread names place [] = []
spread names place (F ∷ Fs) = map (λ k. (k, place)) (names F) ++ spread names (place + 1) Fs

module _ {K : Type 0} where
  at-append : (xs ys : List (K × ℕ)) (p : ℕ) → names_at (xs ++ ys) p ≡ names_at xs p ++ names_at ys p
  at-append xs ys p = ap (map (λ u. u.0)) (filter-append (λ u. u.1 == p) xs ys)
      ∙ map-append (λ u. u.0) (filter (λ u. u.1 == p) xs) (filter (λ u. u.1 == p) ys)

  at_same : (ks : List K) (p : ℕ) → names_at (map (λ k. (k, p)) ks) p ≡ ks
  at_same [] p = refl
  at_same (k ∷ ks) p = rw (eq-eqb p p refl) (ap (λ xs. k ∷ xs) (at_same ks p))

  at_other : (ks : List K) (a p : ℕ) → a ≢ p → names_at (map (λ k. (k, a)) ks) p ≡ []
  at_other [] a p h = refl
  at_other (k ∷ ks) a p h = elim (cases_Bool (a == p)) [
    | inl t ↦ absurd (h (eqb-true a p t))
    | inr f ↦ rw f (at_other ks a p h)
  ]

  module _ (names : FootprintParts → List K) where
    spread_more : (a : ℕ) (Fs : List FootprintParts) (F : FootprintParts)
        → spread names a (Fs ++ F ∷ []) ≡ spread names a Fs ++ map (λ k. (k, a + length Fs)) (names F)
    spread_more a [] F = append-nil (map (λ k. (k, a)) (names F))
        ∙ ap (λ p. map (λ k. (k, p)) (names F)) (let e : a ≡ a + 0 = omega arith in e)
    spread_more a (G ∷ Gs) F = ap (λ us. map (λ k. (k, a)) (names G) ++ us) (spread_more (a + 1) Gs F)
        ∙ sym (append_assoc (map (λ k. (k, a)) (names G)) (spread names (a + 1) Gs) (map (λ k. (k, a + 1 + length Gs)) (names F)))
        ∙ ap (λ p. map (λ k. (k, a)) (names G) ++ spread names (a + 1) Gs ++ map (λ k. (k, p)) (names F))
        (let e : a + 1 + length Gs ≡ a + length (G ∷ Gs) = omega arith in e)

    -- the uses of one record more, as the loop has them
    pub spread_step : (Fs : List FootprintParts) (i place : ℕ) (F : FootprintParts) (ks : List K) (old now : List (K × ℕ))
        → i < length Fs → F ≡ get_or Fs i F → ks ≡ names F → place ≡ i + 1 → old ≡ spread names 1 (take i Fs)
        → now ≡ old ++ map (λ k. (k, place)) ks → now ≡ spread names 1 (take (i + 1) Fs)
    spread_step Fs i place F ks old now lt item is at before step =
        let long : length (take i Fs) ≡ i = length-take-le i Fs (omega arith) in
        let here : place ≡ 1 + length (take i Fs) = omega arith in
        step ∙ rw (before, is, here) (sym (spread_more 1 (take i Fs) F))
        ∙ ap (spread names 1) (ap (λ G. take i Fs ++ G ∷ []) item ∙ sym (take_more Fs i F lt))

    none_before : (a : ℕ) (Fs : List FootprintParts) (p : ℕ) → p < a → names_at (spread names a Fs) p ≡ []
    none_before a [] p h = refl
    none_before a (F ∷ Fs) p h = at-append (map (λ k. (k, a)) (names F)) (spread names (a + 1) Fs) p
        ∙ ap (λ xs. xs ++ names_at (spread names (a + 1) Fs) p) (at_other (names F) a p (λ e. absurd (omega arith)))
        ∙ none_before (a + 1) Fs p (omega arith)

    none_past : (a : ℕ) (Fs : List FootprintParts) (p : ℕ) → a + length Fs ≤ p → names_at (spread names a Fs) p ≡ []
    none_past a [] p h = refl
    none_past a (F ∷ Fs) p h = at-append (map (λ k. (k, a)) (names F)) (spread names (a + 1) Fs) p
        ∙ ap (λ xs. xs ++ names_at (spread names (a + 1) Fs) p) (at_other (names F) a p (λ e. absurd (omega arith)))
        ∙ none_past (a + 1) Fs p (omega arith)

    at_place : (a : ℕ) (Fs : List FootprintParts) (i : ℕ) → i < length Fs
        → names_at (spread names a Fs) (a + i) ≡ names (get_or Fs i nothing)
    at_place a [] i h = absurd (omega arith)
    at_place a (F ∷ Fs) zero h =
        let e : a + 0 ≡ a = omega arith in
        ap (names_at (spread names a (F ∷ Fs))) e
        ∙ at-append (map (λ k. (k, a)) (names F)) (spread names (a + 1) Fs) a
        ∙ ap (λ xs. xs ++ names_at (spread names (a + 1) Fs) a) (at_same (names F) a)
        ∙ ap (λ xs. names F ++ xs) (none_before (a + 1) Fs a (omega arith)) ∙ append-nil (names F)
    at_place a (F ∷ Fs) (suc i) h =
        let e : a + suc i ≡ a + 1 + i = omega arith in
        at-append (map (λ k. (k, a)) (names F)) (spread names (a + 1) Fs) (a + suc i)
        ∙ ap (λ xs. xs ++ names_at (spread names (a + 1) Fs) (a + suc i))
        (at_other (names F) a (a + suc i) (λ f. absurd (omega arith)))
        ∙ ap (names_at (spread names (a + 1) Fs)) e ∙ at_place (a + 1) Fs i (omega arith)

-- put together, they are the footprints again
pub together : (fs : List FootprintParts)
    → footprints_used (length fs) (spread (λ F. F.keys) 1 fs) (spread (λ F. F.families) 1 fs) ≡ fs
together fs =
    let made : ℕ → FootprintParts = λ place. record {
      keys = names_at (spread (λ F. F.keys) 1 fs) place;
      families = names_at (spread (λ F. F.families) 1 fs) place;
    } in
    same_lists (map made (range_with_len 1 (length fs))) fs (length-map-range_with_len made 1 (length fs)) (λ i d lt.
    let short : i < length fs = let e = length-map-range_with_len made 1 (length fs) in omega arith in
    get_or-map-range_with_len made 1 (length fs) i (1 + i) d short refl
    ∙ rw (at_place (λ F. F.keys) 1 fs i short, at_place (λ F. F.families) 1 fs i short) (get_or_default fs i nothing d short))

-- ---- a name is used at a place if it is one of the names there

module _ {K : Type 0} (cmp : K → K → Ordering) (order : IsTotalOrder cmp) (exact : CmpEqualImpliesEq cmp) where
  same_place : (k : K) (p : ℕ) (u : K × ℕ) → u.1 ≡ p → eq_by_cmp (use_cmp cmp) (k, p) u ≡ eq_by_cmp cmp k u.0
  same_place k p u e =
      let tied : nat_cmp p u.1 ≡ Equal = ap (nat_cmp p) e ∙ tied_itself number_total p in
      rw tied (elim (cases_Ordering (cmp k u.0)) [
        | inl l ↦ rw l refl
        | inr (inl q) ↦ rw q refl
        | inr (inr g) ↦ rw g refl
      ])

  other_place : (k : K) (p : ℕ) (u : K × ℕ) → u.1 ≢ p → eq_by_cmp (use_cmp cmp) (k, p) u ≡ false
  other_place k p u h = elim (cases_Ordering (cmp k u.0)) [
    | inl l ↦ rw l refl
    | inr (inl q) ↦ rw q (elim (cases_Bool (is_eq (nat_cmp p u.1))) [
      | inl t ↦ absurd (h (sym (number_exact p u.1 (Equal-from_is_eq _ t))))
      | inr f ↦ f
    ])
    | inr (inr g) ↦ rw g refl
  ]

  any_at : (uses : List (K × ℕ)) (k : K) (p : ℕ) → list_any (eq_by_cmp cmp k) (names_at uses p) ≡ is_used cmp uses k p
  any_at [] k p = refl
  any_at (u ∷ uses) k p = elim (cases_Bool (u.1 == p)) [
    | inl t ↦ rw (t, same_place k p u (eqb-true u.1 p t)) (ap (λ b. eq_by_cmp cmp k u.0 || b) (any_at uses k p))
    | inr f ↦ rw (f, other_place k p u (eqb-false u.1 p f)) (any_at uses k p)
  ]

  pub named_used : (uses : List (K × ℕ)) (k : K) (p : ℕ) → has_name cmp (names_at uses p) k ≡ is_used cmp uses k p
  named_used uses k p = named_in cmp order exact (names_at uses p) k ∙ any_at uses k p

-- the names of records are used at their places only
pub spread_within : {K : Type 0} (names : FootprintParts → List K) (fs : List FootprintParts) → AreWithin (length fs) (spread names 1 fs)
spread_within names fs = record {
  places = λ p some. elim (cases_lt p 1) [
    | inl low ↦ absurd (let e : length (names_at (spread names 1 fs) p) ≡ 0 = ap length (none_before names 1 fs p low) in omega arith)
    | inr from ↦ elim (cases_lt (length fs) p) [
      | inl past ↦ absurd (let e : length (names_at (spread names 1 fs) p) ≡ 0 =
          ap length (none_past names 1 fs p (omega arith)) in omega arith)
      | inr upto ↦ (from, upto)
    ]
  ];
}
