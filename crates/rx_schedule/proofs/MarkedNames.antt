-- The marks of the last records that had each name: what a note changes, and what the best of some marks is.
use Rattle.std.proofs.Common.{◌≡◌, ℕ, suc, ◌+◌, ◌<◌, ◌≤◌, true, false, Bool, cond, ◌||◌, ◌==◌, List, [], ◌∷◌, ◌++◌, length}
use Rattle.std.proofs.Common.{get_or, take, Option, Some, None, refl, ap, sym, ◌∙◌, inl, inr, arith, subst}
use Rattle.std.specs.Prelude.{◌⊎◌, nat_lt}
use Rattle.std.specs.BTreeMap.{BTreeMap, get, is_at}
use Rattle.std.specs.Cmp.{IsTotalOrder}
use Rattle.std.specs.Ordering.{is_eq}
use Rattle.std.specs.declared.cmp.Ordering.{Ordering}
use Rattle.std.proofs.lemmas.Bool.{cases_Bool, cases_eq, cases_lt, both_ways, eqb-false, eqb-true, ltb-false, ltb-true}
use Rattle.std.proofs.lemmas.List.{take_more}
use Rattle.std.proofs.lemmas.Map.Lookups.{CmpEqualImpliesEq}
use Rattle.rx_sorted.proofs.Keys.{Equal-from_is_eq, has_key-itself}
use Rattle.rx_sorted.specs.Ascending.{itself}
use Rattle.rx_schedule.specs.declared.marks.Mark.{Mark}
use Rattle.rx_schedule.specs.Marked.{IsLastOf, best_of, better, better_of, has_name}

module _ {K : Type 0} (cmp : K → K → Ordering) where
  -- one name more
  pub has_name-more : (xs : List K) (x k : K) → has_name cmp (xs ++ x ∷ []) k ≡ has_name cmp xs k || is_eq (cmp x k)
  has_name-more [] x k = elim (cases_Bool (is_eq (cmp x k))) [ inl t ↦ rw t refl | inr f ↦ rw f refl ]
  has_name-more (y ∷ ys) x k = elim (cases_Bool (is_eq (cmp y k))) [
    | inl t ↦ rw t refl
    | inr f ↦ rw f (has_name-more ys x k)
  ]

  -- a note of one name more
  pub noted_more : (names : List K) (i : ℕ) (x k : K) (mark : Mark) (first old now : Option Mark) → i < length names
      → x ≡ get_or names i x
      → old ≡ cond (has_name cmp (take i names) k) (Some mark) first
      → now ≡ cond (is_at (cmp x) k) (Some mark) old
      → now ≡ cond (has_name cmp (take (i + 1) names) k) (Some mark) first
  noted_more names i x k mark first old now h item before step =
      let more : has_name cmp (take (i + 1) names) k ≡ has_name cmp (take i names) k || is_eq (cmp x k) =
      ap (λ ns. has_name cmp ns k) (take_more names i x h)
      ∙ ap (λ y. has_name cmp (take i names ++ y ∷ []) k) (sym item)
      ∙ has_name-more (take i names) x k in
      elim (cases_Bool (is_eq (cmp x k))) [
        | inl here ↦ step ∙ rw (more, here) (either (has_name cmp (take i names) k) (Some mark) first)
        | inr other ↦ step ∙ rw (more, other) (before ∙ alone (has_name cmp (take i names) k) (Some mark) first)
      ]
    where
      either : (b : Bool) (m o : Option Mark) → m ≡ cond (b || true) m o
      either true m o = refl
      either false m o = refl

      alone : (b : Bool) (m o : Option Mark) → cond b m o ≡ cond (b || false) m o
      alone true m o = refl
      alone false m o = refl

-- ---- the best of some marks

-- the second is no better than the first
abbrev pub IsAtMost : Mark → Mark → Type 0
IsAtMost m best = (m.wave < best.wave) ⊎ ((m.wave ≡ best.wave) × (best.place ≤ m.place))

pub at_most_itself : (m : Mark) → IsAtMost m m
at_most_itself m = inr (refl, omega arith)

pub at_most_through : (a b c : Mark) → IsAtMost a b → IsAtMost b c → IsAtMost a c
at_most_through a b c (inl p) (inl q) = inl (omega arith)
at_most_through a b c (inl p) (inr q) = inl (let e : b.wave ≡ c.wave = q.0 in omega arith)
at_most_through a b c (inr p) (inl q) = inl (let e : a.wave ≡ b.wave = p.0 in omega arith)
at_most_through a b c (inr p) (inr q) =
    inr (p.0 ∙ q.0, (let u : b.place ≤ a.place = p.1 in let v : c.place ≤ b.place = q.1 in omega arith))

-- the better of two is one of them, and the other is at most that
pub better_cases : (a b : Mark)
    → ((better a b ≡ b) × IsAtMost a b) ⊎ ((better a b ≡ a) × IsAtMost b a)
better_cases a b = elim (cases_Bool (nat_lt a.wave b.wave)) [
  | inl less ↦ inl (rw less refl, inl (ltb-true a.wave b.wave less))
  | inr no_less ↦ elim (cases_Bool (a.wave == b.wave)) [
    | inl same ↦ elim (cases_Bool (nat_lt b.place a.place)) [
      | inl first ↦ inl (
        rw (no_less, same, first) refl,
        inr (eqb-true a.wave b.wave same, (let u : b.place < a.place = ltb-true b.place a.place first in omega arith)),
      )
      | inr later ↦ inr (
        rw (no_less, same, later) refl,
        inr (sym (eqb-true a.wave b.wave same), ltb-false b.place a.place later),
      )
    ]
    | inr other ↦ inr (
      rw (no_less, other) refl,
      inl (let u : b.wave ≤ a.wave = ltb-false a.wave b.wave no_less in
          let v : a.wave ≡ b.wave → ⊥ = eqb-false a.wave b.wave other in omega arith),
    )
  ]
]

-- the best of a list of names is no worse than the mark that was there and the mark of each name, and it is one of them
pub record IsBestOf {K : Type 0} (at : K → Option Mark) (has : K → Type 0) (there best : Mark) : Type 0 where
  pub from_there : IsAtMost there best
  pub from_each : (k : K) (m : Mark) → has k → at k ≡ Some m → IsAtMost m best
  pub own : (best ≡ there) ⊎ ((k : K) × has k × (at k ≡ Some best))

module _ {K : Type 0} (cmp : K → K → Ordering) (order : IsTotalOrder cmp) (exact : CmpEqualImpliesEq cmp)
    (marks : BTreeMap K Mark) where
  abbrev Has : List K → K → Type 0
  Has names k = has_name cmp names k ≡ true

  has_rest : (x : K) (xs : List K) (k : K) → Has xs k → Has (x ∷ xs) k
  has_rest x xs k h = elim (cases_Bool (is_eq (cmp x k))) [ inl t ↦ rw t refl | inr f ↦ rw (f, h) refl ]

  has_first : (x : K) (xs : List K) → Has (x ∷ xs) x
  has_first x xs = rw (has_key-itself cmp order itself x) refl

  -- with one name more in front
  best-cons : (x : K) (xs : List K) (there mid best : Mark) (o : Option Mark) → get cmp marks x ≡ o → mid ≡ better_of there o
      → IsBestOf (get cmp marks) (Has xs) mid best → IsBestOf (get cmp marks) (Has (x ∷ xs)) there best
  best-cons x xs there mid best None at_x is b =
      record {
        from_there = subst (λ m. IsAtMost m best) is b.from_there;
        from_each = λ k m h at_k. elim (cases_Bool (is_eq (cmp x k))) [
          | inl t ↦
              let same : x ≡ k = exact x k (Equal-from_is_eq _ t) in
              absurd (let e : None ≡ Some m = sym at_x ∙ ap (get cmp marks) same ∙ at_k in cc)
          | inr f ↦ b.from_each k m (rw f at h) at_k
        ];
        own = elim b.own [
          | inl e ↦ inl (e ∙ is)
          | inr w ↦ inr (w.0, has_rest x xs w.0 w.1, w.2)
        ];
      }
  best-cons x xs there mid best (Some n) at_x is b =
      let n_below : IsAtMost n best = elim (better_cases there n) [
        | inl w ↦ subst (λ m. IsAtMost m best) (is ∙ w.0) b.from_there
        | inr w ↦ at_most_through n there best w.1 (subst (λ m. IsAtMost m best) (is ∙ w.0) b.from_there)
      ] in
      record {
        from_there = elim (better_cases there n) [
          | inl w ↦ at_most_through there n best w.1 n_below
          | inr w ↦ subst (λ m. IsAtMost m best) (is ∙ w.0) b.from_there
        ];
        from_each = λ k m h at_k. elim (cases_Bool (is_eq (cmp x k))) [
          | inl t ↦
              let same : x ≡ k = exact x k (Equal-from_is_eq _ t) in
              let e : Some n ≡ Some m = sym at_x ∙ ap (get cmp marks) same ∙ at_k in
              let one : n ≡ m = cc in
              subst (λ u. IsAtMost u best) one n_below
          | inr f ↦ b.from_each k m (rw f at h) at_k
        ];
        own = elim b.own [
          | inl e ↦ elim (better_cases there n) [
            | inl w ↦ inr (x, has_first x xs, at_x ∙ ap Some (sym (e ∙ is ∙ w.0)))
            | inr w ↦ inl (e ∙ is ∙ w.0)
          ]
          | inr w ↦ inr (w.0, has_rest x xs w.0 w.1, w.2)
        ];
      }

  pub best_is_best : (names : List K) (there : Mark)
      → IsBestOf (get cmp marks) (Has names) there (best_of cmp marks names there)
  best_is_best [] there = record { from_there = at_most_itself there; from_each = λ k m h e. absurd (cc h); own = inl refl }
  best_is_best (x ∷ xs) there =
      best-cons x xs there (better_of there (get cmp marks x)) (best_of cmp marks (x ∷ xs) there) (get cmp marks x) refl refl
      (best_is_best xs (better_of there (get cmp marks x)))

-- ---- the last records

-- a record up to place i that has a name is at most the best of that name's mark
pub last-at_most : (named : ℕ → Bool) (number : ℕ → ℕ) (i p : ℕ) (o : Option Mark) (best : Mark)
    → IsLastOf named number i o → ((h j : ℕ) → 1 ≤ h → h < j → j ≤ i → named h ≡ true → named j ≡ true → number h < number j)
    → ((m : Mark) → o ≡ Some m → IsAtMost m best) → 1 ≤ p → p ≤ i → named p ≡ true
    → IsAtMost (record { place = p; wave = number p }) best
last-at_most named number i p None best last rise up one to h = absurd (both_ways (named p) (last p one to) h)
last-at_most named number i p (Some m) best last rise up one to h =
    let m_up : IsAtMost m best = up m refl in
    elim (cases_lt m.place p) [
      | inl after ↦ absurd (both_ways (named p) (last.4 p after to) h)
      | inr upto ↦ elim (cases_eq p m.place) [
        | inl same ↦ at_most_through (record { place = p; wave = number p }) m best
            (inr (ap number same ∙ sym last.3, (omega arith))) m_up
        | inr apart ↦ at_most_through (record { place = p; wave = number p }) m best
            (inl (let e : m.wave ≡ number m.place = last.3 in
            let r : number p < number m.place = rise p m.place one (omega arith) last.1 h last.2 in omega arith)) m_up
      ]
    ]

-- the last records up to the next place, where it has the name, and where it hasn't
pub last-more : (named : ℕ → Bool) (number later : ℕ → ℕ) (i : ℕ) (mark : Mark) (old now : Option Mark)
    → ((p : ℕ) → p ≤ i → later p ≡ number p) → mark ≡ record { place = suc i; wave = later (suc i) }
    → now ≡ cond (named (suc i)) (Some mark) old → IsLastOf named number i old → IsLastOf named later (suc i) now
last-more named number later i mark old now same is step last = elim (cases_Bool (named (suc i))) [
  | inl t ↦
      let now_is : now ≡ Some (record { place = suc i; wave = later (suc i) }) = step ∙ rw t (ap Some is) in
      subst (λ o. IsLastOf named later (suc i) o) (sym now_is)
      (omega arith, omega arith, t, refl, λ p after to. absurd (omega arith))
  | inr f ↦
      let now_is : now ≡ old = step ∙ rw f refl in
      subst (λ o. IsLastOf named later (suc i) o) (sym now_is) (stays old last f)
]
  where
    stays : (o : Option Mark) → IsLastOf named number i o → named (suc i) ≡ false → IsLastOf named later (suc i) o
    stays None h f = λ p one to. elim (cases_eq p (suc i)) [
      | inl here ↦ ap named here ∙ f
      | inr apart ↦ h p one (omega arith)
    ]
    stays (Some m) h f = (
      h.0,
      (let to : m.place ≤ i = h.1 in omega arith),
      h.2,
      h.3 ∙ sym (same m.place h.1),
      (λ p after to. elim (cases_eq p (suc i)) [
        | inl here ↦ ap named here ∙ f
        | inr apart ↦ h.4 p after (omega arith)
      ]),
    )
