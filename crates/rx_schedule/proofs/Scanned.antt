-- The waves are found by the last record that had each name, since along one book waves rise.
use Rattle.std.proofs.Common.{◌≡◌, ℕ, suc, zero, ◌-◌, ◌<◌, ◌≤◌, true, false, Bool, cond, ◌||◌, List, [], ◌∷◌, ◌++◌, map}
use Rattle.std.proofs.Common.{length, get_or, set, Option, Some, None, refl, ap, sym, ◌∙◌, inl, inr, arith, subst}
use Rattle.std.specs.Prelude.{◌⊎◌, nat_lt}
use Rattle.std.specs.BTreeMap.{BTreeMap, get}
use Rattle.std.specs.List.{list_any}
use Rattle.std.specs.Ordering.{is_eq}
use Rattle.std.proofs.lemmas.Bool.{cases_Bool, cases_eq, cases_lt, ltb-false, ltb-true}
use Rattle.std.proofs.lemmas.List.{get_or_append_left, get_or_default, get_or-set_same, get_or-set_other, length-set}
use Rattle.std.proofs.lemmas.List.Folds.{list_any-append}
use Rattle.std.proofs.Math.Seq.{get_or-append_seam}
use Rattle.rx_fields.specs.Order.{id_cmp, key_cmp}
use Rattle.rx_fields.specs.declared.key.Key.{Key}
use Rattle.rx_ledger.proofs.Orders.{id_exact, id_total, key_exact, key_total}
use Rattle.rx_sorted.proofs.Keys.{Equal-from_is_eq, has_key-itself}
use Rattle.rx_books_family.specs.Books.{OfFamily, OfKey}
use Rattle.rx_sorted.specs.Ascending.{itself}
use Rattle.rx_books_parcel.specs.Footprints.{FootprintParts, names}
use Rattle.rx_schedule.specs.declared.marks.Mark.{Mark}
use Rattle.rx_schedule.specs.Marked.{IsDown, IsLastOf, IsScan, best_of, families_at, has_name, keys_at, no_mark}
use Rattle.rx_schedule.specs.Waves.{AreWaves, IsChain, IsFirstHighest, IsFirstSharer, footprint_in}
use Rattle.rx_schedule.specs.Waves.{meet, member_at, nothing, number_in, shares}
use Rattle.rx_schedule.proofs.MarkedNames.{IsAtMost, at_most_through, best_is_best, last-at_most, last-more}

-- ---- two footprints meet in a fill key or in a family

met_key : (G : FootprintParts) (ks : List Key) → list_any (names G) (map OfKey ks) ≡ true
    → (k : Key) × (has_name key_cmp ks k ≡ true) × (has_name key_cmp G.keys k ≡ true)
met_key G [] h = absurd (cc h)
met_key G (x ∷ xs) h = elim (cases_Bool (has_name key_cmp G.keys x)) [
  | inl t ↦ (x, rw (has_key-itself key_cmp key_total itself x) refl, t)
  | inr f ↦
      let rest = met_key G xs (rw f at h) in
      (rest.0, elim (cases_Bool (is_eq (key_cmp x rest.0))) [ inl t ↦ rw t refl | inr g ↦ rw (g, rest.1) refl ], rest.2)
]

met_family : (G : FootprintParts) (ks : List (List ℕ)) → list_any (names G) (map OfFamily ks) ≡ true
    → (k : List ℕ) × (has_name id_cmp ks k ≡ true) × (has_name id_cmp G.families k ≡ true)
met_family G [] h = absurd (cc h)
met_family G (x ∷ xs) h = elim (cases_Bool (has_name id_cmp G.families x)) [
  | inl t ↦ (x, rw (has_key-itself id_cmp id_total itself x) refl, t)
  | inr f ↦
      let rest = met_family G xs (rw f at h) in
      (rest.0, elim (cases_Bool (is_eq (id_cmp x rest.0))) [ inl t ↦ rw t refl | inr g ↦ rw (g, rest.1) refl ], rest.2)
]

or_cases : (a b : Bool) → a || b ≡ true → (a ≡ true) ⊎ (b ≡ true)
or_cases true b h = inl refl
or_cases false b h = inr h

or_left : (a b : Bool) → a ≡ true → a || b ≡ true
or_left a b h = rw h refl

or_right : (a b : Bool) → b ≡ true → a || b ≡ true
or_right true b h = refl
or_right false b h = h

pub meet_in : (F G : FootprintParts) → meet F G ≡ true
    → ((k : Key) × (has_name key_cmp F.keys k ≡ true) × (has_name key_cmp G.keys k ≡ true))
    ⊎ ((k : List ℕ) × (has_name id_cmp F.families k ≡ true) × (has_name id_cmp G.families k ≡ true))
meet_in F G h =
    elim (or_cases _ _ (sym (list_any-append (names G) (map OfKey F.keys) (map OfFamily F.families)) ∙ h)) [
      | inl keys ↦ inl (met_key G F.keys keys)
      | inr families ↦ inr (met_family G F.families families)
    ]

meets_key : (G : FootprintParts) (ks : List Key) (k : Key) → has_name key_cmp ks k ≡ true → has_name key_cmp G.keys k ≡ true
    → list_any (names G) (map OfKey ks) ≡ true
meets_key G [] k h g = absurd (cc h)
meets_key G (x ∷ xs) k h g = elim (cases_Bool (is_eq (key_cmp x k))) [
  | inl t ↦
      let same : x ≡ k = key_exact x k (Equal-from_is_eq _ t) in
      or_left _ _ (ap (has_name key_cmp G.keys) same ∙ g)
  | inr f ↦ or_right _ _ (meets_key G xs k (rw f at h) g)
]

meets_family : (G : FootprintParts) (ks : List (List ℕ)) (k : List ℕ) → has_name id_cmp ks k ≡ true
    → has_name id_cmp G.families k ≡ true → list_any (names G) (map OfFamily ks) ≡ true
meets_family G [] k h g = absurd (cc h)
meets_family G (x ∷ xs) k h g = elim (cases_Bool (is_eq (id_cmp x k))) [
  | inl t ↦
      let same : x ≡ k = id_exact x k (Equal-from_is_eq _ t) in
      or_left _ _ (ap (has_name id_cmp G.families) same ∙ g)
  | inr f ↦ or_right _ _ (meets_family G xs k (rw f at h) g)
]

pub meet_by_key : (F G : FootprintParts) (k : Key) → has_name key_cmp F.keys k ≡ true → has_name key_cmp G.keys k ≡ true
    → meet F G ≡ true
meet_by_key F G k h g = list_any-append (names G) (map OfKey F.keys) (map OfFamily F.families)
    ∙ or_left _ _ (meets_key G F.keys k h g)

pub meet_by_family : (F G : FootprintParts) (k : List ℕ) → has_name id_cmp F.families k ≡ true
    → has_name id_cmp G.families k ≡ true → meet F G ≡ true
meet_by_family F G k h g = list_any-append (names G) (map OfKey F.keys) (map OfFamily F.families)
    ∙ or_right _ _ (meets_family G F.families k h g)

-- ---- one number more

read_before : (xs : List ℕ) (x i p : ℕ) → length xs ≡ i → p ≤ i → number_in (xs ++ x ∷ []) p ≡ number_in xs p
read_before xs x i p e h = get_or_append_left (0 ∷ xs) (x ∷ []) 0 p (omega arith)

read_last : (xs : List ℕ) (x i : ℕ) → length xs ≡ i → number_in (xs ++ x ∷ []) (suc i) ≡ x
read_last xs x i e = ap (λ n. number_in (xs ++ x ∷ []) (suc n)) (sym e) ∙ get_or-append_seam (0 ∷ xs) x [] 0

pub read_past : (xs : List ℕ) (p : ℕ) → length xs < p → number_in xs p ≡ 0
read_past xs zero h = absurd (omega arith)
read_past [] (suc p) h = refl
read_past (x ∷ xs) (suc zero) h = absurd (omega arith)
read_past (x ∷ xs) (suc (suc p)) h = read_past xs (suc p) (omega arith)

small_more : (xs : List ℕ) (x i : ℕ) → length xs ≡ i → ((p : ℕ) → number_in xs p ≤ p) → x ≤ suc i
    → (p : ℕ) → number_in (xs ++ x ∷ []) p ≤ p
small_more xs x i e small few p = elim (cases_lt i p) [
  | inl past ↦ elim (cases_eq p (suc i)) [
    | inl here ↦ let r : number_in (xs ++ x ∷ []) p ≡ x = ap (number_in (xs ++ x ∷ [])) here ∙ read_last xs x i e in omega arith
    | inr far ↦ let r : number_in (xs ++ x ∷ []) p ≡ 0 = read_past (xs ++ x ∷ []) p (omega (arith, one_more xs x)) in omega arith
  ]
  | inr upto ↦
      let r : number_in (xs ++ x ∷ []) p ≡ number_in xs p = read_before xs x i p e upto in
      let s : number_in xs p ≤ p = small p in omega arith
]
  where
    one_more : (ys : List ℕ) (y : ℕ) → length (ys ++ y ∷ []) ≡ suc (length ys)
    one_more [] y = refl
    one_more (z ∷ ys) y = ap suc (one_more ys y)

-- a first sharer is one as well where later numbers are added
sharer_kept : (fs : List FootprintParts) (xs : List ℕ) (x i j h : ℕ) → length xs ≡ i → j ≤ i → IsFirstSharer fs xs j h
    → IsFirstSharer fs (xs ++ x ∷ []) j h
sharer_kept fs xs x i j h e to f =
    let at_j : number_in (xs ++ x ∷ []) j ≡ number_in xs j = read_before xs x i j e to in
    let lt : h < j = f.earlier in
    let at_h : number_in (xs ++ x ∷ []) h ≡ number_in xs h = read_before xs x i h e (omega arith) in
    record {
      from_one = f.from_one;
      earlier = f.earlier;
      sharer = f.sharer;
      one_less = at_j ∙ f.one_less ∙ ap suc (sym at_h);
      first = λ g one less shared same.
          let at_g : number_in (xs ++ x ∷ []) g ≡ number_in xs g = read_before xs x i g e (omega arith) in
          f.first g one less shared (sym at_j ∙ same ∙ ap suc at_g);
    }

-- ---- the best of the next record's names

-- what the best mark of the next record's names is
record IsBest (fs : List FootprintParts) (numbers : List ℕ) (i : ℕ) (m : Mark) : Type 0 where
  all : (p : ℕ) → 1 ≤ p → p ≤ i → shares fs p (suc i) ≡ true → IsAtMost (record { place = p; wave = number_in numbers p }) m
  own : (m ≡ no_mark)
      ⊎ ((1 ≤ m.place) × (m.place ≤ i) × (shares fs m.place (suc i) ≡ true) × (m.wave ≡ number_in numbers m.place))

module _ (fs : List FootprintParts) (i : ℕ) (keys : BTreeMap Key Mark) (families : BTreeMap (List ℕ) Mark)
    (numbers before : List ℕ) (top : Mark) (s : IsScan fs i keys families numbers before top) where
  abbrev by_keys : Mark
  by_keys = best_of key_cmp keys (keys_at fs (suc i)) no_mark

  abbrev by_both : Mark
  by_both = best_of id_cmp families (families_at fs (suc i)) by_keys

  is_best : IsBest fs numbers i by_both
  is_best =
      let N = number_in numbers in
      let first = best_is_best key_cmp key_total key_exact keys (keys_at fs (suc i)) no_mark in
      let second = best_is_best id_cmp id_total id_exact families (families_at fs (suc i))
      (best_of key_cmp keys (keys_at fs (suc i)) no_mark) in
      record {
        all = λ p one to shared. elim (meet_in (footprint_in fs p) (footprint_in fs (suc i)) shared) [
          | inl w ↦ last-at_most (λ q. has_name key_cmp (keys_at fs q) w.0) N i p (get key_cmp keys w.0) by_both
              (s.last_keys w.0)
              (λ h j low lt high a b. s.above h j low lt high (meet_by_key (footprint_in fs h) (footprint_in fs j) w.0 a b))
              (λ m e. at_most_through m by_keys by_both (first.from_each w.0 m w.2 e) second.from_there) one to w.1
          | inr w ↦ last-at_most (λ q. has_name id_cmp (families_at fs q) w.0) N i p (get id_cmp families w.0) by_both
              (s.last_families w.0)
              (λ h j low lt high a b. s.above h j low lt high (meet_by_family (footprint_in fs h) (footprint_in fs j) w.0 a b))
              (λ m e. second.from_each w.0 m w.2 e) one to w.1
        ];
        own = elim second.own [
          | inl e ↦ elim first.own [
            | inl f ↦ inl (e ∙ f)
            | inr w ↦ inr (found_key w.0 (get key_cmp keys w.0) by_both (w.2 ∙ ap Some (sym e)) w.1 (s.last_keys w.0))
          ]
          | inr w ↦ inr (found_family w.0 (get id_cmp families w.0) by_both w.2 w.1 (s.last_families w.0))
        ];
      }
    where
      found_key : (k : Key) (o : Option Mark) (m : Mark) → o ≡ Some m → has_name key_cmp (keys_at fs (suc i)) k ≡ true
          → IsLastOf (λ q. has_name key_cmp (keys_at fs q) k) (number_in numbers) i o
          → (1 ≤ m.place) × (m.place ≤ i) × (shares fs m.place (suc i) ≡ true) × (m.wave ≡ number_in numbers m.place)
      found_key k None m e named last = absurd (cc e)
      found_key k (Some n) m e named last =
          let one : n ≡ m = cc in
          subst (λ u. (1 ≤ u.place) × (u.place ≤ i) × (shares fs u.place (suc i) ≡ true) × (u.wave ≡ number_in numbers u.place)) one
          (last.0, last.1, meet_by_key (footprint_in fs n.place) (footprint_in fs (suc i)) k last.2 named, last.3)

      found_family : (k : List ℕ) (o : Option Mark) (m : Mark) → o ≡ Some m
          → has_name id_cmp (families_at fs (suc i)) k ≡ true
          → IsLastOf (λ q. has_name id_cmp (families_at fs q) k) (number_in numbers) i o
          → (1 ≤ m.place) × (m.place ≤ i) × (shares fs m.place (suc i) ≡ true) × (m.wave ≡ number_in numbers m.place)
      found_family k None m e named last = absurd (cc e)
      found_family k (Some n) m e named last =
          let one : n ≡ m = cc in
          subst (λ u. (1 ≤ u.place) × (u.place ≤ i) × (shares fs u.place (suc i) ≡ true) × (u.wave ≡ number_in numbers u.place)) one
          (last.0, last.1, meet_by_family (footprint_in fs n.place) (footprint_in fs (suc i)) k last.2 named, last.3)

  -- the scan of one record more
  module _ (h : i < length fs) (w : ℕ) (mark new_top best : Mark) (new_keys : BTreeMap Key Mark)
      (new_families : BTreeMap (List ℕ) Mark) (best_is : best ≡ by_both) (w_is : w ≡ suc best.wave)
      (mark_is : mark ≡ record { place = suc i; wave = w })
      (top_is : new_top ≡ cond (nat_lt top.wave w) mark top)
      (keys_step : (k : Key)
      → get key_cmp new_keys k ≡ cond (has_name key_cmp (keys_at fs (suc i)) k) (Some mark) (get key_cmp keys k))
      (families_step : (k : List ℕ)
      → get id_cmp new_families k ≡ cond (has_name id_cmp (families_at fs (suc i)) k) (Some mark) (get id_cmp families k)) where
    is_best_here : IsBest fs numbers i best
    is_best_here = subst (λ m. IsBest fs numbers i m) (sym best_is) is_best

    same_before : (p : ℕ) → p ≤ i → number_in (numbers ++ w ∷ []) p ≡ number_in numbers p
    same_before p to = read_before numbers w i p s.as_many to

    own_number : number_in (numbers ++ w ∷ []) (suc i) ≡ w
    own_number = read_last numbers w i s.as_many

    mark_of : mark ≡ record { place = suc i; wave = number_in (numbers ++ w ∷ []) (suc i) }
    mark_of = mark_is ∙ ap (λ n. record { place = suc i; wave = n }) (sym own_number)

    wave_small : w ≤ suc i
    wave_small = elim is_best_here.own [
      | inl none ↦ let e : best.wave ≡ 0 = ap (λ m. m.wave) none in omega arith
      | inr own ↦
          let e : best.wave ≡ number_in numbers best.place = own.3 in
          let r : number_in numbers best.place ≤ best.place = s.small best.place in
          let to : best.place ≤ i = own.1 in omega arith
    ]

    above_more : (g j : ℕ) → 1 ≤ g → g < j → j ≤ suc i → shares fs g j ≡ true
        → number_in (numbers ++ w ∷ []) g < number_in (numbers ++ w ∷ []) j
    above_more g j one lt to shared = elim (cases_eq j (suc i)) [
      | inl here ↦
          let a : number_in (numbers ++ w ∷ []) g ≡ number_in numbers g = same_before g (omega arith) in
          let b : number_in (numbers ++ w ∷ []) j ≡ w = ap (number_in (numbers ++ w ∷ [])) here ∙ own_number in
          elim (is_best_here.all g one (omega arith) (ap (shares fs g) (sym here) ∙ shared)) [
            | inl less ↦ omega arith
            | inr same ↦ let e : number_in numbers g ≡ best.wave = same.0 in omega arith
          ]
      | inr apart ↦
          let a : number_in (numbers ++ w ∷ []) g ≡ number_in numbers g = same_before g (omega arith) in
          let b : number_in (numbers ++ w ∷ []) j ≡ number_in numbers j = same_before j (omega arith) in
          let r : number_in numbers g < number_in numbers j = s.above g j one lt (omega arith) shared in
          omega arith
    ]

    reached_here : ((number_in (numbers ++ w ∷ []) (suc i) ≡ 1) × (best.place ≡ 0))
        ⊎ IsFirstSharer fs (numbers ++ w ∷ []) (suc i) best.place
    reached_here = elim is_best_here.own [
      | inl none ↦ inl (own_number ∙ w_is ∙ ap (λ m. suc m.wave) none, ap (λ m. m.place) none)
      | inr own ↦ inr record {
        from_one = own.0;
        earlier = (let to : best.place ≤ i = own.1 in omega arith);
        sharer = own.2;
        one_less = own_number ∙ w_is ∙ ap suc (own.3 ∙ sym (same_before best.place own.1));
        first = λ g one less shared same.
            let to : best.place ≤ i = own.1 in
            let a : number_in (numbers ++ w ∷ []) g ≡ number_in numbers g = same_before g (omega arith) in
            let e : w ≡ suc (number_in numbers g) = sym own_number ∙ same ∙ ap suc a in
            elim (is_best_here.all g one (omega arith) shared) [
              | inl below ↦ absurd (omega arith)
              | inr at ↦ let late : best.place ≤ g = at.1 in absurd (omega arith)
            ];
      }
    ]

    reached_more : (j : ℕ) → 1 ≤ j → j ≤ suc i
        → ((number_in (numbers ++ w ∷ []) j ≡ 1) × (number_in (before ++ best.place ∷ []) j ≡ 0))
        ⊎ IsFirstSharer fs (numbers ++ w ∷ []) j (number_in (before ++ best.place ∷ []) j)
    reached_more j one to = elim (cases_eq j (suc i)) [
      | inl here ↦
          let b : number_in (before ++ best.place ∷ []) (suc i) ≡ best.place = read_last before best.place i s.as_many_before in
          subst (λ x. ((number_in (numbers ++ w ∷ []) x ≡ 1) × (number_in (before ++ best.place ∷ []) x ≡ 0))
          ⊎ IsFirstSharer fs (numbers ++ w ∷ []) x (number_in (before ++ best.place ∷ []) x)) (sym here)
          (subst (λ y. ((number_in (numbers ++ w ∷ []) (suc i) ≡ 1) × (y ≡ 0))
          ⊎ IsFirstSharer fs (numbers ++ w ∷ []) (suc i) y) (sym b) reached_here)
      | inr apart ↦
          let b : number_in (before ++ best.place ∷ []) j ≡ number_in before j =
          read_before before best.place i j s.as_many_before (omega arith) in
          elim (s.reached j one (omega arith)) [
            | inl alone ↦ inl (same_before j (omega arith) ∙ alone.0, b ∙ alone.1)
            | inr sharer ↦ inr (subst (λ y. IsFirstSharer fs (numbers ++ w ∷ []) j y) (sym b)
                (sharer_kept fs numbers w i j (number_in before j) s.as_many (omega arith) sharer))
          ]
    ]

    one_more : (ys : List ℕ) (y n : ℕ) → length ys ≡ n → length (ys ++ y ∷ []) ≡ suc n
    one_more [] y n e = ap suc e
    one_more (z ∷ ys) y zero e = absurd (omega arith)
    one_more (z ∷ ys) y (suc n) e = ap suc (one_more ys y n (omega arith))

    number_cases : (p : ℕ) → (p ≤ i × (number_in (numbers ++ w ∷ []) p ≡ number_in numbers p))
        ⊎ ((p ≡ suc i) × (number_in (numbers ++ w ∷ []) p ≡ w)) ⊎ (number_in (numbers ++ w ∷ []) p ≡ 0)
    number_cases p = elim (cases_lt i p) [
      | inl past ↦ elim (cases_eq p (suc i)) [
        | inl here ↦ inr (inl (here, ap (number_in (numbers ++ w ∷ [])) here ∙ own_number))
        | inr far ↦ inr (inr (read_past (numbers ++ w ∷ []) p (omega (arith, one_more numbers w i s.as_many))))
      ]
      | inr upto ↦ inl (upto, same_before p upto)
    ]

    highest_new : top.wave < w → ((p : ℕ) → number_in numbers p ≤ top.wave)
        → IsFirstHighest (numbers ++ w ∷ []) w (suc i)
    highest_new less most = record {
      from_one = omega arith;
      there = omega (arith, one_more numbers w i s.as_many);
      own = own_number;
      highest = λ p. elim (number_cases p) [
        | inl c ↦ let e : number_in (numbers ++ w ∷ []) p ≡ number_in numbers p = c.1 in
            let m : number_in numbers p ≤ top.wave = most p in omega arith
        | inr d ↦ elim d [
          | inl c ↦ let e : number_in (numbers ++ w ∷ []) p ≡ w = c.1 in omega arith
          | inr e ↦ omega arith
        ]
      ];
      first = λ p lt.
          let e : number_in (numbers ++ w ∷ []) p ≡ number_in numbers p = same_before p (omega arith) in
          let m : number_in numbers p ≤ top.wave = most p in omega arith;
    }

    highest_old : w ≤ top.wave → IsFirstHighest numbers top.wave top.place
        → IsFirstHighest (numbers ++ w ∷ []) top.wave top.place
    highest_old most f =
        let to : top.place ≤ length numbers = f.there in
        let long : length numbers ≡ i = s.as_many in
        record {
          from_one = f.from_one;
          there = omega (arith, one_more numbers w i s.as_many);
          own = same_before top.place (omega arith) ∙ f.own;
          highest = λ p. elim (number_cases p) [
            | inl c ↦ let e : number_in (numbers ++ w ∷ []) p ≡ number_in numbers p = c.1 in
                let m : number_in numbers p ≤ top.wave = f.highest p in omega arith
            | inr d ↦ elim d [
              | inl c ↦ let e : number_in (numbers ++ w ∷ []) p ≡ w = c.1 in omega arith
              | inr e ↦ omega arith
            ]
          ];
          first = λ p lt.
              let e : number_in (numbers ++ w ∷ []) p ≡ number_in numbers p = same_before p (omega arith) in
              let m : number_in numbers p < top.wave = f.first p lt in omega arith;
        }

    none_yet : i ≡ 0 → (p : ℕ) → number_in numbers p ≤ 0
    none_yet e zero = omega arith
    none_yet e (suc p) = let r : number_in numbers (suc p) ≡ 0 = read_past numbers (suc p) (omega (arith, s.as_many)) in omega arith

    highest_more : IsFirstHighest (numbers ++ w ∷ []) new_top.wave new_top.place
    highest_more = elim (cases_Bool (nat_lt top.wave w)) [
      | inl less ↦
          let is : new_top ≡ record { place = suc i; wave = w } = top_is ∙ rw less mark_is in
          subst (λ m. IsFirstHighest (numbers ++ w ∷ []) m.wave m.place) (sym is) (highest_new (ltb-true top.wave w less)
          (elim s.highest [
            | inl none ↦ λ p. let t : top.wave ≡ 0 = ap (λ m. m.wave) none.1 in
                let r : number_in numbers p ≤ 0 = none_yet none.0 p in omega arith
            | inr f ↦ f.highest
          ]))
      | inr most ↦
          let is : new_top ≡ top = top_is ∙ rw most refl in
          let low : w ≤ top.wave = ltb-false top.wave w most in
          subst (λ m. IsFirstHighest (numbers ++ w ∷ []) m.wave m.place) (sym is) (elim s.highest [
            | inl none ↦ absurd (let t : top.wave ≡ 0 = ap (λ m. m.wave) none.1 in omega arith)
            | inr f ↦ highest_old low f
          ])
    ]

    pub scan_more : IsScan fs (suc i) new_keys new_families (numbers ++ w ∷ []) (before ++ best.place ∷ []) new_top
    scan_more = record {
      within = omega arith;
      as_many = one_more numbers w i s.as_many;
      as_many_before = one_more before best.place i s.as_many_before;
      last_keys = λ k. last-more (λ q. has_name key_cmp (keys_at fs q) k) (number_in numbers) (number_in (numbers ++ w ∷ []))
          i mark (get key_cmp keys k) (get key_cmp new_keys k) same_before mark_of (keys_step k) (s.last_keys k);
      last_families = λ k. last-more (λ q. has_name id_cmp (families_at fs q) k) (number_in numbers)
          (number_in (numbers ++ w ∷ [])) i mark (get id_cmp families k) (get id_cmp new_families k) same_before mark_of
          (families_step k) (s.last_families k);
      small = small_more numbers w i s.as_many s.small wave_small;
      above = above_more;
      reached = reached_more;
      highest = inr highest_more;
    }

    -- the same, as the loop has it
    pub scan_step : (n : ℕ) (numbers' before' : List ℕ) → n ≡ suc i → numbers' ≡ numbers ++ w ∷ []
        → before' ≡ before ++ best.place ∷ [] → IsScan fs n new_keys new_families numbers' before' new_top
    scan_step n numbers' before' e f g = rw (e, f, g) scan_more

  -- the footprint of the next record
  next_footprint : (F : FootprintParts) → i < length fs → F ≡ get_or fs i F → F ≡ footprint_in fs (suc i)
  next_footprint F h item = item ∙ get_or_default fs i F nothing h

  pub next_keys : (F : FootprintParts) (ks : List Key) → i < length fs → F ≡ get_or fs i F → ks ≡ F.keys
      → ks ≡ keys_at fs (suc i)
  next_keys F ks h item is = is ∙ ap (λ G. G.keys) (next_footprint F h item)

  pub next_families : (F : FootprintParts) (ls : List (List ℕ)) → i < length fs → F ≡ get_or fs i F → ls ≡ F.families
      → ls ≡ families_at fs (suc i)
  next_families F ls h item is = is ∙ ap (λ G. G.families) (next_footprint F h item)

  pub best_found : (ks : List Key) (ls : List (List ℕ)) (first best : Mark) → ks ≡ keys_at fs (suc i)
      → ls ≡ families_at fs (suc i) → first ≡ best_of key_cmp keys ks no_mark → best ≡ best_of id_cmp families ls first
      → best ≡ by_both
  best_found ks ls first best ks_is ls_is first_is best_is =
      best_is ∙ ap (λ xs. best_of id_cmp families xs first) ls_is
      ∙ ap (best_of id_cmp families (families_at fs (suc i))) (first_is ∙ ap (λ xs. best_of key_cmp keys xs no_mark) ks_is)

  pub best_small : (best : Mark) → best ≡ by_both → best.wave ≤ i
  best_small best is = elim (is_best.own) [
    | inl none ↦ let e : best.wave ≡ 0 = ap (λ m. m.wave) (is ∙ none) in omega arith
    | inr own ↦
        let e : best.wave ≡ number_in numbers by_both.place = ap (λ m. m.wave) is ∙ own.3 in
        let r : number_in numbers by_both.place ≤ by_both.place = s.small by_both.place in
        let to : by_both.place ≤ i = own.1 in omega arith
  ]

-- no record yet
none_read : (p : ℕ) → number_in [] p ≡ 0
none_read zero = refl
none_read (suc p) = refl

pub scan_begins : (fs : List FootprintParts) (keys : BTreeMap Key Mark) (families : BTreeMap (List ℕ) Mark)
    (numbers before : List ℕ) → numbers ≡ [] → before ≡ [] → ((k : Key) → get key_cmp keys k ≡ None)
    → ((k : List ℕ) → get id_cmp families k ≡ None) → IsScan fs 0 keys families numbers before no_mark
scan_begins fs keys families numbers before e f no_key no_family = rw (e, f) record {
  within = omega arith;
  as_many = refl;
  as_many_before = refl;
  last_keys = λ k. subst (λ o. IsLastOf (λ q. has_name key_cmp (keys_at fs q) k) (number_in []) 0 o) (sym (no_key k))
      (λ p one to. absurd (omega arith));
  last_families = λ k. subst (λ o. IsLastOf (λ q. has_name id_cmp (families_at fs q) k) (number_in []) 0 o)
      (sym (no_family k)) (λ p one to. absurd (omega arith));
  small = λ p. let r : number_in [] p ≡ 0 = none_read p in omega arith;
  above = λ h j one lt to shared. absurd (omega arith);
  reached = λ j one to. absurd (omega arith);
  highest = inl (refl, refl);
}

-- ---- the whole scan

pub scanned_waves : (fs : List FootprintParts) (i : ℕ) (keys : BTreeMap Key Mark) (families : BTreeMap (List ℕ) Mark)
    (numbers before : List ℕ) (top : Mark) → IsScan fs i keys families numbers before top → length fs ≤ i → AreWaves fs numbers
scanned_waves fs i keys families numbers before top s all = record {
  one_each = (let a : length numbers ≡ i = s.as_many in let b : i ≤ length fs = s.within in omega arith);
  above = λ g j one lt to shared. s.above g j one lt (omega arith) shared;
  reached = λ j one to. elim (s.reached j one (omega arith)) [
    | inl alone ↦ inl alone.0
    | inr f ↦ inr (number_in before j, f.from_one, f.earlier, f.sharer, f.one_less)
  ];
}

module _ (fs : List FootprintParts) (i : ℕ) (keys : BTreeMap Key Mark) (families : BTreeMap (List ℕ) Mark)
    (numbers before : List ℕ) (top : Mark) (s : IsScan fs i keys families numbers before top) (all : length fs ≤ i) where
  -- before the first member of the chain is put
  pub down_begins : (chain : List ℕ) → length chain ≡ top.wave → IsDown fs numbers top top.wave top.place chain
  down_begins chain many =
      let within : i ≤ length fs = s.within in
      let long : length numbers ≡ i = s.as_many in
      record {
        as_many = many;
        few = omega arith;
        next = λ some. elim s.highest [
          | inl none ↦ absurd (let t : top.wave ≡ 0 = ap (λ m. m.wave) none.1 in omega arith)
          | inr f ↦ (f.from_one, (let to : top.place ≤ length numbers = f.there in omega arith), f.own)
        ];
        first = λ e. refl;
        last = λ lt. absurd (omega arith);
        waves = λ k low lt. absurd (omega arith);
        steps = λ k low lt. absurd (omega arith);
        link = λ some lt. absurd (omega arith);
      }

  -- one member more
  pub down_more : (n place next : ℕ) (chain : List ℕ) → IsDown fs numbers top (suc n) place chain
      → next ≡ number_in before place → IsDown fs numbers top n next (set chain n place)
  down_more n place next chain d next_is =
      let within : i ≤ length fs = s.within in
      let many : length chain ≡ top.wave = d.as_many in
      let few : suc n ≤ top.wave = d.few in
      let here = d.next (omega arith) in
      let own : member_at (set chain n place) n ≡ place = get_or-set_same chain n place 0 (omega arith) in
      let other : (k : ℕ) → n < k → member_at (set chain n place) k ≡ member_at chain k =
      λ k lt. get_or-set_other chain n k place 0 (omega arith) in
      let sharer : 1 ≤ n → IsFirstSharer fs numbers place next = λ some.
      elim (s.reached place here.0 (let to : place ≤ length fs = here.1 in omega arith)) [
        | inl alone ↦ absurd (let a : number_in numbers place ≡ suc n = here.2 in
            let b : number_in numbers place ≡ 1 = alone.0 in omega arith)
        | inr f ↦ subst (λ x. IsFirstSharer fs numbers place x) (sym next_is) f
      ] in
      record {
        as_many = length-set chain n place ∙ many;
        few = omega arith;
        next = λ some.
            let f = sharer some in
            let a : number_in numbers place ≡ suc n = here.2 in
            let b : number_in numbers place ≡ suc (number_in numbers next) = f.one_less in
            let lt : next < place = f.earlier in
            let to : place ≤ length fs = here.1 in
            (f.from_one, omega arith, omega arith);
        first = λ e. absurd (omega arith);
        last = λ lt. elim (cases_eq (suc n) top.wave) [
          | inl e ↦
              let at : top.wave - 1 ≡ n = omega arith in
              ap (member_at (set chain n place)) at ∙ own ∙ d.first e
          | inr apart ↦ other (top.wave - 1) (omega arith) ∙ d.last (omega arith)
        ];
        waves = λ k low lt. elim (cases_eq k n) [
          | inl e ↦ ap (λ x. number_in numbers (member_at (set chain n place) x)) e ∙ ap (number_in numbers) own ∙ here.2
              ∙ ap suc (sym e)
          | inr apart ↦ ap (number_in numbers) (other k (omega arith)) ∙ d.waves k (omega arith) lt
        ];
        steps = λ k low lt. elim (cases_eq k n) [
          | inl e ↦ subst (λ x. IsFirstSharer fs numbers (member_at (set chain n place) (suc x)) (member_at (set chain n place) x))
              (sym e) (subst (λ x. IsFirstSharer fs numbers x (member_at (set chain n place) n)) (sym (other (suc n) (omega arith)))
              (subst (λ x. IsFirstSharer fs numbers (member_at chain (suc n)) x) (sym own) (d.link (omega arith) (omega arith))))
          | inr apart ↦ subst (λ x. IsFirstSharer fs numbers x (member_at (set chain n place) k))
              (sym (other (suc k) (omega arith))) (subst (λ x. IsFirstSharer fs numbers (member_at chain (suc k)) x)
              (sym (other k (omega arith))) (d.steps k (omega arith) lt))
        ];
        link = λ some lt. subst (λ x. IsFirstSharer fs numbers x next) (sym own) (sharer some);
      }

  -- the same, as the loop has it
  pub down_step : (left place next : ℕ) (chain : List ℕ) → 0 < left → IsDown fs numbers top left place chain
      → (1 ≤ place → next ≡ get_or before (place - 1) 0) → IsDown fs numbers top (left - 1) next (set chain (left - 1) place)
  down_step left place next chain some d next_is =
      let e : left ≡ suc (left - 1) = omega arith in
      let here = d.next (omega arith) in
      let at : place ≡ suc (place - 1) = let one : 1 ≤ place = here.0 in omega arith in
      down_more (left - 1) place next chain (subst (λ n. IsDown fs numbers top n place chain) e d)
      (next_is here.0 ∙ sym (ap (number_in before) at))

  -- the whole chain
  pub down_ends : (place : ℕ) (chain : List ℕ) → IsDown fs numbers top 0 place chain → IsChain fs numbers top.wave chain
  down_ends place chain d =
      let within : i ≤ length fs = s.within in
      record {
        whole = d.as_many;
        ends = λ some. elim s.highest [
          | inl none ↦ absurd (let e : i ≡ 0 = none.0 in omega arith)
          | inr f ↦
              let has : 1 ≤ top.wave = at_least f in
              subst (λ x. IsFirstHighest numbers top.wave x) (sym (d.last (omega arith))) f
        ];
        waves = λ k lt. d.waves k (omega arith) lt;
        steps = λ k lt. d.steps k (omega arith) lt;
        none = λ e. elim s.highest [
          | inl none ↦ ap (λ m. m.wave) none.1
          | inr f ↦ absurd (let a : 1 ≤ top.place = f.from_one in let b : top.place ≤ length numbers = f.there in
              let c : length numbers ≡ i = s.as_many in omega arith)
        ];
      }
    where
      at_least : IsFirstHighest numbers top.wave top.place → 1 ≤ top.wave
      at_least f =
          let a : 1 ≤ top.place = f.from_one in
          let b : top.place ≤ length numbers = f.there in
          let c : length numbers ≡ i = s.as_many in
          let own : number_in numbers top.place ≡ top.wave = f.own in
          elim (s.reached top.place f.from_one (omega arith)) [
            | inl alone ↦ let e : number_in numbers top.place ≡ 1 = alone.0 in omega arith
            | inr g ↦ let e : number_in numbers top.place ≡ suc (number_in numbers (number_in before top.place)) = g.one_less in
                omega arith
          ]
