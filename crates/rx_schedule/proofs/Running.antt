-- What the columns of the queues keep: the next place is ready where any is, and what a released place changes.
use Rattle.std.proofs.Common.{◌≡◌, ◌≢◌, ℕ, zero, suc, ◌+◌, ◌-◌, ◌<◌, ◌≤◌, true, false, ◌==◌, List, [], ◌∷◌, ◌++◌, length, get_or}
use Rattle.std.proofs.Common.{set, take, drop, reverse, Option, Some, None, refl, ap, sym, ◌∙◌, inl, inr, arith, subst}
use Rattle.std.specs.Prelude.{◌⊎◌, IsSome, nat_lt}
use Rattle.std.specs.List.{AllByRecursion, IsDistinct, list_any}
use Rattle.std.proofs.lemmas.Bool.{cases_Bool, cases_eq, cases_lt, eqb-true, ltb-false, ltb-true}
use Rattle.std.proofs.lemmas.List.{length-append, length-set, take-append-le, take_all, take_at, take_more}
use Rattle.std.proofs.lemmas.Map.Steps.{length-le_from_distinct_below}
use Rattle.rx_books_parcel.specs.Footprints.{FootprintParts}
use Rattle.rx_schedule.specs.declared.links.Link.{Link}
use Rattle.rx_schedule.specs.Links.{AreCounted, AreFree, AreLinks, AreRows, linked, number_at, row_of, times, total}
use Rattle.rx_schedule.specs.Machine.{Was}
use Rattle.rx_schedule.specs.Queues.{AreQueues, IsReadyIfAny, IsReady, IsRunning, QueueParts, next_in}
use Rattle.rx_schedule.specs.Waves.{shares}
use Rattle.rx_schedule.proofs.Times.{Pairs-from_times, Was-from_times, number-other, number-same, one_if, one_other}
use Rattle.rx_schedule.proofs.Times.{one_same, one_small, row-other, row-same, times-cons, times-from_Was, times-push}
use Rattle.rx_schedule.proofs.Times.{times-reverse, times-take, total-none, total-row, total-set}

-- ---- a list of different places leaves room for one that it doesn't have

among-from_any : (q : ℕ) (xs : List ℕ) → list_any (λ x. q == x) xs ≡ true → 1 ≤ times q xs
among-from_any q [] h = absurd (cc h)
among-from_any q (x ∷ xs) h = elim (cases_Bool (q == x)) [
  | inl t ↦
      let e : q ≡ x = eqb-true q x t in
      let c : times q (x ∷ xs) ≡ one_if x q + times q xs = times-cons q x xs in
      let o : one_if x q ≡ 1 = ap (λ y. one_if y q) (sym e) ∙ one_same q in omega arith
  | inr f ↦
      let r : 1 ≤ times q xs = among-from_any q xs (rw f at h) in
      let c : times q (x ∷ xs) ≡ one_if x q + times q xs = times-cons q x xs in omega arith
]

apart : (x : ℕ) (ys : List ℕ) → times x ys ≡ 0 → AllByRecursion (λ y. (x == y) ≡ false) ys
apart x [] none = tt
apart x (y ∷ ys) none =
    let c : times x (y ∷ ys) ≡ one_if y x + times x ys = times-cons x y ys in (
      elim (cases_Bool (x == y)) [
        | inl t ↦
            let e : x ≡ y = eqb-true x y t in
            let o : one_if y x ≡ 1 = ap (λ z. one_if z x) (sym e) ∙ one_same x in absurd (omega arith)
        | inr f ↦ f
      ],
      apart x ys (omega arith),
    )

distinct : (xs : List ℕ) → ((q : ℕ) → times q xs ≤ 1) → IsDistinct (λ x y. x == y) xs
unfolding IsDistinct
distinct [] once = tt
distinct (x ∷ xs) once = (
  (apart x xs (let c : times x (x ∷ xs) ≡ one_if x x + times x xs = times-cons x x xs in
      let o : one_if x x ≡ 1 = one_same x in let m : times x (x ∷ xs) ≤ 1 = once x in omega arith)),
  distinct xs (λ q. let c : times q (x ∷ xs) ≡ one_if x q + times q xs = times-cons q x xs in
      let m : times q (x ∷ xs) ≤ 1 = once q in omega arith),
)

pub leaves_room : (n : ℕ) (xs : List ℕ) (q : ℕ) → ((x : ℕ) → times x xs ≤ 1)
    → ((x : ℕ) → 1 ≤ times x xs → (1 ≤ x) × (x ≤ n)) → 1 ≤ q → q ≤ n → times q xs ≡ 0 → length xs < n
leaves_room n xs q once there one to none =
    let all : List ℕ = 0 ∷ q ∷ xs in
    let many : (x : ℕ) → times x all ≡ one_if 0 x + (one_if q x + times x xs) =
    λ x. times-cons x 0 (q ∷ xs) ∙ ap (λ k. one_if 0 x + k) (times-cons x q xs) in
    let bounded : length all ≤ n + 1 = length-le_from_distinct_below all (n + 1)
    (distinct all (λ x. single x (many x)))
    (λ x h. below x (among-from_any x all h) (many x)) in
    omega arith
  where
    zero_out : times 0 xs ≡ 0
    zero_out = elim (cases_lt 0 (times 0 xs)) [
      | inl some ↦ absurd (let w = there 0 (omega arith) in let f : 1 ≤ 0 = w.0 in omega arith)
      | inr no_more ↦ omega arith
    ]

    single : (x : ℕ) → times x (0 ∷ q ∷ xs) ≡ one_if 0 x + (one_if q x + times x xs) → times x (0 ∷ q ∷ xs) ≤ 1
    single x e = elim (cases_eq 0 x) [
      | inl zero_is ↦
          let a : one_if 0 x ≤ 1 = one_small 0 x in
          let b : one_if q x ≡ 0 = one_other q x (λ f. let g : q ≡ 0 = f ∙ sym zero_is in absurd (omega arith)) in
          let c : times x xs ≡ 0 = ap (λ y. times y xs) (sym zero_is) ∙ zero_out in omega arith
      | inr no_zero ↦
          let a : one_if 0 x ≡ 0 = one_other 0 x no_zero in
          elim (cases_eq q x) [
            | inl here ↦
                let b : one_if q x ≤ 1 = one_small q x in
                let c : times x xs ≡ 0 = ap (λ y. times y xs) (sym here) ∙ none in omega arith
            | inr other ↦
                let b : one_if q x ≡ 0 = one_other q x other in
                let c : times x xs ≤ 1 = once x in omega arith
          ]
    ]

    below : (x : ℕ) → 1 ≤ times x (0 ∷ q ∷ xs) → times x (0 ∷ q ∷ xs) ≡ one_if 0 x + (one_if q x + times x xs) → x < n + 1
    below x some e = elim (cases_eq 0 x) [
      | inl zero_is ↦ omega arith
      | inr no_zero ↦
          let a : one_if 0 x ≡ 0 = one_other 0 x no_zero in
          elim (cases_eq q x) [
            | inl here ↦ omega arith
            | inr other ↦
                let b : one_if q x ≡ 0 = one_other q x other in
                let w = there x (omega arith) in
                let f : x ≤ n = w.1 in omega arith
          ]
    ]

-- ---- a link is taken away

module _ (n : ℕ) (rows : List (List ℕ)) (waiting order : List ℕ) (c : AreCounted n rows waiting) (f : AreFree n waiting order)
    (p q : ℕ) (rest : List ℕ) (one : 1 ≤ p) (to : p ≤ n) (popped : row_of rows p ≡ rest ++ q ∷ []) where
  taken_times : (x : ℕ) → times x (row_of rows p) ≡ times x rest + one_if q x
  taken_times x = ap (times x) popped ∙ times-push x rest q

  taken_has : 1 ≤ times q (row_of rows p)
  taken_has = let e : times q (row_of rows p) ≡ times q rest + one_if q q = taken_times q in
      let o : one_if q q ≡ 1 = one_same q in omega arith

  pub taken_there : (1 ≤ q) × (q ≤ n)
  taken_there = c.within p q one to taken_has

  pub taken_waits : 1 ≤ number_at waiting q
  taken_waits =
      let w = taken_there in
      let e : number_at waiting q ≡ total q rows = c.counted q w.0 w.1 in
      let a : times q (row_of rows p) ≤ total q rows = total-row q rows p in
      let b : 1 ≤ times q (row_of rows p) = taken_has in omega arith

  left_total : (x : ℕ) → total x (set rows (p - 1) rest) + one_if q x ≡ total x rows
  left_total x =
      let many : length rows ≡ n = c.as_many_rows in
      let e : total x (set rows (p - 1) rest) + times x (row_of rows p) ≡ total x rows + times x rest =
      total-set x rows p rest (omega arith) in
      let a : times x (row_of rows p) ≡ times x rest + one_if q x = taken_times x in
      omega arith

  pub taken_counted : (now : ℕ) → suc now ≡ number_at waiting q
      → AreCounted n (set rows (p - 1) rest) (set waiting (q - 1) now)
  taken_counted now is =
      let w = taken_there in
      let from : 1 ≤ q = w.0 in
      let up : q ≤ n = w.1 in
      let long : length waiting ≡ n = c.as_many in
      record {
        as_many_rows = length-set rows (p - 1) rest ∙ c.as_many_rows;
        as_many = length-set waiting (q - 1) now ∙ long;
        counted = λ x low high.
            let e : total x (set rows (p - 1) rest) + one_if q x ≡ total x rows = left_total x in
            let d : number_at waiting x ≡ total x rows = c.counted x low high in
            elim (cases_eq x q) [
              | inl here ↦
                  let a : number_at (set waiting (q - 1) now) x ≡ now =
                  ap (number_at (set waiting (q - 1) now)) here ∙ number-same waiting q now from (omega arith) in
                  let o : one_if q x ≡ 1 = ap (one_if q) here ∙ one_same q in
                  let g : number_at waiting x ≡ suc now = ap (number_at waiting) here ∙ sym is in omega arith
              | inr other ↦
                  let a : number_at (set waiting (q - 1) now) x ≡ number_at waiting x =
                  number-other waiting q x now from low other in
                  let o : one_if q x ≡ 0 = one_other q x (λ g. other (sym g)) in omega arith
            ];
        within = λ r x low high has. elim (cases_eq r p) [
          | inl here ↦
              let g : row_of (set rows (p - 1) rest) r ≡ rest =
              ap (row_of (set rows (p - 1) rest)) here ∙ row-same rows p rest one
              (let m : length rows ≡ n = c.as_many_rows in omega arith) in
              let h : 1 ≤ times x rest = subst (λ ys. 1 ≤ times x ys) g has in
              let e : times x (row_of rows p) ≡ times x rest + one_if q x = taken_times x in
              c.within p x one to (omega arith)
          | inr other ↦
              let g : row_of (set rows (p - 1) rest) r ≡ row_of rows r = row-other rows p r rest one low other in
              c.within r x low high (subst (λ ys. 1 ≤ times x ys) g has)
        ];
      }

  -- the place is free, or waits still
  pub taken_free : (now : ℕ) (order' : List ℕ) → suc now ≡ number_at waiting q
      → ((now ≡ 0) × (order' ≡ order ++ q ∷ [])) ⊎ ((now ≢ 0) × (order' ≡ order))
      → AreFree n (set waiting (q - 1) now) order'
  taken_free now order' is (inl (none, e)) =
      let w = taken_there in
      let from : 1 ≤ q = w.0 in
      let up : q ≤ n = w.1 in
      let long : length waiting ≡ n = c.as_many in
      let here_is : number_at (set waiting (q - 1) now) q ≡ now = number-same waiting q now from (omega arith) in
      let out : times q order ≡ 0 = elim (cases_lt 0 (times q order)) [
        | inl some ↦ absurd (let t = f.there q (omega arith) in let z : number_at waiting q ≡ 0 = t.2 in omega arith)
        | inr no_more ↦ omega arith
      ] in
      let many : (x : ℕ) → times x order' ≡ times x order + one_if q x = λ x. ap (times x) e ∙ times-push x order q in
      record {
        all = λ x low high free. elim (cases_eq x q) [
          | inl here ↦
              let o : one_if q x ≡ 1 = ap (one_if q) here ∙ one_same q in
              let m : times x order' ≡ times x order + one_if q x = many x in omega arith
          | inr other ↦
              let g : number_at (set waiting (q - 1) now) x ≡ number_at waiting x = number-other waiting q x now from low other in
              let h : 1 ≤ times x order = f.all x low high (sym g ∙ free) in
              let m : times x order' ≡ times x order + one_if q x = many x in omega arith
        ];
        there = λ x has. elim (cases_eq x q) [
          | inl here ↦ subst (λ y. (1 ≤ y) × (y ≤ n) × (number_at (set waiting (q - 1) now) y ≡ 0)) (sym here)
              (from, up, here_is ∙ none)
          | inr other ↦
              let o : one_if q x ≡ 0 = one_other q x (λ g. other (sym g)) in
              let m : times x order' ≡ times x order + one_if q x = many x in
              let t = f.there x (omega arith) in
              (t.0, t.1, number-other waiting q x now from t.0 other ∙ t.2)
        ];
        once = λ x. elim (cases_eq x q) [
          | inl here ↦
              let o : one_if q x ≤ 1 = one_small q x in
              let z : times x order ≡ 0 = ap (λ y. times y order) here ∙ out in
              let m : times x order' ≡ times x order + one_if q x = many x in omega arith
          | inr other ↦
              let o : one_if q x ≡ 0 = one_other q x (λ g. other (sym g)) in
              let h : times x order ≤ 1 = f.once x in
              let m : times x order' ≡ times x order + one_if q x = many x in omega arith
        ];
      }
  taken_free now order' is (inr (some, e)) =
      let w = taken_there in
      let from : 1 ≤ q = w.0 in
      let up : q ≤ n = w.1 in
      let long : length waiting ≡ n = c.as_many in
      let here_is : number_at (set waiting (q - 1) now) q ≡ now = number-same waiting q now from (omega arith) in
      record {
        all = λ x low high free. elim (cases_eq x q) [
          | inl here ↦ absurd (some (sym here_is ∙ ap (number_at (set waiting (q - 1) now)) (sym here) ∙ free))
          | inr other ↦
              let g : number_at (set waiting (q - 1) now) x ≡ number_at waiting x = number-other waiting q x now from low other in
              subst (λ ys. 1 ≤ times x ys) (sym e) (f.all x low high (sym g ∙ free))
        ];
        there = λ x has.
            let t = f.there x (subst (λ ys. 1 ≤ times x ys) e has) in
            elim (cases_eq x q) [
              | inl here ↦ absurd (let z : number_at waiting q ≡ 0 = ap (number_at waiting) (sym here) ∙ t.2 in omega arith)
              | inr other ↦ (t.0, t.1, number-other waiting q x now from t.0 other ∙ t.2)
            ];
        once = λ x. subst (λ ys. times x ys ≤ 1) (sym e) (f.once x);
      }

  -- there is room for it
  pub taken_room : length order < n
  taken_room =
      let w = taken_there in
      leaves_room n order q f.once (λ x h. let t = f.there x h in (t.0, t.1)) w.0 w.1 (elim (cases_lt 0 (times q order)) [
        | inl some ↦ absurd (let t = f.there q (omega arith) in let z : number_at waiting q ≡ 0 = t.2 in
            let y : 1 ≤ number_at waiting q = taken_waits in omega arith)
        | inr no_more ↦ omega arith
      ])

-- ---- the next place

module _ (fs : List FootprintParts) (rows : List (List ℕ)) (waiting order : List ℕ) (handed : ℕ) (passed : List ℕ)
    (room room_passed : ℕ) (r : IsRunning fs rows waiting order handed passed room room_passed) where
  -- the queues' parts, whatever is next
  abbrev parts : Option ℕ → QueueParts
  parts next = record {
    footprints = fs;
    next = next;
    handed = reverse (take handed order);
    passed = reverse passed;
  }

  pub passed_free : (i : ℕ) → 1 ≤ times i passed → (1 ≤ i) × (i ≤ length fs) × (number_at waiting i ≡ 0)
  passed_free i was =
      let a : 1 ≤ times i (take handed order) = r.after i was in
      let b : times i (take handed order) ≤ times i order = times-take i handed order in
      r.free.there i (omega arith)

  -- each earlier sharer of a place that waits for none was passed
  settled : (steps j i : ℕ) → i ≤ j + steps → 1 ≤ j → j < i → i ≤ length fs → number_at waiting i ≡ 0
      → shares fs j i ≡ true → 1 ≤ times j passed
  settled zero j i near one lt to free shared = absurd (omega arith)
  settled (suc steps) j i near one lt to free shared = elim (r.left.reaches j i one lt to shared) [
    | inl was ↦ was
    | inr w ↦
        let q = w.0 in
        let has : 1 ≤ times q (row_of rows j) = w.1 in
        let on = r.left.forward j q one (omega arith) has in
        let after : j < q = on.0 in
        let there : q ≤ length fs = on.1 in
        let counted : number_at waiting q ≡ total q rows = r.counted.counted q (omega arith) there in
        let some : times q (row_of rows j) ≤ total q rows = total-row q rows j in
        let upto : q ≤ i = w.2 in
        elim (cases_eq q i) [
          | inl here ↦ absurd (let z : number_at waiting q ≡ 0 = ap (number_at waiting) here ∙ free in omega arith)
          | inr apart ↦ elim w.3 [
            | inl here ↦ absurd (apart here)
            | inr shared' ↦ absurd (
                let was = settled steps q i (omega arith) (omega arith) (omega arith) to free shared' in
                let z = passed_free q was in
                let none : number_at waiting q ≡ 0 = z.2 in omega arith)
          ]
        ]
  ]

  is_ready : (next : Option ℕ) (i : ℕ) → 1 ≤ i → i ≤ length fs → number_at waiting i ≡ 0
      → (1 ≤ times i (take handed order) → ⊥) → IsReady (parts next) i
  is_ready next i one to free out = record {
    from_one = one;
    there = to;
    unhanded = λ w. out (let a : 1 ≤ times i (reverse (take handed order)) = times-from_Was i (reverse (take handed order)) w in
        let e : times i (reverse (take handed order)) ≡ times i (take handed order) = times-reverse i (take handed order) in
        omega arith);
    sharers = λ j low lt shared. Was-from_times j (reverse passed)
        (let a : 1 ≤ times j passed = settled i j i (omega arith) low lt to free shared in
        let e : times j (reverse passed) ≡ times j passed = times-reverse j passed in omega arith);
  }

  -- a ready place waits for none
  waits_none : (next : Option ℕ) (i : ℕ) → IsReady (parts next) i → number_at waiting i ≡ 0
  waits_none next i ready = r.counted.counted i ready.from_one ready.there ∙ total-none i rows (λ p one to.
      elim (cases_lt 0 (times i (row_of rows p))) [
        | inl some ↦
            let long : length rows ≡ length fs = r.counted.as_many_rows in
            let on = r.left.forward p i one (omega arith) (omega arith) in
            let was : 1 ≤ times p (reverse passed) = times-from_Was p (reverse passed) (ready.sharers p one on.0 on.2) in
            let e : times p (reverse passed) ≡ times p passed = times-reverse p passed in
            let z : times i (row_of rows p) ≡ 0 = r.left.emptied p i (omega arith) in omega arith
        | inr none ↦ omega arith
      ])

  pub next_ready : (next : Option ℕ) → handed < length order → IsReady (parts next) (get_or order handed 0)
  next_ready next lt =
      let q = get_or order handed 0 in
      let more : take (handed + 1) order ≡ take handed order ++ q ∷ [] = take_more order handed 0 lt in
      let m : times q (take (handed + 1) order) ≡ times q (take handed order) + one_if q q =
      ap (times q) more ∙ times-push q (take handed order) q in
      let o : one_if q q ≡ 1 = one_same q in
      let b : times q (take (handed + 1) order) ≤ times q order = times-take q (handed + 1) order in
      let once : times q order ≤ 1 = r.free.once q in
      let t = r.free.there q (omega arith) in
      is_ready next q t.0 t.1 t.2 (λ h. absurd (omega arith))

  pub none_ready : (next : Option ℕ) → length order ≤ handed → (i : ℕ) → IsReady (parts next) i → ⊥
  none_ready next past i ready =
      let all : take handed order ≡ order = take_all handed order past in
      let has : 1 ≤ times i order = r.free.all i ready.from_one ready.there (waits_none next i ready) in
      let e : times i (reverse (take handed order)) ≡ times i order = times-reverse i (take handed order) ∙ ap (times i) all in
      ready.unhanded (Was-from_times i (reverse (take handed order)) (omega arith))

  runs_next : IsReadyIfAny (parts (next_in order handed)) (next_in order handed)
  runs_next = elim (cases_Bool (nat_lt handed (length order))) [
    | inl some ↦ rw some (next_ready (Some (get_or order handed 0)) (ltb-true handed (length order) some))
    | inr none ↦ rw none (none_ready None (ltb-false handed (length order) none))
  ]

  pub runs : AreQueues (parts (next_in order handed))
  runs = record {
    next = runs_next;
    there = λ i w.
        let a : 1 ≤ times i (reverse (take handed order)) = times-from_Was i (reverse (take handed order)) w in
        let e : times i (reverse (take handed order)) ≡ times i (take handed order) = times-reverse i (take handed order) in
        let b : times i (take handed order) ≤ times i order = times-take i handed order in
        let t = r.free.there i (omega arith) in (t.0, t.1);
    handed_once = Pairs-from_times (reverse (take handed order)) (λ q.
        let e : times q (reverse (take handed order)) ≡ times q (take handed order) = times-reverse q (take handed order) in
        let b : times q (take handed order) ≤ times q order = times-take q handed order in
        let once : times q order ≤ 1 = r.free.once q in omega arith);
    after = λ i w.
        let a : 1 ≤ times i (reverse passed) = times-from_Was i (reverse passed) w in
        let e : times i (reverse passed) ≡ times i passed = times-reverse i passed in
        let h : 1 ≤ times i (take handed order) = r.after i (omega arith) in
        let g : times i (reverse (take handed order)) ≡ times i (take handed order) = times-reverse i (take handed order) in
        Was-from_times i (reverse (take handed order)) (omega arith);
    passed_once = Pairs-from_times (reverse passed) (λ q.
        let e : times q (reverse passed) ≡ times q passed = times-reverse q passed in
        let once : times q passed ≤ 1 = r.once q in omega arith);
  }

  -- one place more is issued
  pub hands : handed < length order → IsRunning fs rows waiting order (handed + 1) passed room room_passed
  hands lt = record {
    left = r.left;
    counted = r.counted;
    free = r.free;
    few = omega arith;
    after = λ i was.
        let a : 1 ≤ times i (take handed order) = r.after i was in
        let b : times i (take (handed + 1) order) ≡ times i (take handed order) + one_if (get_or order handed 0) i =
        ap (times i) (take_more order handed 0 lt) ∙ times-push i (take handed order) (get_or order handed 0) in
        omega arith;
    once = r.once;
    has_room = r.has_room;
    has_room_passed = r.has_room_passed;
  }

  -- a place is passed
  module _ (place : ℕ) (handed_out : Was place (reverse (take handed order))) (unpassed : Was place (reverse passed) → ⊥) where
    out : times place passed ≡ 0
    out = elim (cases_lt 0 (times place passed)) [
      | inl some ↦ absurd (unpassed (Was-from_times place (reverse passed)
          (let e : times place (reverse passed) ≡ times place passed = times-reverse place passed in omega arith)))
      | inr none ↦ omega arith
    ]

    among : 1 ≤ times place (take handed order)
    among =
        let a : 1 ≤ times place (reverse (take handed order)) = times-from_Was place (reverse (take handed order)) handed_out in
        let e : times place (reverse (take handed order)) ≡ times place (take handed order) = times-reverse place (take handed order) in
        omega arith

    pub pass_there : (1 ≤ place) × (place ≤ length fs)
    pass_there =
        let a : 1 ≤ times place (take handed order) = among in
        let b : times place (take handed order) ≤ times place order = times-take place handed order in
        let t = r.free.there place (omega arith) in (t.0, t.1)

    pub pass_room : length passed < room_passed
    pass_room =
        let t = pass_there in
        let few : length passed < length fs = leaves_room (length fs) passed place r.once
        (λ i was. let f = passed_free i was in (f.0, f.1)) t.0 t.1 out in
        let has : length fs ≤ room_passed = r.has_room_passed in
        omega arith

    pub passes : (rows' : List (List ℕ)) (waiting' order' passed' : List ℕ) (room' room_passed' : ℕ)
        → AreCounted (length fs) rows' waiting' → AreFree (length fs) waiting' order' → row_of rows' place ≡ []
        → ((p : ℕ) → 1 ≤ p → p ≢ place → row_of rows' p ≡ row_of rows p)
        → (more : List ℕ) × (order' ≡ order ++ more) → passed' ≡ passed ++ place ∷ [] → room' ≡ room → room_passed' ≡ room_passed
        → IsRunning fs rows' waiting' order' handed passed' room' room_passed'
    passes rows' waiting' order' passed' room' room_passed' counted free emptied others more is same same_passed =
        let many : (i : ℕ) → times i passed' ≡ times i passed + one_if place i =
        λ i. ap (times i) is ∙ times-push i passed place in
        let first : take handed order' ≡ take handed order =
        ap (take handed) more.1 ∙ take-append-le handed order more.0 r.few in
        record {
          left = record {
            forward = λ p q one to has. elim (cases_eq p place) [
              | inl here ↦ absurd (let e : times q (row_of rows' p) ≡ 0 = ap (times q) (ap (row_of rows') here ∙ emptied) in omega arith)
              | inr apart ↦ r.left.forward p q one to (subst (λ xs. 1 ≤ times q xs) (others p one apart) has)
            ];
            reaches = λ j i one lt to shared. elim (cases_eq j place) [
              | inl here ↦ inl (let m : times j passed' ≡ times j passed + one_if place j = many j in
                  let o : one_if place j ≡ 1 = ap (one_if place) here ∙ one_same place in omega arith)
              | inr apart ↦ elim (r.left.reaches j i one lt to shared) [
                | inl was ↦ inl (let m : times j passed' ≡ times j passed + one_if place j = many j in omega arith)
                | inr w ↦ inr (w.0, subst (λ xs. 1 ≤ times w.0 xs) (sym (others j one apart)) w.1, w.2, w.3)
              ]
            ];
            emptied = λ p q was. elim (cases_eq p place) [
              | inl here ↦ ap (times q) (ap (row_of rows') here ∙ emptied)
              | inr apart ↦
                  let m : times p passed' ≡ times p passed + one_if place p = many p in
                  let o : one_if place p ≡ 0 = one_other place p (λ e. apart (sym e)) in
                  let before : 1 ≤ times p passed = omega arith in
                  ap (times q) (others p (passed_free p before).0 apart) ∙ r.left.emptied p q before
            ];
          };
          counted = counted;
          free = free;
          few = (let e : length order' ≡ length order + length more.0 = ap length more.1 ∙ length-append order more.0 in
              let f : handed ≤ length order = r.few in omega arith);
          after = λ i was. subst (λ xs. 1 ≤ times i xs) (sym first) (elim (cases_eq i place) [
            | inl here ↦ subst (λ p. 1 ≤ times p (take handed order)) (sym here) among
            | inr apart ↦
                let m : times i passed' ≡ times i passed + one_if place i = many i in
                let o : one_if place i ≡ 0 = one_other place i (λ e. apart (sym e)) in
                r.after i (omega arith)
          ]);
          once = λ i. elim (cases_eq i place) [
            | inl here ↦
                let m : times i passed' ≡ times i passed + one_if place i = many i in
                let o : one_if place i ≤ 1 = one_small place i in
                let z : times i passed ≡ 0 = ap (λ p. times p passed) here ∙ out in omega arith
            | inr apart ↦
                let m : times i passed' ≡ times i passed + one_if place i = many i in
                let o : one_if place i ≡ 0 = one_other place i (λ e. apart (sym e)) in
                let z : times i passed ≤ 1 = r.once i in omega arith
          ];
          has_room = rw same r.has_room;
          has_room_passed = rw same_passed r.has_room_passed;
        }

-- before any place is issued
pub runs_from : (fs : List FootprintParts) (n : ℕ) (links : List Link) (rows : List (List ℕ)) (waiting order passed : List ℕ)
    (room room_passed : ℕ) → n ≡ length fs → AreLinks fs links → AreRows n links rows → AreCounted n rows waiting
    → AreFree (length waiting) waiting order → passed ≡ [] → length waiting ≤ room → n ≤ room_passed
    → IsRunning fs rows waiting order 0 passed room room_passed
runs_from fs n links rows waiting order passed room room_passed many are rows_are counted free none has_room has_room_passed =
    let long : length waiting ≡ n = counted.as_many in
    record {
      left = record {
        forward = λ p q one to has.
            let e : times q (row_of rows p) ≡ linked p q links = rows_are.linked p q one (omega arith) in
            let f = are.forward p q (omega arith) in (f.1, f.2, f.3);
        reaches = λ j i one lt to shared.
            let w = are.reaches j i one lt to shared in
            let e : times w.0 (row_of rows j) ≡ linked j w.0 links = rows_are.linked j w.0 one (omega arith) in
            let some : 1 ≤ linked j w.0 links = w.1 in
            inr (w.0, (omega arith), w.2, w.3);
        emptied = λ p q was. absurd (let e : times p passed ≡ 0 = ap (times p) none in omega arith);
      };
      counted = subst (λ k. AreCounted k rows waiting) many counted;
      free = subst (λ k. AreFree k waiting order) (long ∙ many) free;
      few = omega arith;
      after = λ i was. absurd (let e : times i passed ≡ 0 = ap (times i) none in omega arith);
      once = λ i. let e : times i passed ≡ 0 = ap (times i) none in omega arith;
      has_room = omega arith;
      has_room_passed = omega arith;
    }

-- what a slice of a whole vector is written back as
pub written_back : {X : Type 0} (new old : List X) (len : ℕ) → length new ≡ len → take len (new ++ drop (length new) old) ≡ new
written_back new old len e = ap (λ n. take n (new ++ drop (length new) old)) (sym e) ∙ take_at new (drop (length new) old) (length new) refl

-- where there is a next place, not all were issued
pub some_next : (order : List ℕ) (handed : ℕ) → IsSome (next_in order handed) → handed < length order
some_next order handed some = elim (cases_Bool (nat_lt handed (length order))) [
  | inl t ↦ ltb-true handed (length order) t
  | inr f ↦ absurd (let e : false ≡ true = rw f at some in cc)
]
