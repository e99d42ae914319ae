-- Runs that stand one after the other: their items in order, the item at a place, and where a key is.
use Rattle.std.proofs.Common.{◌≡◌, ℕ, zero, suc, ◌+◌, ◌-◌, ◌^◌, ◌<◌, ◌≤◌, List, [], ◌∷◌, ◌++◌, length, get_or, drop, map}
use Rattle.std.proofs.Common.{Bool, true, false, cond, leb, Option, Some, None, refl, sym, ap, ◌∙◌, inl, inr, arith}
use Rattle.std.proofs.Common.{length-append, add-zero, lit<}
use Rattle.std.specs.Prelude.{◌&&◌, nat_lt, not, slice_get}
use Rattle.std.specs.Bool.{then_some}
use Rattle.std.specs.List.{flat_map, list_all}
use Rattle.std.specs.Vec.{vec_items}
use Rattle.std.specs.declared.vec.Vec.{Vec}
use Rattle.std.specs.Cmp.{IsTotalOrder}
use Rattle.std.specs.Ordering.{is_lt}
use Rattle.std.specs.declared.cmp.Ordering.{Ordering}
use Rattle.std.specs.declared.cmp.Ordering.TheVariants.{Less, Greater}
use Rattle.std.proofs.lemmas.Bool.{cases_Bool, cases_lt, and_parts, and_from, and_right, lt-ltb, le-ltb, leb-true, leb-false}
use Rattle.std.proofs.lemmas.Bool.{ltb-true}
use Rattle.std.proofs.lemmas.List.{get_or-drop, get_or_append_left, drop-drop, drop_at, length-drop, append-nil}
use Rattle.std.proofs.lemmas.List.{at_drop_more, drop_more}
use Rattle.std.specs.Cmp.Lexicographic.{pointwise}
use Rattle.std.proofs.lemmas.Option.{get_or_from_slice_get, slice_get-get_or, slice_get_within}
use Rattle.rx_sorted.specs.Ascending.{IsAscending, IsAt, IsBelow, IsGap, is_ascending, is_past}
use Rattle.rx_sorted.specs.Runs.{AreRuns, are_runs, has_items, items_of, may_follow}
use Rattle.rx_sorted.proofs.Keys.{Greater-from_Less, Less-from_Greater, Less-from_is_lt}
use Rattle.rx_sorted.proofs.Kept.{IsAscending-at, IsAscending-drop, IsAscending-from_test, is_ascending-from_fact}

-- ---- items, run by run

-- the items follow from the lists of the runs
pub items_of-lists : {X Z : Type 0} (runs : List (Vec X Z)) → items_of runs ≡ flat_map (λ (xs : List X). xs) (map vec_items runs)
items_of-lists [] = refl
items_of-lists (run ∷ runs) = ap (λ ys. run.items ++ ys) (items_of-lists runs)

has_items-lists : {X Z : Type 0} (runs : List (Vec X Z))
    → list_all has_items runs ≡ list_all (λ (xs : List X). nat_lt 0 (length xs)) (map vec_items runs)
has_items-lists [] = refl
has_items-lists (run ∷ runs) = ap (λ b. nat_lt 0 (length run.items) && b) (has_items-lists runs)

-- runs of the same lists have the same items
pub items_of-same : {X Z : Type 0} (copies runs : List (Vec X Z)) → map vec_items copies ≡ map vec_items runs
    → items_of copies ≡ items_of runs
items_of-same {X} copies runs same = items_of-lists copies ∙ ap (flat_map (λ (xs : List X). xs)) same
    ∙ sym (items_of-lists runs)

-- a place in the next run, and one after it
pub get-here : {X : Type 0} (run rest : List X) (i : ℕ) (x : X) → i < length run → x ≡ get_or run i x
    → slice_get (run ++ rest) i ≡ Some x
get-here run rest i x h is = slice_get-get_or (run ++ rest) i x (omega (arith, length-append run rest))
    ∙ ap Some (get_or_append_left run rest x i h ∙ sym is)

pub get-behind : {X : Type 0} (run rest : List X) (i : ℕ) → length run ≤ i
    → slice_get (run ++ rest) i ≡ slice_get rest (i - length run)
get-behind [] rest i h = let same : i - 0 ≡ i = omega arith in rw same
get-behind (x ∷ run) rest zero h = absurd (omega arith)
get-behind (x ∷ run) rest (suc i) h =
    let same : suc i - suc (length run) ≡ i - length run = omega arith in
    rw same (get-behind run rest i (omega arith))

module _ {X K : Type 0} (cmp : K → K → Ordering) (key : X → K) where
  -- the count of the items of runs that follow a run, on top of those before: None where one may not follow
  abbrev pub count_from : {Z : Type 0} → List X → ℕ → List (Vec X Z) → Option ℕ
  count_from before count [] = Some count
  count_from before count (run ∷ runs) =
      cond (may_follow cmp key before run.items)
      (cond (leb (2 ^ 63 - count) (length run.items)) None (count_from run.items (count + length run.items) runs)) None

  pub count_left : {Z : Type 0} (before : List X) (count : ℕ) (runs : List (Vec X Z)) (i : ℕ) (run : Vec X Z)
      → i < length runs → run ≡ get_or runs i run
      → count_from before count (drop i runs) ≡ count_from before count (run ∷ drop (i + 1) runs)
  count_left {Z} before count runs i run in_range is = at_drop_more (count_from before count) runs i run in_range
      ∙ ap (λ (r : Vec X Z). count_from before count (r ∷ drop (i + 1) runs)) (sym is)

  pub AreRuns-same : {Z : Type 0} (copies runs : List (Vec X Z)) (len : ℕ) → map vec_items copies ≡ map vec_items runs
      → AreRuns cmp key runs len → AreRuns cmp key copies len
  AreRuns-same copies runs len same are =
      let items : items_of copies ≡ items_of runs = items_of-same copies runs same in
      record {
        none_empty = has_items-lists copies
            ∙ ap (list_all (λ (xs : List X). nat_lt 0 (length xs))) same ∙ sym (has_items-lists runs) ∙ are.none_empty;
        ascending = rw items are.ascending;
        count = rw items are.count;
        small = are.small;
      }

-- the items of the runs that are left: those of the next one, and those of the others
pub items_left : {X Z : Type 0} (runs : List (Vec X Z)) (i : ℕ) (run : Vec X Z) → i < length runs
    → run ≡ get_or runs i run → items_of (drop i runs) ≡ run.items ++ items_of (drop (i + 1) runs)
items_left {X} {Z} runs i run in_range is = at_drop_more items_of runs i run in_range
    ∙ ap (λ (r : Vec X Z). r.items ++ items_of (drop (i + 1) runs)) (sym is)

module _ {X K : Type 0} (cmp : K → K → Ordering) (order : IsTotalOrder cmp) (key : X → K) where
  -- ---- the test of runs

  IsAscending-front : (xs ys : List X) → IsAscending cmp key (xs ++ ys) → IsAscending cmp key xs
  IsAscending-front [] ys a = tt
  IsAscending-front (x ∷ xs) ys a = (below (key x) xs a.0, IsAscending-front xs ys a.1)
    where
      below : (k : K) (zs : List X) → IsBelow cmp key k (zs ++ ys) → IsBelow cmp key k zs
      below k [] b = tt
      below k (z ∷ zs) b = (b.0, below k zs b.1)

  is_ascending-front : (xs ys : List X) → is_ascending cmp key xs ≡ false → is_ascending cmp key (xs ++ ys) ≡ false
  is_ascending-front xs ys h = elim (cases_Bool (is_ascending cmp key (xs ++ ys))) [
    | inl t ↦
        let front : is_ascending cmp key xs ≡ true = is_ascending-from_fact cmp order key xs
        (IsAscending-front xs ys (IsAscending-from_test cmp order key (xs ++ ys) t)) in
        absurd (let e : true ≡ false = sym front ∙ h in cc)
    | inr f ↦ f
  ]

  -- where a list in order goes on with an item, that has to be past each
  is_ascending-append : (xs : List X) (y : X) (ys : List X) → IsAscending cmp key xs
      → is_ascending cmp key (xs ++ y ∷ ys) ≡ (is_past cmp key xs (key y) && is_ascending cmp key (y ∷ ys))
  is_ascending-append [] y ys a = refl
  is_ascending-append (x ∷ []) y ys a = elim (cases_Bool (is_lt (cmp (key x) (key y)))) [ inl t ↦ rw t | inr f ↦ rw f ]
  is_ascending-append (x ∷ z ∷ xs) y ys a =
      let more : is_ascending cmp key (z ∷ xs ++ y ∷ ys)
      ≡ (is_past cmp key (z ∷ xs) (key y) && is_ascending cmp key (y ∷ ys)) = is_ascending-append (z ∷ xs) y ys a.1 in
      elim (cases_Bool (is_past cmp key (z ∷ xs) (key y))) [
        | inl past ↦
            let above : cmp (key z) (key y) ≡ Less = Less-from_is_lt _ (and_parts _ _ past).0 in
            let first : is_lt (cmp (key x) (key y)) ≡ true = ap is_lt (order.trans (key x) (key z) (key y) a.0.0 above) in
            rw (ap is_lt a.0.0, first, past) (more ∙ rw past)
        | inr not_past ↦
            let none : is_past cmp key (x ∷ z ∷ xs) (key y) ≡ false = and_right _ _ not_past in
            rw (ap is_lt a.0.0, none) (more ∙ rw not_past)
      ]

  -- a run that may not follow has no items, or they are out of order there
  refused : (before run rest : List X) → IsAscending cmp key before → may_follow cmp key before run ≡ false
      → (nat_lt 0 (length run) && is_ascending cmp key (before ++ (run ++ rest))) ≡ false
  refused before [] rest a h = refl
  refused before (y ∷ run) rest a h = and_right _ _ (is_ascending-append before y (run ++ rest) a
      ∙ elim (cases_Bool (is_past cmp key before (key y))) [
        | inl past ↦
            let out : is_ascending cmp key (y ∷ run) ≡ false = rw past at h in
            rw past (is_ascending-front (y ∷ run) rest out)
        | inr not_past ↦ rw not_past
      ])

  -- one that may follow has items in order, and the rest has to follow it
  pub accepted : (before run rest : List X) → IsAscending cmp key before → may_follow cmp key before run ≡ true
      → (nat_lt 0 (length run) ≡ true) × IsAscending cmp key run
      × (is_ascending cmp key (before ++ (run ++ rest)) ≡ is_ascending cmp key (run ++ rest))
  accepted before [] rest a h = absurd cc
  accepted before (y ∷ run) rest a h =
      let parts = and_parts (is_past cmp key before (key y)) (is_ascending cmp key (y ∷ run)) h in (
        lt-ltb 0 (suc (length run)) (omega arith),
        IsAscending-from_test cmp order key (y ∷ run) parts.1,
        is_ascending-append before y (run ++ rest) a
            ∙ ap (λ b. b && is_ascending cmp key (y ∷ (run ++ rest))) parts.0,
      )

  -- it says whether they are runs
  counted : {Z : Type 0} (before : List X) (count : ℕ) (runs : List (Vec X Z)) → IsAscending cmp key before
      → count < 2 ^ 63 → count_from cmp key before count runs
      ≡ then_some (list_all has_items runs && (is_ascending cmp key (before ++ items_of runs)
      && nat_lt (count + length (items_of runs)) (2 ^ 63))) (count + length (items_of runs))
  counted before count [] a few =
      let all : is_ascending cmp key (before ++ []) ≡ true =
      ap (is_ascending cmp key) (append-nil before) ∙ is_ascending-from_fact cmp order key before a in
      let low : nat_lt count (2 ^ 63) ≡ true = lt-ltb _ _ few in
      rw (all, add-zero, low) refl
  counted before count (run ∷ runs) a few = elim (cases_Bool (may_follow cmp key before run.items)) [
    | inl follows ↦
        let parts = accepted before run.items (items_of runs) a follows in
        elim (cases_Bool (leb (2 ^ 63 - count) (length run.items))) [
          | inl many ↦
              let over : nat_lt (count + length (run.items ++ items_of runs)) (2 ^ 63) ≡ false =
              le-ltb _ _ (omega (arith, leb-true _ _ many, length-append run.items (items_of runs))) in
              rw (follows, many, over) (ap (λ b. then_some b (count + length (run.items ++ items_of runs)))
              (sym (and_right _ _ (and_right _ _ refl))))
          | inr fits ↦
              let more = counted run.items (count + length run.items) runs parts.1
              (omega (arith, leb-false _ _ fits)) in
              let sum : count + length (run.items ++ items_of runs) ≡ count + length run.items + length (items_of runs) =
              omega (arith, length-append run.items (items_of runs)) in
              rw (follows, fits, parts.0, parts.2, sum) more
        ]
    | inr not ↦ rw not (ap (λ b. then_some b (count + length (run.items ++ items_of runs)))
        (sym (blocked (has_items run) (list_all has_items runs)
        (is_ascending cmp key (before ++ (run.items ++ items_of runs)))
        (nat_lt (count + length (run.items ++ items_of runs)) (2 ^ 63))
        (refused before run.items (items_of runs) a not))))
  ]
    where
      blocked : (h l b n : Bool) → (h && b) ≡ false → ((h && l) && (b && n)) ≡ false
      blocked false l b n e = refl
      blocked true l false n e = and_right _ _ refl
      blocked true l true n e = absurd cc

  pub counted_all : {Z : Type 0} (runs : List (Vec X Z))
      → count_from cmp key [] 0 runs ≡ then_some (are_runs cmp key runs) (length (items_of runs))
  counted_all runs = let sum : 0 + length (items_of runs) ≡ length (items_of runs) = omega arith in
      rw sum at (counted [] 0 runs tt (lit< tt))

  pub AreRuns-counted : {Z : Type 0} (runs : List (Vec X Z)) (len : ℕ)
      → Some len ≡ then_some (are_runs cmp key runs) (length (items_of runs)) → AreRuns cmp key runs len
  AreRuns-counted runs len e = elim (cases_Bool (are_runs cmp key runs)) [
    | inl t ↦
        let some = rw t at e in
        let count : len ≡ length (items_of runs) = cc in
        let parts = and_parts (list_all has_items runs)
        (is_ascending cmp key (items_of runs) && nat_lt (length (items_of runs)) (2 ^ 63)) t in
        let rest = and_parts (is_ascending cmp key (items_of runs)) (nat_lt (length (items_of runs)) (2 ^ 63)) parts.1 in
        record {
          none_empty = parts.0;
          ascending = IsAscending-from_test cmp order key (items_of runs) rest.0;
          count = count;
          small = omega (arith, count, ltb-true _ _ rest.1);
        }
    | inr f ↦ absurd (let none = rw f at e in cc)
  ]

-- ---- the place of a key

-- a search has come to a place: the rest stands there, and all items before it have lesser keys
pub record IsReached {X K : Type 0} (cmp : K → K → Ordering) (key : X → K) (xs : List X) (k : K) (start : ℕ)
    (rest : List X) : Type 0 where
  pub in_range : start ≤ length xs
  pub left : drop start xs ≡ rest
  pub below : (j : ℕ) (d : X) → j < start → cmp (key (get_or xs j d)) k ≡ Less

module _ {X K : Type 0} (cmp : K → K → Ordering) (order : IsTotalOrder cmp) (key : X → K) (xs : List X) (k : K) where
  past_at : (ys : List X) (i : ℕ) (d : X) → is_past cmp key ys k ≡ true → i < length ys
      → cmp (key (get_or ys i d)) k ≡ Less
  past_at [] i d past h = absurd (omega arith)
  past_at (y ∷ ys) zero d past h = Less-from_is_lt _ (and_parts _ _ past).0
  past_at (y ∷ ys) (suc i) d past h = past_at ys i d (and_parts _ _ past).1 (omega arith)

  past_from : (ys : List X) → ((i : ℕ) (d : X) → i < length ys → cmp (key (get_or ys i d)) k ≡ Less)
      → is_past cmp key ys k ≡ true
  past_from [] each = refl
  past_from (y ∷ ys) each = and_from _ _ (ap is_lt (each 0 y (omega arith)))
      (past_from ys (λ i d h. each (suc i) d (omega arith)))

  pub reached_first : IsReached cmp key xs k 0 xs
  reached_first = record { in_range = omega arith; left = refl; below = λ j d h. absurd (omega arith) }

  module _ (start : ℕ) (run rest : List X) (reached : IsReached cmp key xs k start (run ++ rest)) where
    lengths : start + length run + length rest ≡ length xs
    lengths = omega (arith, length-drop start xs, ap length reached.left, length-append run rest, reached.in_range)

    item_reached : (i : ℕ) (d : X) → i < length run → get_or xs (start + i) d ≡ get_or run i d
    item_reached i d h = sym (get_or-drop start xs i d) ∙ ap (λ (ys : List X). get_or ys i d) reached.left
        ∙ get_or_append_left run rest d i h

    -- all items before a place in the run, where those of the run have lesser keys
    below_place : (at : ℕ) → at ≤ length run
        → ((i : ℕ) (d : X) → i < at → cmp (key (get_or run i d)) k ≡ Less)
        → (j : ℕ) (d : X) → j < start + at → cmp (key (get_or xs j d)) k ≡ Less
    below_place at le each j d h = elim (cases_lt j start) [
      | inl before ↦ reached.below j d before
      | inr from ↦
          let place : start + (j - start) ≡ j = omega arith in
          rw (← place, item_reached (j - start) d (omega arith)) (each (j - start) d (omega arith))
    ]

    pub IsAscending-reached : IsAscending cmp key xs → IsAscending cmp key run
    IsAscending-reached ascends = IsAscending-front cmp order key run rest
        (rw reached.left at (IsAscending-drop cmp order key start xs ascends))

    -- past the run
    pub reached_next : is_past cmp key run k ≡ true → IsReached cmp key xs k (start + length run) rest
    reached_next past = record {
      in_range = omega (arith, lengths);
      left = sym (drop-drop (length run) start xs) ∙ ap (λ (ys : List X). drop (length run) ys) reached.left
          ∙ drop_at run rest (length run) refl;
      below = below_place (length run) (omega arith) (λ i d h. past_at run i d past h);
    }

    pub IsAt-reached : (at : ℕ) → IsAt cmp key run k at → IsAt cmp key xs k (start + at)
    IsAt-reached at is_at = record {
      in_range = omega (arith, lengths, is_at.in_range);
      has_it = λ d. rw (item_reached at d is_at.in_range) (is_at.has_it d);
    }

    pub IsGap-reached : (at : ℕ) → IsAscending cmp key xs → is_past cmp key run k ≡ false → IsGap cmp key run k at
        → IsGap cmp key xs k (start + at)
    IsGap-reached at ascends not_past gap =
        let inside : at < length run = elim (cases_lt at (length run)) [
          | inl lt ↦ lt
          | inr le ↦
              let past : is_past cmp key run k ≡ true = past_from run (λ i d h. gap.before i d (omega arith)) in
              absurd (let e : true ≡ false = sym past ∙ not_past in cc)
        ] in
        record {
          in_range = omega (arith, lengths, inside);
          before = below_place at (omega arith) gap.before;
          after = λ j d le h.
              let here : cmp (key (get_or xs (start + at) d)) k ≡ Greater =
              rw (item_reached at d inside) (gap.after at d (omega arith) inside) in
              elim (cases_lt (start + at) j) [
                | inl behind ↦ Greater-from_Less cmp order key k (key (get_or xs j d))
                    (order.trans k (key (get_or xs (start + at) d)) (key (get_or xs j d))
                    (Less-from_Greater cmp order key (key (get_or xs (start + at) d)) k here)
                    (IsAscending-at cmp order key xs (start + at) j d ascends behind h))
                | inr upto ↦ let same : j ≡ start + at = omega arith in rw same here
              ];
        }

  -- past all runs
  pub IsGap-reached_end : (start : ℕ) → IsReached cmp key xs k start [] → IsGap cmp key xs k start
  IsGap-reached_end start reached = record {
    in_range = reached.in_range;
    before = reached.below;
    after = λ j d le h. absurd (omega (arith, length-drop start xs, ap length reached.left));
  }

-- ---- two lists, item by item

-- what two lists have from a place on, by the items there
pub pointwise_from : {X : Type 0} (E : X → X → Bool) (xs ys : List X) (i : ℕ) (x y : X) → slice_get xs i ≡ Some x
    → slice_get ys i ≡ Some y
    → pointwise E (drop i xs) (drop i ys) ≡ (E x y && pointwise E (drop (i + 1) xs) (drop (i + 1) ys))
pointwise_from {X} E xs ys i x y at_x at_y =
    let left : drop i xs ≡ x ∷ drop (i + 1) xs = drop_more xs i x (slice_get_within xs i x at_x)
    ∙ ap (λ (z : X). z ∷ drop (i + 1) xs) (get_or_from_slice_get xs i x x at_x) in
    let right : drop i ys ≡ y ∷ drop (i + 1) ys = drop_more ys i y (slice_get_within ys i y at_y)
    ∙ ap (λ (z : X). z ∷ drop (i + 1) ys) (get_or_from_slice_get ys i y y at_y) in
    rw (left, right) refl

pub false-from_not : (b : Bool) → not b ≡ true → b ≡ false
false-from_not true e = cc
false-from_not false e = refl

pub true-from_not : (b : Bool) → not b ≡ false → b ≡ true
true-from_not true e = refl
true-from_not false e = cc
