-- The first fill in the order for a pharmacy: of fills in another order, which rank as these, it ranks as this one.
use Rattle.std.specs.Prelude.{if◌then◌else◌}
use Rattle.std.proofs.Common.{◌≡◌, ℕ, zero, suc, List, [], ◌∷◌, map, length, get_or, Bool, true, false, cond, Option, Some, None}
use Rattle.std.proofs.Common.{refl, sym, ap, subst, ◌∙◌, inl, inr, arith}
use Rattle.std.specs.Cmp.{IsTotalOrder}
use Rattle.std.specs.List.{All, Contains, filter, find, fold}
use Rattle.std.specs.List.Sorted.{IsPermutation}
use Rattle.std.specs.Ordering.{is_eq, is_lt, ordering_then, ordering_reverse}
use Rattle.std.specs.declared.cmp.Ordering.{Ordering}
use Rattle.std.specs.declared.cmp.Ordering.TheVariants.{Less, Equal, Greater}
use Rattle.std.proofs.lemmas.Bool.{cases_Bool}
use Rattle.std.proofs.lemmas.Cmp.{alike_right, back_total, int_cmp_total, tied_itself}
use Rattle.std.proofs.lemmas.List.Elements.{All-cons, All-contains, All-head, All-nil, All-tail}
use Rattle.std.proofs.lemmas.List.Sorted.{Contains-permutation, IsPermutation-sym, length_permutation}
use Rattle.rx_sorted.proofs.Keys.{Equal-from_is_eq, Less-from_is_lt, cases_Ordering}
use Rattle.rx_sorted.proofs.KeyOrders.{by_two_total, text_exact, text_total}
use Rattle.rx_ledger.specs.declared.figures.Figures.{Figures}
use Rattle.rx_ledger.specs.declared.row.Row.{Row}
use Rattle.rx_ledger.specs.Members.{is_same}
use Rattle.rx_explain.specs.Shown.{binds_until, fill_cmp, first_with, flag_if, longer_cmp, rank}

-- ---- lists

pub Contains-later : {X : Type 0} (x : X) (xs : List X) (y : X) → Contains xs y → Contains (x ∷ xs) y
Contains-later x xs y (k, within, is) = (suc k, omega arith, is)

second : {X : Type 0} (a b : X) (ys : List X) (r : X) → Contains (a ∷ ys) r → Contains (a ∷ b ∷ ys) r
second a b ys r (zero, within, is) = (zero, omega arith, is)
second a b ys r (suc k, within, is) = (suc (suc k), omega arith, is)

Contains-map : {X Y : Type 0} (f : X → Y) (xs : List X) (y : Y) → Contains (map f xs) y → (x : X) × (Contains xs x × (f x ≡ y))
Contains-map f [] y (k, within, is) = absurd (omega arith)
Contains-map f (x ∷ xs) y (zero, within, is) = (x, ((zero, omega arith, refl), is))
Contains-map f (x ∷ xs) y (suc k, within, is) =
    let rest = Contains-map f xs y (k, omega arith, is) in
    (rest.0, (Contains-later x xs rest.0 rest.1.0, rest.1.1))

Contains-mapped : {X Y : Type 0} (f : X → Y) (xs : List X) (x : X) → Contains xs x → Contains (map f xs) (f x)
Contains-mapped f [] x (k, within, is) = absurd (omega arith)
Contains-mapped f (y ∷ ys) x (zero, within, is) = (zero, omega arith, ap f is)
Contains-mapped f (y ∷ ys) x (suc k, within, is) = Contains-later (f y) (map f ys) (f x) (Contains-mapped f ys x (k, omega arith, is))

-- what passes two tests is found among what passes the weaker one
find-filter : {X : Type 0} (p q : X → Bool) → ((x : X) → q x ≡ true → p x ≡ true) → (xs : List X)
    → find q (filter p xs) ≡ find q xs
find-filter p q within [] = refl
find-filter p q within (x ∷ xs) = elim (cases_Bool (q x)) [
  | inl passes ↦ rw (within x passes, passes) refl
  | inr fails ↦ elim (cases_Bool (p x)) [
    | inl kept ↦ rw (kept, fails) (find-filter p q within xs)
    | inr left ↦ rw (left, fails) (find-filter p q within xs)
  ]
]

find-same : {X : Type 0} (p q : X → Bool) → ((x : X) → p x ≡ q x) → (xs : List X) → find p xs ≡ find q xs
find-same p q same [] = refl
find-same p q same (x ∷ xs) =
    ap (λ b. cond b (Some x) (find p xs)) (same x) ∙ ap (λ o. cond (q x) (Some x) o) (find-same p q same xs)

-- ---- an order

module _ {X : Type 0} (cmp : X → X → Ordering) (order : IsTotalOrder cmp) where
  -- after what isn't less
  past : (x best r : X) → cmp x best ≡ Less → is_lt (cmp x r) ≡ false → cmp best r ≡ Greater
  past x best r less late = elim (cases_Ordering (cmp best r)) [
    | inl before ↦ absurd (let e : true ≡ false = sym (ap is_lt (order.trans x best r less before)) ∙ late in cc)
    | inr (inl tied) ↦ absurd (let e : true ≡ false = sym (ap is_lt (sym (alike_right order best r x tied) ∙ less)) ∙ late in cc)
    | inr (inr after) ↦ after
  ]

  no-less : (x best r : X) → is_lt (cmp x best) ≡ false → is_lt (cmp best r) ≡ false → is_lt (cmp x r) ≡ false
  no-less x best r late none = elim (cases_Ordering (cmp x r)) [
    | inl less ↦
        let more : cmp r best ≡ Greater = past x r best less late in
        let e : cmp best r ≡ Less = order.antisymm best r ∙ ap ordering_reverse more in
        absurd (let f : true ≡ false = sym (ap is_lt e) ∙ none in cc)
    | inr (inl tied) ↦ ap is_lt tied
    | inr (inr more) ↦ ap is_lt more
  ]

  -- what ties with what the first is greater than
  no-tie : (x best r : X) → is_lt (cmp x best) ≡ false → is_lt (cmp best r) ≡ false → is_eq (cmp best r) ≡ false
      → is_eq (cmp x r) ≡ false
  no-tie x best r late none apart = elim (cases_Bool (is_eq (cmp x r))) [
    | inl tied ↦
        let same : cmp x best ≡ cmp r best = order.congr x r best (Equal-from_is_eq _ tied) in
        let e : cmp best r ≡ Greater = elim (cases_Ordering (cmp best r)) [
          | inl less ↦ absurd (let f : true ≡ false = sym (ap is_lt less) ∙ none in cc)
          | inr (inl equal) ↦ absurd (let f : true ≡ false = sym (ap is_eq equal) ∙ apart in cc)
          | inr (inr more) ↦ more
        ] in
        let less : cmp x best ≡ Less = same ∙ order.antisymm r best ∙ ap ordering_reverse e in
        absurd (let f : true ≡ false = sym (ap is_lt less) ∙ late in cc)
    | inr other ↦ other
  ]

  neither : (x y : X) → is_lt (cmp x y) ≡ false → is_lt (cmp y x) ≡ false → cmp x y ≡ Equal
  neither x y late none = elim (cases_Ordering (cmp x y)) [
    | inl less ↦ absurd (let f : true ≡ false = sym (ap is_lt less) ∙ late in cc)
    | inr (inl tied) ↦ tied
    | inr (inr more) ↦
        let less : cmp y x ≡ Less = order.antisymm y x ∙ ap ordering_reverse more in
        absurd (let f : true ≡ false = sym (ap is_lt less) ∙ none in cc)
  ]

  -- an item that is first among some is first with one more, which doesn't go before those
  first-after : (x best r : X) (xs : List X) → is_lt (cmp x best) ≡ false → is_lt (cmp best r) ≡ false
      → find (λ s. is_eq (cmp s r)) (best ∷ xs) ≡ Some r → find (λ s. is_eq (cmp s r)) (best ∷ x ∷ xs) ≡ Some r
  first-after x best r xs late none found = elim (cases_Bool (is_eq (cmp best r))) [
    | inl here ↦
        let there : cond true (Some best) (find (λ s. is_eq (cmp s r)) xs) ≡ Some r =
        ap (λ b. cond b (Some best) (find (λ s. is_eq (cmp s r)) xs)) (sym here) ∙ found in
        ap (λ b. cond b (Some best) (find (λ s. is_eq (cmp s r)) (x ∷ xs))) here ∙ there
    | inr apart ↦
        let there : find (λ s. is_eq (cmp s r)) xs ≡ Some r =
        ap (λ b. cond b (Some best) (find (λ s. is_eq (cmp s r)) xs)) (sym apart) ∙ found in
        let other : is_eq (cmp x r) ≡ false = no-tie x best r late none apart in
        ap (λ b. cond b (Some best) (find (λ s. is_eq (cmp s r)) (x ∷ xs))) apart
        ∙ ap (λ b. cond b (Some x) (find (λ s. is_eq (cmp s r)) xs)) other ∙ there
  ]

  -- ---- the first of some items

  abbrev NoLess : X → X → Type 0
  NoLess r s = is_lt (cmp s r) ≡ false

  abbrev ties : X → X → Bool
  ties r s = is_eq (cmp s r)

  -- one of the items, none goes before it, and none that stands before it ties with it
  pub record IsFirst (xs : List X) (r : X) : Type 0 where
    pub among : Contains xs r
    pub least : All (NoLess r) xs
    pub first : find (ties r) xs ≡ Some r

  pub found-some : (xs : List X) (best : X)
      → (r : X) × ((fold (first_with cmp) (Some best) xs ≡ Some r) × IsFirst (best ∷ xs) r)
  found-some [] best =
      let itself : cmp best best ≡ Equal = tied_itself order best in (
        best,
        (
          refl,
          record {
            among = (zero, omega arith, refl);
            least = All-cons (NoLess best) best [] (ap is_lt itself) (All-nil (NoLess best));
            first = ap (λ b. cond b (Some best) None) (ap is_eq itself);
          },
        ),
      )
  found-some (x ∷ xs) best = elim (cases_Bool (is_lt (cmp x best))) [
    | inl less ↦
        let rest = found-some xs x in
        let r = rest.0 in
        let after : cmp best r ≡ Greater =
        past x best r (Less-from_is_lt _ less) (All-head (NoLess r) x xs rest.1.1.least) in (
          r,
          (
            ap (λ b. fold (first_with cmp) (Some (if b then x else best)) xs) less ∙ rest.1.0,
            record {
              among = Contains-later best (x ∷ xs) r rest.1.1.among;
              least = All-cons (NoLess r) best (x ∷ xs) (ap is_lt after) rest.1.1.least;
              first = ap (λ b. cond b (Some best) (find (ties r) (x ∷ xs))) (ap is_eq after) ∙ rest.1.1.first;
            },
          ),
        )
    | inr late ↦
        let rest = found-some xs best in
        let r = rest.0 in
        let head : is_lt (cmp best r) ≡ false = All-head (NoLess r) best xs rest.1.1.least in (
          r,
          (
            ap (λ b. fold (first_with cmp) (Some (if b then x else best)) xs) late ∙ rest.1.0,
            record {
              among = second best x xs r rest.1.1.among;
              least = All-cons (NoLess r) best (x ∷ xs) head
                  (All-cons (NoLess r) x xs (no-less x best r late head) (All-tail (NoLess r) best xs rest.1.1.least));
              first = first-after x best r xs late head rest.1.1.first;
            },
          ),
        )
  ]

  -- ---- items with other names, in another order

  module _ (name : X → X) (as-before : (q r : X) → cmp (name q) r ≡ cmp q r) (xs moved : List X)
      (is : IsPermutation (map name xs) moved) where
    pub ties-first : (r t : X) → IsFirst xs r → IsFirst moved t → cmp t r ≡ Equal
    ties-first r t one other =
        let back : Contains (map name xs) t =
        Contains-permutation moved (map name xs) t (IsPermutation-sym (map name xs) moved is) other.among in
        let from = Contains-map name xs t back in
        let q : X = from.0 in
        let there : Contains moved (name r) =
        Contains-permutation (map name xs) moved (name r) is (Contains-mapped name xs r one.among) in
        let no-more : is_lt (cmp (name r) t) ≡ false = All-contains (NoLess t) moved (name r) other.least there in
        let none-less : is_lt (cmp q r) ≡ false = All-contains (NoLess r) xs q one.least from.1.0 in
        let low : is_lt (cmp r t) ≡ false = ap is_lt (sym (as-before r t)) ∙ no-more in
        let same : cmp t r ≡ cmp q r = ap (λ s. cmp s r) (sym from.1.1) ∙ as-before q r in
        neither t r (ap is_lt same ∙ none-less) low

    -- an own one is the same, where the own ones are the same
    pub same-own : (own : X → Bool) → ((r s : X) → cmp r s ≡ Equal → own r ≡ own s) → filter own moved ≡ filter own xs
        → (r t : X) → IsFirst xs r → IsFirst moved t → own r ≡ true → t ≡ r
    same-own own owner own-same r t one other mine =
        let tied : cmp t r ≡ Equal = ties-first r t one other in
        let too : own t ≡ true = owner t r tied ∙ mine in
        let tests : (s : X) → ties t s ≡ ties r s = λ s. ap is_eq (alike_right order t r s tied) in
        let e : Some t ≡ Some r =
        sym other.first
        ∙ sym (find-filter own (ties t) (λ s ties-it. owner s t (Equal-from_is_eq _ ties-it) ∙ too) moved)
        ∙ ap (find (ties t)) own-same ∙ find-same (ties t) (ties r) tests (filter own xs)
        ∙ find-filter own (ties r) (λ s ties-it. owner s r (Equal-from_is_eq _ ties-it) ∙ mine) xs ∙ one.first in
        cc

    -- there is one exactly where there was one
    abbrev pub AreFirst : Option X → Option X → Type 0
    AreFirst None None = Unit {0}
    AreFirst None (Some t) = ⊥
    AreFirst (Some r) None = ⊥
    AreFirst (Some r) (Some t) = IsFirst xs r × IsFirst moved t

    both-first : (ys zs : List X) → ys ≡ xs → zs ≡ moved
        → AreFirst (fold (first_with cmp) None ys) (fold (first_with cmp) None zs)
    both-first [] [] ys-are zs-are = tt
    both-first [] (z ∷ zs) ys-are zs-are =
        let long : length moved ≡ length (map name xs) = length_permutation (map name xs) moved is in
        absurd (let e : suc (length zs) ≡ 0 = ap length zs-are ∙ long ∙ sym (ap (λ us. length (map name us)) ys-are) in omega arith)
    both-first (y ∷ ys) [] ys-are zs-are =
        let long : length moved ≡ length (map name xs) = length_permutation (map name xs) moved is in
        absurd (let e : 0 ≡ suc (length (map name ys)) = ap length zs-are ∙ long ∙ sym (ap (λ us. length (map name us)) ys-are) in
        omega arith)
    both-first (y ∷ ys) (z ∷ zs) ys-are zs-are =
        let one = found-some ys y in
        let other = found-some zs z in
        subst (λ o. AreFirst o (fold (first_with cmp) (Some z) zs)) (sym one.1.0)
        (subst (λ o. AreFirst (Some one.0) o) (sym other.1.0)
        (subst (λ us. IsFirst us one.0) ys-are one.1.1, subst (λ us. IsFirst us other.0) zs-are other.1.1))

    pub are-first : AreFirst (fold (first_with cmp) None xs) (fold (first_with cmp) None moved)
    are-first = both-first xs moved refl refl

-- ---- fills

then_ties : (o n : Ordering) → ordering_then o n ≡ Equal → (o ≡ Equal) × (n ≡ Equal)
then_ties Less n h = cc
then_ties Equal n h = (refl, h)
then_ties Greater n h = cc

flag_same : (s t : Bool) → flag_if s ≡ flag_if t → s ≡ t
flag_same true true same = refl
flag_same true false same = absurd (let e : 0 ≡ 1 = same in omega arith)
flag_same false true same = absurd (let e : 1 ≡ 0 = same in omega arith)
flag_same false false same = refl

module _ (f : Figures) (p : List ℕ) where
  longer_total : IsTotalOrder longer_cmp
  longer_total = back_total int_cmp_total

  pub fill_total : IsTotalOrder (fill_cmp f p)
  fill_total = by_two_total (binds_until f) (rank p) longer_total text_total

  -- fills that tie have one rank, and so one owner, or both another than the pharmacy
  pub ranks-tied : (r s : Row) → fill_cmp f p r s ≡ Equal → rank p r ≡ rank p s
  ranks-tied r s tied = text_exact _ _ (then_ties _ _ tied).1

  pub owner-of-rank : (r s : Row) → rank p r ≡ rank p s → is_same r.key.provider p ≡ is_same s.key.provider p
  owner-of-rank r s same = flag_same (is_same r.key.provider p) (is_same s.key.provider p) (ap (λ ns. get_or ns 3 0) same)
