-- Slots in order: what writing some of them over makes of all, and what is read from them meanwhile.
use Rattle.std.proofs.Common.{◌≡◌, ℕ, zero, suc, ◌+◌, ◌<◌, ◌≤◌, arith, add-one, drop, get_or, length, List, [], ◌∷◌, ◌++◌, map}
use Rattle.std.proofs.Common.{cond, true, false, Option, Some, None, refl, sym, ap, ◌∙◌, inl, inr}
use Rattle.std.specs.Cmp.{IsTotalOrder, eq_by_cmp_equiv}
use Rattle.std.specs.List.{flat_map}
use Rattle.std.specs.Option.{option_and_then, option_map, option_or, option_to_list}
use Rattle.std.specs.Ordering.{is_eq}
use Rattle.std.specs.declared.cmp.Ordering.{Ordering}
use Rattle.std.specs.declared.cmp.Ordering.TheVariants.{Less}
use Rattle.std.proofs.lemmas.Bool.{cases_Bool}
use Rattle.std.proofs.Math.Seq.{drop-cons}
use Rattle.std.proofs.lemmas.Map.Lookups.{CmpEqualImpliesEq}
use Rattle.rx_sorted.specs.Ascending.{IsAscending, IsBelow, contains_key, has_key, item_at, itself}
use Rattle.rx_sorted.proofs.LookUps.{item_at-found, item_at-map}
use Rattle.rx_sorted.specs.Slots.{filled_of, one_at, over, with_content}
use Rattle.rx_sorted.proofs.OneSlot.{apart, one_keeps}

pub map_map : {A B C : Type 0} (g : B → C) (f : A → B) (xs : List A) → map g (map f xs) ≡ map (λ x. g (f x)) xs
map_map g f [] = refl
map_map g f (x ∷ xs) = ap (λ ys. g (f x) ∷ ys) (map_map g f xs)

pub map_same : {A B : Type 0} (f g : A → B) → ((x : A) → f x ≡ g x) → (xs : List A) → map f xs ≡ map g xs
map_same f g h [] = refl
map_same f g h (x ∷ xs) = let rest = map_same f g h xs in let first = h x in cc

-- what is left after a place, with the item there
pub drop_next : {A : Type 0} (i : ℕ) (x : A) (xs : List A) → i < length xs → x ≡ get_or xs i x → drop i xs ≡ x ∷ drop (i + 1) xs
drop_next i x xs lt is = rw add-one (drop-cons xs i x lt ∙ ap (λ y. y ∷ drop (suc i) xs) (sym is))

pub no_items : {A : Type 0} (xs : List A) → length xs ≡ 0 → xs ≡ []
no_items [] h = refl
no_items (x ∷ xs) h = absurd (omega (arith, h))

pub none_left : {A : Type 0} (i : ℕ) (xs : List A) → length xs ≤ i → drop i xs ≡ []
none_left i [] h = drop_nothing i
  where
    drop_nothing : {A : Type 0} (j : ℕ) → drop {A = A} j [] ≡ []
    drop_nothing zero = refl
    drop_nothing (suc j) = refl
none_left zero (x ∷ xs) h = absurd (omega (arith, h))
none_left (suc i) (x ∷ xs) h = none_left i xs (omega (arith, h))

-- ---- many places, one after another

-- what a slot holds
abbrev pub content_read : {K P B : Type 0} → (P → Option B) → K → Option P → List B
content_read held k o = option_to_list (option_and_then held o)

module _ {X K : Type 0} (cmp : K → K → Ordering) (key : X → K) (f : X → X) where
  abbrev pub all_over : List K → List X → List X
  all_over [] xs = xs
  all_over (k ∷ ks) xs = all_over ks (over cmp key f k xs)

  -- what is read of each, before it is written over
  abbrev pub reads : {B : Type 0} → (K → Option X → List B) → List K → List X → List B
  reads read [] xs = []
  reads read (k ∷ ks) xs = read k (item_at cmp key xs k) ++ reads read ks (over cmp key f k xs)

module _ {X K : Type 0} (cmp : K → K → Ordering) (order : IsTotalOrder cmp) (exact : CmpEqualImpliesEq cmp) (key : X → K) where
  module _ (f : X → X) (keeps : (y : X) → key (f y) ≡ key y) where
    pub item_over : (k j : K) (xs : List X) → item_at cmp key (over cmp key f k xs) j ≡ option_map (one_at cmp key f k) (item_at cmp
        key xs j)
    item_over k j xs = item_at-map cmp order key key (one_at cmp key f k) (one_keeps cmp order key f keeps k) xs j

    item_later : (k j : K) (xs : List X) → cmp k j ≡ Less → item_at cmp key (over cmp key f k xs) j ≡ item_at cmp key xs j
    item_later k j xs less = item_over k j xs ∙ by_item (item_at cmp key xs j) refl
      where
        by_item : (o : Option X) → item_at cmp key xs j ≡ o → option_map (one_at cmp key f k) o ≡ o
        by_item None e = refl
        by_item (Some y) e =
            let found = item_at-found cmp order key xs j y e in
            let same : key y ≡ j = exact (key y) j found.1 in
            let other : has_key cmp key k y ≡ false = apart cmp order key k y (ap (cmp k) same ∙ less) in
            rw other refl

    module _ {B : Type 0} (read : K → Option X → List B) where
      reads_later : (k : K) (xs : List X) (ks : List K) → IsBelow cmp itself k ks
          → flat_map (λ j. read j (item_at cmp key (over cmp key f k xs) j)) ks ≡ flat_map (λ j. read j (item_at cmp key xs j)) ks
      reads_later k xs [] b = refl
      reads_later k xs (j ∷ ks) b =
          let first : read j (item_at cmp key (over cmp key f k xs) j) ≡ read j (item_at cmp key xs j) =
          ap (read j) (item_later k j xs b.0) in
          let rest = reads_later k xs ks b.1 in
          cc

      -- is what is there at the beginning
      pub reads_are : (ks : List K) (xs : List X) → IsAscending cmp itself ks
          → reads cmp key f read ks xs ≡ flat_map (λ k. read k (item_at cmp key xs k)) ks
      reads_are [] xs a = refl
      reads_are (k ∷ ks) xs a =
          ap (λ bs. read k (item_at cmp key xs k) ++ bs) (reads_are ks (over cmp key f k xs) a.1 ∙ reads_later k xs ks a.0)

    -- all are changed whose key is one of these
    pub all_over_are : ((y : X) → f (f y) ≡ f y) → (ks : List K) (xs : List X)
        → all_over cmp key f ks xs ≡ map (λ y. cond (contains_key cmp itself ks (key y)) (f y) y) xs
    all_over_are again [] xs = sym (map_same (λ y. y) (λ y. y) (λ y. refl) xs ∙ map_itself xs)
      where
        map_itself : (ys : List X) → map (λ y. y) ys ≡ ys
        map_itself [] = refl
        map_itself (y ∷ ys) = ap (λ zs. y ∷ zs) (map_itself ys)
    all_over_are again (k ∷ ks) xs =
        all_over_are again ks (over cmp key f k xs)
        ∙ map_map (λ y. cond (contains_key cmp itself ks (key y)) (f y) y) (one_at cmp key f k) xs
        ∙ map_same _ _ one xs
      where
        turned : (y : X) → has_key cmp key k y ≡ is_eq (cmp k (key y))
        turned y = (eq_by_cmp_equiv order).symm (key y) k

        one : (y : X) → cond (contains_key cmp itself ks (key (one_at cmp key f k y))) (f (one_at cmp key f k y)) (one_at cmp key f k y)
            ≡ cond (contains_key cmp itself (k ∷ ks) (key y)) (f y) y
        one y = elim (cases_Bool (has_key cmp key k y)) [
          | inl here ↦
              let too : is_eq (cmp k (key y)) ≡ true = sym (turned y) ∙ here in
              rw (here, too) (elim (cases_Bool (contains_key cmp itself ks (key (f y)))) [
                | inl t ↦ rw t (again y)
                | inr n ↦ rw n
              ])
          | inr other ↦
              let too : is_eq (cmp k (key y)) ≡ false = sym (turned y) ∙ other in
              rw (other, too)
        ]

-- what is found with one item more after
find_append : {X K : Type 0} (cmp : K → K → Ordering) (key : X → K) (bs : List X) (b : X) (k : K)
    → item_at cmp key (bs ++ b ∷ []) k ≡ option_or (item_at cmp key bs k) (item_at cmp key (b ∷ []) k)
find_append cmp key [] b k = refl
find_append cmp key (c ∷ bs) b k = elim (cases_Bool (has_key cmp key k c)) [ inl t ↦ rw t | inr n ↦ rw n (find_append cmp key bs b k) ]

-- contents that are put into their slots, the last first
module _ {X B K : Type 0} (cmp : K → K → Ordering) (order : IsTotalOrder cmp) (key : X → K) (name : B → K)
    (fill : Option B → X → X) (nothing : (y : X) → fill None y ≡ y) (keeps : (o : Option B) (y : X) → key (fill o y) ≡ key y)
    (over_it : (b c : B) (y : X) → fill (Some b) (fill (Some c) y) ≡ fill (Some b) y) where
  abbrev pub filled : List B → List X → List X
  filled bs xs = map (λ y. fill (item_at cmp name bs (key y)) y) xs

  one_more : (bs : List B) (b : B) (y : X)
      → fill (item_at cmp name bs (key (one_at cmp key (fill (Some b)) (name b) y))) (one_at cmp key (fill (Some b)) (name b) y)
      ≡ fill (item_at cmp name (bs ++ b ∷ []) (key y)) y
  one_more bs b y =
      let turned : has_key cmp key (name b) y ≡ is_eq (cmp (name b) (key y)) = (eq_by_cmp_equiv order).symm (key y) (name b) in
      let found = find_append cmp name bs b (key y) in
      elim (cases_Bool (has_key cmp key (name b) y)) [
        | inl here ↦
            let too : is_eq (cmp (name b) (key y)) ≡ true = sym turned ∙ here in
            rw (here, found, too, keeps (Some b) y) (by_item (item_at cmp name bs (key y)))
        | inr other ↦
            let too : is_eq (cmp (name b) (key y)) ≡ false = sym turned ∙ other in
            rw (other, found, too) (or_none (item_at cmp name bs (key y)))
      ]
    where
      by_item : (o : Option B) → fill o (fill (Some b) y) ≡ fill (option_or o (Some b)) y
      by_item None = nothing (fill (Some b) y)
      by_item (Some c) = over_it c b y

      or_none : (o : Option B) → fill o y ≡ fill (option_or o None) y
      or_none None = refl
      or_none (Some c) = refl

  pub filled_more : (bs : List B) (b : B) (xs : List X)
      → filled bs (over cmp key (fill (Some b)) (name b) xs) ≡ filled (bs ++ b ∷ []) xs
  filled_more bs b xs =
      map_map (λ y. fill (item_at cmp name bs (key y)) y) (one_at cmp key (fill (Some b)) (name b)) xs ∙ map_same _ _ (one_more bs b) xs

-- the same of places that are filled as they say
module _ {X B K : Type 0} (cmp : K → K → Ordering) (order : IsTotalOrder cmp) (key : X → K) (name : B → K) (fill : B → X → X)
    (keeps : (b : B) (y : X) → key (fill b y) ≡ key y) (again : (b c : B) (y : X) → fill b (fill c y) ≡ fill b y) where
  keeps_content : (o : Option B) (y : X) → key (with_content fill o y) ≡ key y
  keeps_content None y = refl
  keeps_content (Some b) y = keeps b y

  pub filled_none : (xs : List X) → map (filled_of cmp key name fill []) xs ≡ xs
  filled_none [] = refl
  filled_none (x ∷ xs) = ap (λ ys. x ∷ ys) (filled_none xs)

  pub filled_last : (bs : List B) (b : B) (xs : List X)
      → map (filled_of cmp key name fill bs) (over cmp key (fill b) (name b) xs) ≡ map (filled_of cmp key name fill (bs ++ b ∷ [])) xs
  filled_last bs b xs = filled_more cmp order key name (with_content fill) (λ y. refl) keeps_content again bs b xs
