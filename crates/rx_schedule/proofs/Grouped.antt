-- Where sharers are together, the records of a shard have books of their own: those that they name.
use Rattle.std.proofs.Common.{◌≡◌, ℕ, zero, suc, ◌≤◌, ◌||◌, Bool, true, List, [], ◌∷◌, length, refl, ap, sym, ◌∙◌, arith, inl, inr}
use Rattle.std.specs.Cmp.{IsTotalOrder}
use Rattle.std.specs.List.{Contains, flat_map, list_any}
use Rattle.std.specs.Ordering.{eq_by_cmp}
use Rattle.std.specs.declared.cmp.Ordering.{Ordering}
use Rattle.std.proofs.lemmas.Bool.{both_ways, eq-eqb, eqb-true, false_from_ne_true, or_cases, or_left, or_right}
use Rattle.std.proofs.lemmas.List.Concat.{flat_map-cons}
use Rattle.std.proofs.lemmas.List.Elements.{All-contains}
use Rattle.std.proofs.lemmas.List.Folds.{list_any-append}
use Rattle.std.proofs.lemmas.Map.Lookups.{CmpEqualImpliesEq}
use Rattle.rx_fields.specs.Order.{id_cmp, key_cmp}
use Rattle.rx_d0_values.specs.declared.transmission.Transmission.{Transmission}
use Rattle.rx_ledger.specs.Ledger.{Ledger}
use Rattle.rx_ledger.proofs.Orders.{id_exact, id_total, key_exact, key_total}
use Rattle.rx_sorted.specs.Ascending.{contains_key, itself}
use Rattle.rx_books_family.specs.Books.{Book, OfFamily, OfKey}
use Rattle.rx_books_parcel.specs.Footprints.{FootprintParts, names}
use Rattle.rx_schedule.specs.Footprints.{footprint_at, in_order}
use Rattle.rx_schedule.proofs.InOrder.{among-in_order, named_in}
use Rattle.rx_schedule.specs.Shards.{AreApart, IsGrouping, books_of_shard, is_of, places_of, union}
use Rattle.rx_schedule.proofs.Chosen.{IsChosen, places_have, places_chosen}

-- a test that an item of one of the lists passes
module _ {X Y : Type 0} (p : X → Bool) (f : Y → List X) where
  joined : (i : Y) (is : List Y) → list_any p (flat_map f (i ∷ is)) ≡ list_any p (f i) || list_any p (flat_map f is)
  joined i is = ap (list_any p) (flat_map-cons f i is) ∙ list_any-append p (f i) (flat_map f is)

  any_here : (is : List Y) (i : Y) → Contains is i → list_any p (f i) ≡ true → list_any p (flat_map f is) ≡ true
  any_here [] i w h = let lt = w.1 in absurd (omega arith)
  any_here (j ∷ is) i (zero, lt, e) h = joined j is ∙ or_left (list_any p (f j)) _ (rw e h)
  any_here (j ∷ is) i (suc k, lt, e) h =
      joined j is ∙ or_right (list_any p (f j)) _ (any_here is i (k, omega arith, e) h)

  pub any_whose : (is : List Y) → list_any p (flat_map f is) ≡ true → (i : Y) × Contains is i × (list_any p (f i) ≡ true)
  any_whose [] h = absurd (both_ways _ refl h)
  any_whose (j ∷ is) h = elim (or_cases (list_any p (f j)) (list_any p (flat_map f is)) (sym (joined j is) ∙ h)) [
    | inl here ↦ (j, (zero, omega arith, refl), here)
    | inr w ↦
        let later = any_whose is w in
        let c = later.1 in
        (later.0, (suc c.0, (let lt = c.1 in omega arith), c.2), later.2)
  ]

-- a name of the union is one of the lists'
module _ {K : Type 0} (cmp : K → K → Ordering) (order : IsTotalOrder cmp) (exact : CmpEqualImpliesEq cmp) (f : ℕ → List K)
    (is : List ℕ) (k : K) where
  in_union : contains_key cmp itself (in_order cmp (flat_map f is)) k ≡ list_any (eq_by_cmp cmp k) (flat_map f is)
  in_union = named_in cmp order exact (in_order cmp (flat_map f is)) k ∙ among-in_order cmp order exact (flat_map f is) k

  name_here : (i : ℕ) → Contains is i → contains_key cmp itself (f i) k ≡ true
      → contains_key cmp itself (in_order cmp (flat_map f is)) k ≡ true
  name_here i w h = in_union ∙ any_here (eq_by_cmp cmp k) f is i w (sym (named_in cmp order exact (f i) k) ∙ h)

  name_whose : contains_key cmp itself (in_order cmp (flat_map f is)) k ≡ true
      → (i : ℕ) × Contains is i × (contains_key cmp itself (f i) k ≡ true)
  name_whose h =
      let by = any_whose (eq_by_cmp cmp k) f is (sym in_union ∙ h) in
      (by.0, by.1, named_in cmp order exact (f by.0) k ∙ by.2)

module _ (footprint : ℕ → FootprintParts) where
  pub named_here : (places : List ℕ) (i : ℕ) → Contains places i → (b : Book) → names (footprint i) b ≡ true
      → names (union footprint places) b ≡ true
  named_here places i w (OfKey k) h = name_here key_cmp key_total key_exact (λ i. (footprint i).keys) places k i w h
  named_here places i w (OfFamily f) h = name_here id_cmp id_total id_exact (λ i. (footprint i).families) places f i w h

  pub named_whose : (places : List ℕ) (b : Book) → names (union footprint places) b ≡ true
      → (i : ℕ) × Contains places i × (names (footprint i) b ≡ true)
  named_whose places (OfKey k) h = name_whose key_cmp key_total key_exact (λ i. (footprint i).keys) places k h
  named_whose places (OfFamily f) h = name_whose id_cmp id_total id_exact (λ i. (footprint i).families) places f h

  module _ (n : ℕ) (shard : ℕ → ℕ) where
    -- whose footprint names a book of the shard
    pub whose : (k : ℕ) (b : Book) → names (books_of_shard footprint n shard k) b ≡ true
        → (i : ℕ) × IsChosen (is_of shard k) n i × (names (footprint i) b ≡ true)
    whose k b theirs =
        let by = named_whose (places_of (is_of shard k) n) b theirs in (
          by.0,
          All-contains (IsChosen (is_of shard k) n) (places_of (is_of shard k) n) by.0
              (places_chosen (is_of shard k) n) by.1,
          by.2,
        )

    -- what a place names is its shard's
    pub own_shard : (i : ℕ) (b : Book) → 1 ≤ i → i ≤ n → names (footprint i) b ≡ true
        → names (books_of_shard footprint n shard (shard i)) b ≡ true
    own_shard i b one to named = named_here (places_of (is_of shard (shard i)) n) i
        (places_have (is_of shard (shard i)) n i one to (eq-eqb (shard i) (shard i) refl)) b named

    -- a place that names a book of the shard is in it
    pub is_in : IsGrouping footprint n shard → (k i : ℕ) (b : Book) → 1 ≤ i → i ≤ n → names (footprint i) b ≡ true
        → names (books_of_shard footprint n shard k) b ≡ true → shard i ≡ k
    is_in together k i b one to named theirs =
        let by = whose k b theirs in
        together i by.0 one to by.1.from_one by.1.to b named by.2 ∙ eqb-true (shard by.0) k by.1.is

pub shard_apart : (L : Ledger) (records : List Transmission) (shard : ℕ → ℕ)
    → IsGrouping (footprint_at L records) (length records) shard → (k : ℕ)
    → AreApart L records (is_of shard k) (books_of_shard (footprint_at L records) (length records) shard k)
shard_apart L records shard together k =
    let footprint = footprint_at L records in
    let n = length records in
    record {
      inside = λ i one to mine b named. named_here footprint (places_of (is_of shard k) n) i
          (places_have (is_of shard k) n i one to mine) b named;
      outside = λ i one to other b named. false_from_ne_true (names (books_of_shard footprint n shard k) b)
          (λ theirs. both_ways _ other (eq-eqb (shard i) k (is_in footprint n shard together k i b one to named theirs)));
    }
