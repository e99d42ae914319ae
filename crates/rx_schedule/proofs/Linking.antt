-- The links between the uses of all books are the links of the footprints.
use Rattle.std.proofs.Common.{◌≡◌, ℕ, zero, suc, ◌+◌, ◌<◌, ◌≤◌, true, List, [], ◌∷◌, ◌++◌, length, ap, sym, ◌∙◌, inl, inr, arith, subst}
use Rattle.std.specs.Prelude.{◌⊎◌}
use Rattle.std.specs.Cmp.{IsTotalOrder}
use Rattle.std.specs.declared.cmp.Ordering.{Ordering}
use Rattle.std.proofs.lemmas.Bool.{cases_lt}
use Rattle.std.proofs.lemmas.List.FromFn.{get_or-map-range_with_len, length-map-range_with_len}
use Rattle.std.proofs.lemmas.Map.Lookups.{CmpEqualImpliesEq}
use Rattle.rx_fields.specs.Order.{id_cmp, key_cmp}
use Rattle.rx_fields.specs.declared.key.Key.{Key}
use Rattle.rx_ledger.proofs.Orders.{id_exact, id_total, key_exact, key_total}
use Rattle.rx_books_parcel.specs.Footprints.{FootprintParts}
use Rattle.rx_schedule.specs.declared.links.Link.{Link}
use Rattle.rx_schedule.specs.Footprints.{in_order}
use Rattle.rx_schedule.specs.Links.{AreLinks, is_used, linked, links_in, use_cmp}
use Rattle.rx_schedule.specs.Marked.{has_name}
use Rattle.rx_schedule.specs.Used.{AreWithin, footprints_used, names_at}
use Rattle.rx_schedule.specs.Waves.{footprint_in, meet, nothing, shares}
use Rattle.rx_schedule.proofs.InOrder.{IsAscending-in_order, among-in_order}
use Rattle.rx_schedule.proofs.Linked.{linked-append, links_forward, links_reach, use_exact, use_total}
use Rattle.rx_schedule.proofs.Scanned.{meet_by_family, meet_by_key, meet_in}
use Rattle.rx_schedule.proofs.Spread.{named_used}

some_name : {K : Type 0} (cmp : K → K → Ordering) (names : List K) (k : K) → has_name cmp names k ≡ true → 1 ≤ length names
some_name cmp [] k h = absurd (cc h)
some_name cmp (x ∷ xs) k h = omega arith

-- of one kind of names
module _ {K : Type 0} (cmp : K → K → Ordering) (order : IsTotalOrder cmp) (exact : CmpEqualImpliesEq cmp)
    (names : FootprintParts → List K)
    (meets : (F G : FootprintParts) (k : K) → has_name cmp (names F) k ≡ true → has_name cmp (names G) k ≡ true → meet F G ≡ true)
    (fs : List FootprintParts) (uses : List (K × ℕ))
    (here : (p : ℕ) → 1 ≤ p → p ≤ length fs → names (footprint_in fs p) ≡ names_at uses p)
    (within : AreWithin (length fs) uses) where
  abbrev sorted : List (K × ℕ)
  sorted = in_order (use_cmp cmp) uses

  is_there : (k : K) (p : ℕ) → is_used cmp sorted k p ≡ true
      → (1 ≤ p) × (p ≤ length fs) × (has_name cmp (names (footprint_in fs p)) k ≡ true)
  is_there k p used =
      let named : has_name cmp (names_at uses p) k ≡ true = named_used cmp order exact uses k p
      ∙ sym (among-in_order (use_cmp cmp) (use_total cmp order exact) (use_exact cmp order exact) uses (k, p)) ∙ used in
      let at = within.places p (some_name cmp (names_at uses p) k named) in
      (at.0, at.1, ap (λ ns. has_name cmp ns k) (here p at.0 at.1) ∙ named)

  has_use : (k : K) (p : ℕ) → 1 ≤ p → p ≤ length fs → has_name cmp (names (footprint_in fs p)) k ≡ true
      → is_used cmp sorted k p ≡ true
  has_use k p one to named = among-in_order (use_cmp cmp) (use_total cmp order exact) (use_exact cmp order exact) uses (k, p)
      ∙ sym (named_used cmp order exact uses k p) ∙ ap (λ ns. has_name cmp ns k) (sym (here p one to)) ∙ named

  one_forward : (p q : ℕ) → 1 ≤ linked p q (links_in cmp sorted)
      → (1 ≤ p) × (p < q) × (q ≤ length fs) × (shares fs p q ≡ true)
  one_forward p q h =
      let w = links_forward cmp order exact sorted p q
      (IsAscending-in_order (use_cmp cmp) (use_total cmp order exact) (use_exact cmp order exact) uses) h in
      let a = is_there w.0 p w.1 in
      let b = is_there w.0 q w.2 in
      (a.0, w.3, b.1, meets (footprint_in fs p) (footprint_in fs q) w.0 a.2 b.2)

  one_reaches : (k : K) (j i : ℕ) → 1 ≤ j → j < i → i ≤ length fs → has_name cmp (names (footprint_in fs j)) k ≡ true
      → has_name cmp (names (footprint_in fs i)) k ≡ true
      → (q : ℕ) × (1 ≤ linked j q (links_in cmp sorted)) × (q ≤ i) × ((q ≡ i) ⊎ (shares fs q i ≡ true))
  one_reaches k j i one lt to a b =
      let w = links_reach cmp order exact sorted k j i
      (IsAscending-in_order (use_cmp cmp) (use_total cmp order exact) (use_exact cmp order exact) uses)
      (has_use k j one (omega arith) a) (has_use k i (omega arith) to b) lt in
      let at = is_there k w.0 w.2 in
      (w.0, w.1, w.3, inr (meets (footprint_in fs w.0) (footprint_in fs i) k at.2 b))

-- ---- of all names

module _ (count : ℕ) (keys : List (Key × ℕ)) (families : List (List ℕ × ℕ)) (in_keys : AreWithin count keys)
    (in_families : AreWithin count families) where
  abbrev whole : List FootprintParts
  whole = footprints_used count keys families

  abbrev made : ℕ → FootprintParts
  made place = record { keys = names_at keys place; families = names_at families place }

  many : length whole ≡ count
  many = length-map-range_with_len made 1 count

  at_place : (p : ℕ) → 1 ≤ p → p ≤ length whole → footprint_in whole p ≡ made p
  at_place zero one to = absurd (omega arith)
  at_place (suc i) one to =
      let e : length whole ≡ count = many in
      get_or-map-range_with_len made 1 count i (suc i) nothing (omega arith) (omega arith)

  abbrev key_links : List Link
  key_links = links_in key_cmp (in_order (use_cmp key_cmp) keys)

  abbrev family_links : List Link
  family_links = links_in id_cmp (in_order (use_cmp id_cmp) families)

  keys_here : (p : ℕ) → 1 ≤ p → p ≤ length whole → (footprint_in whole p).keys ≡ names_at keys p
  keys_here p one to = ap (λ F. F.keys) (at_place p one to)

  families_here : (p : ℕ) → 1 ≤ p → p ≤ length whole → (footprint_in whole p).families ≡ names_at families p
  families_here p one to = ap (λ F. F.families) (at_place p one to)

  keys_within : AreWithin (length whole) keys
  keys_within = subst (λ n. AreWithin n keys) (sym many) in_keys

  families_within : AreWithin (length whole) families
  families_within = subst (λ n. AreWithin n families) (sym many) in_families

  pub are_links : AreLinks whole (key_links ++ family_links)
  are_links = record {
    forward = λ p q h.
        let e : linked p q (key_links ++ family_links) ≡ linked p q key_links + linked p q family_links =
        linked-append p q key_links family_links in
        elim (cases_lt 0 (linked p q key_links)) [
          | inl some ↦ one_forward key_cmp key_total key_exact (λ F. F.keys) meet_by_key whole keys keys_here keys_within p q
              (omega arith)
          | inr none ↦ one_forward id_cmp id_total id_exact (λ F. F.families) meet_by_family whole families families_here
              families_within p q (omega arith)
        ];
    reaches = λ j i one lt to shared. elim (meet_in (footprint_in whole j) (footprint_in whole i) shared) [
      | inl k ↦
          let w = one_reaches key_cmp key_total key_exact (λ F. F.keys) meet_by_key whole keys keys_here keys_within k.0 j i
          one lt to k.1 k.2 in
          let e : linked j w.0 (key_links ++ family_links) ≡ linked j w.0 key_links + linked j w.0 family_links =
          linked-append j w.0 key_links family_links in
          let some : 1 ≤ linked j w.0 key_links = w.1 in
          (w.0, (omega arith), w.2, w.3)
      | inr f ↦
          let w = one_reaches id_cmp id_total id_exact (λ F. F.families) meet_by_family whole families families_here
          families_within f.0 j i one lt to f.1 f.2 in
          let e : linked j w.0 (key_links ++ family_links) ≡ linked j w.0 key_links + linked j w.0 family_links =
          linked-append j w.0 key_links family_links in
          let some : 1 ≤ linked j w.0 family_links = w.1 in
          (w.0, (omega arith), w.2, w.3)
    ];
  }
