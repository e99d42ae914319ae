-- Footprints that name the same books are one.
use Rattle.std.proofs.Common.{◌≡◌, List, [], ◌∷◌, map, Bool, true, false, Option, Some, None, refl, sym, ap, ◌∙◌}
use Rattle.std.specs.Cmp.{IsTotalOrder}
use Rattle.std.specs.Option.{is_some}
use Rattle.std.specs.declared.cmp.Ordering.{Ordering}
use Rattle.std.proofs.lemmas.Map.Lookups.{CmpEqualImpliesEq}
use Rattle.rx_fields.specs.Order.{id_cmp, key_cmp}
use Rattle.rx_sorted.specs.Ascending.{IsAscending, IsBelow, contains_key, item_at, itself}
use Rattle.rx_sorted.proofs.Edits.{same_items}
use Rattle.rx_sorted.proofs.LookUps.{item_at-found}
use Rattle.rx_ledger.proofs.Orders.{id_exact, id_total, key_exact, key_total}
use Rattle.rx_books_family.specs.Books.{Book, OfFamily, OfKey}
use Rattle.rx_books_family.specs.FamilyBook.{family_of}
use Rattle.rx_books_parcel.specs.Footprints.{FootprintParts, IsFootprint, names}
use Rattle.rx_books_parcel.specs.Parcels.{IsParcel, ParcelParts, key_of, named_in}

module _ {K : Type 0} (cmp : K → K → Ordering) (order : IsTotalOrder cmp) (exact : CmpEqualImpliesEq cmp) where
  -- a key that is among keys is found as itself
  found_itself : (ks : List K) (k : K) (o : Option K) → item_at cmp itself ks k ≡ o → is_some o ≡ true → o ≡ Some k
  found_itself ks k None e h = absurd (let w : false ≡ true = h in cc)
  found_itself ks k (Some j) e h = let found = item_at-found cmp order itself ks k j e in ap Some (exact j k found.1)

  none_found : (o : Option K) → is_some o ≡ false → o ≡ None
  none_found None h = refl
  none_found (Some j) h = absurd (let w : true ≡ false = h in cc)

  pub same_keys : (js ks : List K) → IsAscending cmp itself js → IsAscending cmp itself ks
      → ((k : K) → contains_key cmp itself js k ≡ contains_key cmp itself ks k) → js ≡ ks
  same_keys js ks a b same = same_items cmp order itself js ks a b (λ k. by_test k (contains_key cmp itself ks k) refl)
    where
      by_test : (k : K) (t : Bool) → contains_key cmp itself ks k ≡ t → item_at cmp itself js k ≡ item_at cmp itself ks k
      by_test k true e = found_itself js k (item_at cmp itself js k) refl (same k ∙ e)
          ∙ sym (found_itself ks k (item_at cmp itself ks k) refl e)
      by_test k false e = none_found (item_at cmp itself js k) (same k ∙ e) ∙ sym (none_found (item_at cmp itself ks k) e)

pub same_names : (F G : FootprintParts) → IsFootprint F → IsFootprint G → ((b : Book) → names F b ≡ names G b) → F ≡ G
same_names F G is_F is_G same =
    let keys = same_keys key_cmp key_total key_exact F.keys G.keys is_F.keys_rise is_G.keys_rise (λ k. same (OfKey k)) in
    let families = same_keys id_cmp id_total id_exact F.families G.families is_F.families_rise is_G.families_rise
    (λ f. same (OfFamily f)) in
    λ i. record { keys = keys i; families = families i }

module _ {X K : Type 0} (cmp : K → K → Ordering) (key : X → K) where
  below_map : (k : K) (xs : List X) → IsBelow cmp key k xs → IsBelow cmp itself k (map key xs)
  below_map k [] b = tt
  below_map k (x ∷ xs) b = (b.0, below_map k xs b.1)

  rise_map : (xs : List X) → IsAscending cmp key xs → IsAscending cmp itself (map key xs)
  rise_map [] a = tt
  rise_map (x ∷ xs) a = (below_map (key x) xs a.0, rise_map xs a.1)

-- the names of a parcel's books are a footprint
pub footprint_of : (p : ParcelParts) → IsParcel p → IsFootprint (named_in p)
footprint_of p is = record {
  keys_rise = rise_map key_cmp key_of p.keys is.keys_rise;
  families_rise = rise_map id_cmp family_of p.families is.families_rise;
}
