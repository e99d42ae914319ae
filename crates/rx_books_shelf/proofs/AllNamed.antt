-- The keys and the families that footprints name.
use Rattle.std.proofs.Common.{◌≡◌, ℕ, zero, suc, ◌≤◌, List, [], ◌∷◌, ◌++◌, append_assoc, arith, length, take, refl, sym, ap, ◌∙◌}
use Rattle.std.specs.List.{All, flat_map}
use Rattle.std.proofs.lemmas.List.{append-nil}
use Rattle.std.proofs.lemmas.List.Elements.{All-weaker}
use Rattle.rx_fields.specs.Order.{id_cmp, key_cmp}
use Rattle.rx_fields.specs.declared.key.Key.{Key}
use Rattle.rx_sorted.specs.Ascending.{IsAscending, contains_key, itself}
use Rattle.rx_ledger.proofs.Orders.{id_exact, id_total, key_exact, key_total}
use Rattle.rx_books_parcel.specs.Footprints.{FootprintParts, IsFootprint}
use Rattle.rx_books_shelf.specs.Opened.{all_families, all_keys}
use Rattle.rx_books_shelf.proofs.Ascended.{gathered_is}

pub flat_more : {A B : Type 0} (f : A → List B) (xs : List A) (x : A) → flat_map f (xs ++ x ∷ []) ≡ flat_map f xs ++ f x
flat_more f [] x = append-nil (f x)
flat_more f (y ∷ ys) x = ap (λ zs. f y ++ zs) (flat_more f ys x) ∙ sym (append_assoc (f y) (flat_map f ys) (f x))

pub all_taken : {A : Type 0} (i : ℕ) (xs : List A) → length xs ≤ i → take i xs ≡ xs
all_taken zero [] h = refl
all_taken (suc i) [] h = refl
all_taken zero (x ∷ xs) h = absurd (omega (arith, h))
all_taken (suc i) (x ∷ xs) h = ap (λ ys. x ∷ ys) (all_taken i xs (omega (arith, h)))

pub keys_are : (footprints : List FootprintParts) → All IsFootprint footprints → (ks : List Key) → IsAscending key_cmp itself ks
    → ((k : Key) → contains_key key_cmp itself ks k ≡ contains_key key_cmp itself (flat_map (λ (F : FootprintParts). F.keys)
    footprints) k)
    → ks ≡ all_keys footprints
keys_are footprints all ks rise has =
    gathered_is key_cmp key_total key_exact (λ (F : FootprintParts). F.keys) footprints ks
    (All-weaker IsFootprint (λ F. IsAscending key_cmp itself F.keys) (λ F is. is.keys_rise) footprints all) rise has

pub families_are : (footprints : List FootprintParts) → All IsFootprint footprints → (fs : List (List ℕ)) → IsAscending id_cmp itself fs
    → ((f : List ℕ) → contains_key id_cmp itself fs f ≡ contains_key id_cmp itself (flat_map (λ (F : FootprintParts). F.families)
    footprints) f)
    → fs ≡ all_families footprints
families_are footprints all fs rise has =
    gathered_is id_cmp id_total id_exact (λ (F : FootprintParts). F.families) footprints fs
    (All-weaker IsFootprint (λ F. IsAscending id_cmp itself F.families) (λ F is. is.families_rise) footprints all) rise has
