-- A family that is noted for a fill key is one of that key's billers, and the others stay.
use Rattle.std.proofs.Common.{◌≡◌, ℕ, Bool, cond, ◌||◌, ◌&&◌, List, [], ◌∷◌, ◌++◌, append-nil, append_assoc, ◌+◌, ◌-◌, ◌<◌}
use Rattle.std.proofs.Common.{arith, length, get_or, take, Some, Result, Ok, Err, OnOk, refl, ap, sym, ◌∙◌, inl, inr}
use Rattle.std.specs.BTreeMap.{BTreeMap, get, is_at}
use Rattle.std.specs.BTreeSet.{BTreeSet, insert_key}
use Rattle.std.specs.List.{flat_map}
use Rattle.std.specs.Ordering.{is_eq}
use Rattle.std.proofs.lemmas.Bool.{cases_Bool}
use Rattle.std.proofs.lemmas.Grind.{flat_map-append}
use Rattle.std.proofs.lemmas.List.{get_or_default, take_more}
use Rattle.std.proofs.lemmas.List.Concat.{flat_map-cons}
use Rattle.std.proofs.lemmas.List.Folds.{list_any-append}
use Rattle.rx_fields.specs.Order.{id_cmp, key_cmp}
use Rattle.rx_fields.specs.declared.key.Key.{Key}
use Rattle.rx_sorted.proofs.Keys.{cases_Ordering, Equal-from_is_eq}
use Rattle.rx_ledger.specs.Ledger.{Ledger}
use Rattle.rx_ledger.proofs.Orders.{id_exact, key_exact}
use Rattle.rx_schedule.specs.Billed.{HasBilled, billed_families, families_kept, has_family, is_biller}
use Rattle.rx_d0_values.specs.declared.bill.BillParts.{BillParts}
use Rattle.rx_d0_values.specs.declared.transaction.Transaction.TheVariants.{Bill}
use Rattle.rx_d0_values.specs.declared.transmission.Heard.{Heard as HeardRecord}
use Rattle.rx_d0_values.specs.declared.transmission.Transmission.{Transmission}
use Rattle.rx_ledger.specs.Named.{key_in}
use Rattle.rx_schedule.specs.Footprints.{billed_by, billers, billers_in, footprint_at, footprint_of, no_record}
use Rattle.rx_schedule.proofs.Ors.{asked_twice, grouped, or_false, swapped, turned}

-- what is among the families with one more
among-insert : (families : List (List ℕ)) (family f : List ℕ)
    → has_family (insert_key id_cmp families family) f ≡ is_eq (id_cmp f family) || has_family families f
among-insert [] family f = refl
among-insert (x ∷ xs) family f = elim (cases_Ordering (id_cmp family x)) [
  | inl less ↦ rw less refl
  | inr (inl tied) ↦
      let same : family ≡ x = id_exact family x tied in
      rw (tied, same) (asked_twice (is_eq (id_cmp f x)) (has_family xs f))
  | inr (inr more) ↦ rw (more, among-insert xs family f)
      (turned (is_eq (id_cmp f x)) (is_eq (id_cmp f family)) (has_family xs f))
]

-- the map whose entry of the key has one family more
pub noted : (m n : BTreeMap Key (BTreeSet (List ℕ))) (key : Key) (w : BTreeSet (List ℕ)) (family : List ℕ)
    → ((q : Key) → get key_cmp n q ≡ cond (is_at (key_cmp key) q) (Some w) (get key_cmp m q))
    → w.keys ≡ insert_key id_cmp (billed_families m key) family
    → (k : Key) (f : List ℕ)
    → is_biller n k f ≡ is_eq (key_cmp key k) && is_eq (id_cmp f family) || is_biller m k f
noted m n key w family updates made k f = elim (cases_Bool (is_eq (key_cmp key k))) [
  | inl here ↦
      let same : key ≡ k = key_exact key k (Equal-from_is_eq _ here) in
      let now : billed_families n k ≡ w.keys = ap families_kept (updates k) ∙ rw here refl in
      ap (λ families. has_family families f) (now ∙ made) ∙ among-insert (billed_families m key) family f
      ∙ ap (λ j. is_eq (id_cmp f family) || is_biller m j f) same
      ∙ rw here refl
  | inr other ↦
      let now : billed_families n k ≡ billed_families m k = ap families_kept (updates k) ∙ rw other refl in
      ap (λ families. has_family families f) now ∙ rw other refl
]

-- ---- the items so far, and one more

pub flat_map-one : {X Y : Type 0} (f : X → List Y) (xs : List X) (x : X) → flat_map f (xs ++ x ∷ []) ≡ flat_map f xs ++ f x
flat_map-one f xs x = flat_map-append f xs (x ∷ []) ∙ ap (λ ys. flat_map f xs ++ ys) (flat_map-cons f x [] ∙ append-nil (f x))

pub flat_map-more : {X Y : Type 0} (f : X → List Y) (xs : List X) (i : ℕ) (d : X) → i < length xs
    → flat_map f (take (i + 1) xs) ≡ flat_map f (take i xs) ++ f (get_or xs i d)
flat_map-more f xs i d h = ap (flat_map f) (take_more xs i d h) ∙ flat_map-one f (take i xs) (get_or xs i d)

pub among-more : {X : Type 0} (g : X → List (List ℕ)) (xs : List X) (i : ℕ) (d : X) (f : List ℕ) → i < length xs
    → has_family (flat_map g (take (i + 1) xs)) f ≡ has_family (flat_map g (take i xs)) f || has_family (g (get_or xs i d)) f
among-more g xs i d f h = ap (λ ys. has_family ys f) (flat_map-more g xs i d h)
    ∙ list_any-append _ (flat_map g (take i xs)) (g (get_or xs i d))

-- what is noted of one item more, and what is named by one item more
pub more_noted : {X : Type 0} (g : X → List (List ℕ)) (xs : List X) (i : ℕ) (x : X) (f : List ℕ) (first old now : Bool)
    → i < length xs → x ≡ get_or xs i x
    → old ≡ has_family (flat_map g (take i xs)) f || first → now ≡ has_family (g x) f || old
    → now ≡ has_family (flat_map g (take (i + 1) xs)) f || first
more_noted g xs i x f first old now h item before step =
    step ∙ ap (λ b. has_family (g x) f || b) before
    ∙ turned (has_family (g x) f) (has_family (flat_map g (take i xs)) f) first
    ∙ sym (grouped (has_family (flat_map g (take i xs)) f) (has_family (g x) f) first)
    ∙ ap (λ y. (has_family (flat_map g (take i xs)) f || has_family (g y) f) || first) item
    ∙ ap (λ b. b || first) (sym (among-more g xs i x f h))

pub more_named : {X : Type 0} (g : X → List (List ℕ)) (xs : List X) (i : ℕ) (x : X) (f : List ℕ) (first old now : Bool)
    → i < length xs → x ≡ get_or xs i x
    → old ≡ first || has_family (flat_map g (take i xs)) f → now ≡ old || has_family (g x) f
    → now ≡ first || has_family (flat_map g (take (i + 1) xs)) f
more_named g xs i x f first old now h item before step =
    step ∙ ap (λ b. b || has_family (g x) f) before
    ∙ grouped first (has_family (flat_map g (take i xs)) f) (has_family (g x) f)
    ∙ ap (λ y. first || (has_family (flat_map g (take i xs)) f || has_family (g y) f)) item
    ∙ ap (λ b. first || b) (sym (among-more g xs i x f h))

pub more_put : {X Y : Type 0} (g : X → List Y) (xs : List X) (i : ℕ) (x : X) (first old now : List Y)
    → i < length xs → x ≡ get_or xs i x
    → old ≡ first ++ flat_map g (take i xs) → now ≡ old ++ g x → now ≡ first ++ flat_map g (take (i + 1) xs)
more_put g xs i x first old now h item before step =
    step ∙ ap (λ ys. ys ++ g x) before
    ∙ append_assoc first (flat_map g (take i xs)) (g x)
    ∙ ap (λ y. first ++ (flat_map g (take i xs) ++ g y)) item
    ∙ ap (λ ys. first ++ ys) (sym (flat_map-more g xs i x h))

-- a billing's biller
pub among_billed : (h : HeardRecord) (k : Key) (b : BillParts) (f : List ℕ)
    → has_family (billed_by h k (Bill b)) f ≡ is_eq (key_cmp (key_in h b.reference) k) && is_eq (id_cmp f b.family)
among_billed h k b f = elim (cases_Bool (is_eq (key_cmp (key_in h b.reference) k))) [
  | inl own ↦ rw own (or_false (is_eq (id_cmp f b.family)))
  | inr other ↦ rw other refl
]

-- what holds after an `Ok`
pub on_ok : {A E : Type 0} {P Q : Type 0} (r : Result A E) → OnOk r P → (P → Q) → OnOk r Q
on_ok (Ok a) holds then = then holds
on_ok (Err e) holds then = tt

-- the map after one record more
pub billed_more : (old new : BTreeMap Key (BTreeSet (List ℕ))) (earlier : List Transmission) (t : Transmission)
    → HasBilled old earlier
    → ((k : Key) (f : List ℕ) → is_biller new k f ≡ has_family (billers_in k t.body) f || is_biller old k f)
    → HasBilled new (earlier ++ t ∷ [])
billed_more old new earlier t has step k f =
    step k f ∙ ap (λ b. has_family (billers_in k t.body) f || b) (has k f)
    ∙ swapped (has_family (billers_in k t.body) f) (has_family (billers k earlier) f)
    ∙ sym (list_any-append _ (billers k earlier) (billers_in k t.body))
    ∙ ap (λ families. has_family families f) (sym (flat_map-one (λ u. billers_in k u.body) earlier t))

-- the footprint at the place of the next record
pub footprint-next : (L : Ledger) (records : List Transmission) (i : ℕ) (t : Transmission) → i < length records
    → t ≡ get_or records i t → footprint_of L (take i records) t.body ≡ footprint_at L records (1 + i)
footprint-next L records i t h item =
    let at : 1 + i - 1 ≡ i = omega arith in
    let read : get_or records i no_record ≡ get_or records i t = get_or_default records i no_record t h in
    rw (at, read) (ap (λ u. footprint_of L (take i records) u.body) item)
