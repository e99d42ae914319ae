-- The fill keys that the records at some places name.
use Rattle.std.proofs.Common.{◌≡◌, ℕ, ◌-◌, ◌<◌, Bool, List, length, map, refl, ap, sym, subst, ◌∙◌, arith}
use Rattle.std.proofs.Math.Path.{fun_ext}
use Rattle.std.specs.List.{Contains, flat_map}
use Rattle.std.specs.Ordering.{eq_by_cmp}
use Rattle.std.proofs.lemmas.Cmp.{eq_by_cmp_equiv}
use Rattle.std.proofs.lemmas.List.Elements.{All-contains, Contains-get_or}
use Rattle.std.proofs.lemmas.List.Folds.{flat_map-map}
use Rattle.std.proofs.lemmas.Map.Views.{Contains-from_any, list_any-from_Contains}
use Rattle.rx_fields.specs.Order.{key_cmp}
use Rattle.rx_fields.specs.declared.key.Key.{Key}
use Rattle.rx_d0_values.specs.declared.transaction.Transaction.{Transaction}
use Rattle.rx_d0_values.specs.declared.transaction.Transaction.TheVariants.{Bill, Reverse, Faulty}
use Rattle.rx_d0_values.specs.declared.transmission.Body.{Body}
use Rattle.rx_d0_values.specs.declared.transmission.Body.TheVariants.{Rejected, Heard}
use Rattle.rx_d0_values.specs.declared.transmission.Heard.{Heard as HeardRecord}
use Rattle.rx_d0_values.specs.declared.transmission.Transmission.{Transmission}
use Rattle.rx_ledger.proofs.Orders.{key_total}
use Rattle.rx_schedule.specs.Footprints.{key_named, keys_in as keys_of_body, no_record, record_at}
use Rattle.rx_schedule.specs.Shards.{keys_at, places_of}
use Rattle.rx_schedule.proofs.Chosen.{IsChosen, places_chosen}
use Rattle.rx_schedule.proofs.Grouped.{any_whose}
use Rattle.rx_schedule.proofs.Mentioned.{flat_map_has, same_key}
use Rattle.rx_serial.specs.Named.{keys_in, keys_named, keys_of}

same_of : (h : HeardRecord) (t : Transaction) → keys_of h t ≡ key_named h t
same_of h (Bill b) = refl
same_of h (Reverse v) = refl
same_of h (Faulty f) = refl

same_in : (body : Body) → keys_in body ≡ keys_of_body body
same_in (Rejected r) = refl
same_in (Heard h) =
    let same : keys_of h ≡ key_named h = fun_ext (same_of h) in
    ap (λ (f : Transaction → List Key). flat_map f h.list) same

pub keys_at_are : (records : List Transmission) (places : List ℕ)
    → keys_named (map (record_at records) places) ≡ keys_at records places
keys_at_are records places =
    let same : (λ (i : ℕ). keys_in (record_at records i).body) ≡ (λ i. keys_of_body (record_at records i).body) =
    fun_ext (λ i. same_in (record_at records i).body) in
    flat_map-map (λ (t : Transmission). keys_in t.body) (record_at records) places
    ∙ ap (λ (f : ℕ → List Key). flat_map f places) same

-- what the records at chosen places name is among what all records name
pub named_of_all : (records : List Transmission) (chosen : ℕ → Bool) (key : Key)
    → Contains (keys_at records (places_of chosen (length records))) key → Contains (keys_named records) key
named_of_all records chosen key named =
    let places = places_of chosen (length records) in
    let by = any_whose (eq_by_cmp key_cmp key) (λ i. keys_of_body (record_at records i).body) places
    (list_any-from_Contains (eq_by_cmp_equiv key_total) key (keys_at records places) named) in
    let is : IsChosen chosen (length records) by.0 =
    All-contains (IsChosen chosen (length records)) places by.0 (places_chosen chosen (length records)) by.1 in
    let from = is.from_one in
    let to = is.to in
    let within : by.0 - 1 < length records = omega arith in
    flat_map_has (λ (t : Transmission). keys_in t.body) records (record_at records by.0) key
    (Contains-get_or records (by.0 - 1) no_record within)
    (subst (λ (ks : List Key). Contains ks key) (sym (same_in (record_at records by.0).body))
    (Contains-from_any same_key key (keys_of_body (record_at records by.0).body) by.2))
