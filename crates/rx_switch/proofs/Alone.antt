-- Some records of a batch, adjudicated without the others at their places, keep to the fold of all where the others change nothing.
use Rattle.std.proofs.Common.{◌≡◌, ℕ, zero, suc, ◌≤◌, Bool, true, false, List, [], ◌∷◌, ◌++◌, length, map, refl, ap, sym, ◌∙◌, inl, inr}
use Rattle.std.proofs.Common.{arith}
use Rattle.std.proofs.lemmas.Bool.{cases_Bool}
use Rattle.std.proofs.lemmas.List.{map-append}
use Rattle.rx_fields.specs.Numbered.{LotParts}
use Rattle.rx_d0_values.specs.declared.transmission.Transmission.{Transmission}
use Rattle.rx_ledger.specs.Fold.{fold_ledger, ledger_after, reply_to}
use Rattle.rx_ledger.specs.Ledger.{Ledger}
use Rattle.rx_ledger.specs.Plan.{Plan}
use Rattle.rx_schedule.specs.Footprints.{record_at}
use Rattle.rx_schedule.specs.Jobs.{ledger_before, reply_at}
use Rattle.rx_schedule.specs.Shards.{ledger_of, places_of, replies_of}
use Rattle.rx_schedule.proofs.Holder.{ledger_end, next_ledger}
use Rattle.rx_schedule.proofs.Sharded.{ledger-snoc, replies-snoc}

-- the places that are chosen in two ways are the same where both ways choose alike
pub places_alike : (mine yours : ℕ → Bool) (n : ℕ) → ((i : ℕ) → 1 ≤ i → i ≤ n → mine i ≡ yours i)
    → places_of mine n ≡ places_of yours n
places_alike mine yours zero alike = refl
places_alike mine yours (suc n) alike =
    let before = places_alike mine yours n (λ i one to. alike i one (omega arith)) in
    rw (alike (suc n) (omega arith) (omega arith), before) refl

module _ (mine : ℕ → Bool) where
  -- what is the same at each chosen place is the same of all
  pub map_places : {X : Type 0} (f g : ℕ → X) (n : ℕ) → ((i : ℕ) → 1 ≤ i → i ≤ n → mine i ≡ true → f i ≡ g i)
      → map f (places_of mine n) ≡ map g (places_of mine n)
  map_places f g zero same = refl
  map_places f g (suc n) same =
      let before = map_places f g n (λ i one to is. same i one (omega arith) is) in
      elim (cases_Bool (mine (suc n))) [
        | inl is ↦ rw is (map-append f (places_of mine n) (suc n ∷ [])
            ∙ ap (λ xs. xs ++ f (suc n) ∷ []) before
            ∙ ap (λ y. map g (places_of mine n) ++ y ∷ []) (same (suc n) (omega arith) (omega arith) is)
            ∙ sym (map-append g (places_of mine n) (suc n ∷ [])))
        | inr other ↦ rw other before
      ]

  -- ---- two lists of records that have the same at the chosen places

  module _ (lot : LotParts) (plan : Plan) (L : Ledger) (records others : List Transmission) where
    pub same_ledger : (n : ℕ) → ((i : ℕ) → 1 ≤ i → i ≤ n → mine i ≡ true → record_at records i ≡ record_at others i)
        → ledger_of lot plan records (places_of mine n) L ≡ ledger_of lot plan others (places_of mine n) L
    same_ledger zero same = refl
    same_ledger (suc n) same =
        let before = same_ledger n (λ i one to is. same i one (omega arith) is) in
        elim (cases_Bool (mine (suc n))) [
          | inl is ↦ rw is (ledger-snoc lot plan records (places_of mine n) (suc n) L
              ∙ ap (λ t. ledger_after lot plan (suc n) t (ledger_of lot plan records (places_of mine n) L))
              (same (suc n) (omega arith) (omega arith) is)
              ∙ ap (ledger_after lot plan (suc n) (record_at others (suc n))) before
              ∙ sym (ledger-snoc lot plan others (places_of mine n) (suc n) L))
          | inr other ↦ rw other before
        ]

    pub same_replies : (n : ℕ) → ((i : ℕ) → 1 ≤ i → i ≤ n → mine i ≡ true → record_at records i ≡ record_at others i)
        → replies_of lot plan records (places_of mine n) L ≡ replies_of lot plan others (places_of mine n) L
    same_replies zero same = refl
    same_replies (suc n) same =
        let earlier : (i : ℕ) → 1 ≤ i → i ≤ n → mine i ≡ true → record_at records i ≡ record_at others i =
        λ i one to is. same i one (omega arith) is in
        let before = same_replies n earlier in
        let now = same (suc n) (omega arith) (omega arith) in
        elim (cases_Bool (mine (suc n))) [
          | inl is ↦ rw is (replies-snoc lot plan records (places_of mine n) (suc n) L
              ∙ ap (λ t. replies_of lot plan records (places_of mine n) L
              ++ reply_to lot plan (suc n) t (ledger_of lot plan records (places_of mine n) L) ∷ []) (now is)
              ∙ ap (λ M. replies_of lot plan records (places_of mine n) L
              ++ reply_to lot plan (suc n) (record_at others (suc n)) M ∷ []) (same_ledger n earlier)
              ∙ ap (λ rs. rs ++ reply_to lot plan (suc n) (record_at others (suc n))
              (ledger_of lot plan others (places_of mine n) L) ∷ []) before
              ∙ sym (replies-snoc lot plan others (places_of mine n) (suc n) L))
          | inr other ↦ rw other before
        ]

  -- ---- records of which the others change nothing

  module _ (lot : LotParts) (plan : Plan) (L : Ledger) (records : List Transmission)
      (others : (i : ℕ) → 1 ≤ i → i ≤ length records → mine i ≡ false → (M : Ledger)
      → ledger_after lot plan i (record_at records i) M ≡ M) where
    pub alone_ledger : (n : ℕ) → n ≤ length records
        → ledger_of lot plan records (places_of mine n) L ≡ ledger_before lot plan L records (suc n)
    alone_ledger zero to = refl
    alone_ledger (suc n) to =
        let before = alone_ledger n (omega arith) in
        let next = next_ledger lot plan L records (suc n) (omega arith) to in
        elim (cases_Bool (mine (suc n))) [
          | inl is ↦ rw is (ledger-snoc lot plan records (places_of mine n) (suc n) L
              ∙ ap (ledger_after lot plan (suc n) (record_at records (suc n))) before ∙ sym next)
          | inr other ↦ rw other (before
              ∙ sym (others (suc n) (omega arith) to other (ledger_before lot plan L records (suc n))) ∙ sym next)
        ]

    pub alone_end : ledger_of lot plan records (places_of mine (length records)) L ≡ fold_ledger lot plan 1 records L
    alone_end = alone_ledger (length records) (omega arith) ∙ ledger_end lot plan L records

    pub alone_replies : (n : ℕ) → n ≤ length records
        → replies_of lot plan records (places_of mine n) L ≡ map (reply_at lot plan L records) (places_of mine n)
    alone_replies zero to = refl
    alone_replies (suc n) to =
        let before = alone_replies n (omega arith) in
        elim (cases_Bool (mine (suc n))) [
          | inl is ↦
              let own = ap (reply_to lot plan (suc n) (record_at records (suc n))) (alone_ledger n (omega arith)) in
              rw is (replies-snoc lot plan records (places_of mine n) (suc n) L
              ∙ ap (λ rs. rs ++ reply_to lot plan (suc n) (record_at records (suc n))
              (ledger_of lot plan records (places_of mine n) L) ∷ []) before
              ∙ ap (λ r. map (reply_at lot plan L records) (places_of mine n) ++ r ∷ []) own
              ∙ sym (map-append (reply_at lot plan L records) (places_of mine n) (suc n ∷ [])))
          | inr other ↦ rw other before
        ]
