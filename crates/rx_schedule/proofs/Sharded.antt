-- Records with books of their own, on the ledger of these only, keep to the fold, place by place.
use Rattle.std.proofs.Common.{◌≡◌, ℕ, zero, suc, ◌≤◌, Bool, true, false, List, [], ◌∷◌, ◌++◌, length, map, Option, Some, None, refl, ap, sym, ◌∙◌, arith, inl, inr}
use mathlib.Core.Path.{fun_ext}
use Rattle.std.proofs.lemmas.Bool.{and_from, and_parts, both_ways, cases_Bool, false_from_ne_true}
use Rattle.std.proofs.lemmas.List.{map-append}
use Rattle.rx_fields.specs.Numbered.{LotParts}
use Rattle.rx_d0_values.specs.declared.transaction.Transaction.{Transaction}
use Rattle.rx_d0_values.specs.declared.transaction.Transaction.TheVariants.{Bill, Reverse, Faulty}
use Rattle.rx_d0_values.specs.declared.transmission.Body.{Body}
use Rattle.rx_d0_values.specs.declared.transmission.Body.TheVariants.{Rejected, Heard}
use Rattle.rx_d0_values.specs.declared.transmission.Heard.{Heard as HeardRecord}
use Rattle.rx_d0_values.specs.declared.transmission.Transmission.{Transmission}
use Rattle.rx_ledger.specs.declared.row.Row.{Row}
use Rattle.rx_ledger.specs.Fold.{fold_ledger, ledger_after, reply_to}
use Rattle.rx_ledger.specs.Ledger.{Ledger, row_under}
use Rattle.rx_ledger.specs.Named.{key_in}
use Rattle.rx_ledger.specs.Plan.{Plan}
use Rattle.rx_ledger.proofs.Passed.{passed_weaker}
use Rattle.rx_books_family.specs.Books.{Book, IsInOrder, OfFamily, OfKey, book}
use Rattle.rx_books_parcel.specs.Footprints.{FootprintParts, cut, fits, fits_body, fits_one, names, names_holder, sub}
use Rattle.rx_books_parcel.proofs.Locality.{local_outside, local_reply, local_whole}
use Rattle.rx_books_parcel.proofs.Parts.{book_part, cut_part}
use Rattle.rx_schedule.specs.Footprints.{footprint_at, record_at}
use Rattle.rx_schedule.specs.Jobs.{ledger_before, reply_at}
use Rattle.rx_schedule.proofs.Holder.{fits_at, ledger_end, next_ledger, order_before}
use Rattle.rx_schedule.specs.Shards.{AreApart, IsUntouched, ledger_of, places_of, replies_of}

-- ---- a footprint with more books fits too

module _ (E F : FootprintParts) (more : (b : Book) → names E b ≡ true → names F b ≡ true) where
  holder_wider : (o : Option Row) → names_holder E o ≡ true → names_holder F o ≡ true
  holder_wider None h = refl
  holder_wider (Some r) h = more (OfFamily r.family) h

  one_wider : (h : HeardRecord) (L : Ledger) (t : Transaction) → fits_one E h L t ≡ true → fits_one F h L t ≡ true
  one_wider h L (Bill b) f =
      let parts = and_parts (names E (OfKey (key_in h b.reference))) (names E (OfFamily b.family)) f in
      and_from (names F (OfKey (key_in h b.reference))) (names F (OfFamily b.family))
      (more (OfKey (key_in h b.reference)) parts.0) (more (OfFamily b.family) parts.1)
  one_wider h L (Reverse v) f =
      let key = key_in h v.reference in
      let parts = and_parts (names E (OfKey key)) (names_holder E (row_under L key)) f in
      and_from (names F (OfKey key)) (names_holder F (row_under L key))
      (more (OfKey key) parts.0) (holder_wider (row_under L key) parts.1)
  one_wider h L (Faulty x) f = refl

  body_wider : (L : Ledger) (body : Body) → fits_body E L body ≡ true → fits_body F L body ≡ true
  body_wider L (Rejected r) f = refl
  body_wider L (Heard h) f = passed_weaker (fits_one E h L) (fits_one F h L) (one_wider h L) h.list f

  pub fits_wider : (t : Transmission) (L : Ledger) → fits E t L ≡ true → fits F t L ≡ true
  fits_wider t L f = body_wider L t.body f

-- ---- with one record more at the end

module _ (lot : LotParts) (plan : Plan) (records : List Transmission) where
  pub ledger-snoc : (places : List ℕ) (i : ℕ) (L : Ledger)
      → ledger_of lot plan records (places ++ i ∷ []) L
      ≡ ledger_after lot plan i (record_at records i) (ledger_of lot plan records places L)
  ledger-snoc [] i L = refl
  ledger-snoc (j ∷ places) i L = ledger-snoc places i (ledger_after lot plan j (record_at records j) L)

  pub replies-snoc : (places : List ℕ) (i : ℕ) (L : Ledger)
      → replies_of lot plan records (places ++ i ∷ []) L
      ≡ replies_of lot plan records places L
      ++ reply_to lot plan i (record_at records i) (ledger_of lot plan records places L) ∷ []
  replies-snoc [] i L = refl
  replies-snoc (j ∷ places) i L = ap (λ rs. reply_to lot plan j (record_at records j) L ∷ rs)
      (replies-snoc places i (ledger_after lot plan j (record_at records j) L))

-- ---- the law

module _ (lot : LotParts) (plan : Plan) (L : Ledger) (records : List Transmission) (order : IsInOrder L) where
  -- a record changes no book besides its footprint's
  step_outside : (i : ℕ) → 1 ≤ i → i ≤ length records → (b : Book) → names (footprint_at L records i) b ≡ false
      → book b (ledger_before lot plan L records (suc i)) ≡ book b (ledger_before lot plan L records i)
  step_outside i one to b other =
      ap (book b) (next_ledger lot plan L records i one to)
      ∙ local_outside lot plan i (footprint_at L records i) (record_at records i) (ledger_before lot plan L records i)
      (order_before lot plan L records order i) (fits_at lot plan L records i one to) b other

  untouched_to : (n : ℕ) (b : Book) → n ≤ length records → IsUntouched L records b
      → book b (ledger_before lot plan L records (suc n)) ≡ book b L
  untouched_to zero b to free = refl
  untouched_to (suc n) b to free =
      step_outside (suc n) (omega arith) to b (free (suc n) (omega arith) to) ∙ untouched_to n b (omega arith) free

  pub shard_untouched : (b : Book) → IsUntouched L records b → book b (fold_ledger lot plan 1 records L) ≡ book b L
  shard_untouched b free =
      ap (book b) (sym (ledger_end lot plan L records)) ∙ untouched_to (length records) b (omega arith) free

  module _ (mine : ℕ → Bool) (F : FootprintParts) (apart : AreApart L records mine F) where
    -- one of the records fits their books
    pub fits_ours : (i : ℕ) → 1 ≤ i → i ≤ length records → mine i ≡ true
        → fits F (record_at records i) (ledger_before lot plan L records i) ≡ true
    fits_ours i one to is_mine =
        fits_wider (footprint_at L records i) F (apart.inside i one to is_mine) (record_at records i)
        (ledger_before lot plan L records i) (fits_at lot plan L records i one to)

    -- it does to their books only what it does to all
    pub own_step : (i : ℕ) → 1 ≤ i → i ≤ length records → mine i ≡ true
        → ledger_after lot plan i (record_at records i) (sub F (cut F (ledger_before lot plan L records i)))
        ≡ sub F (cut F (ledger_before lot plan L records (suc i)))
    own_step i one to is_mine =
        local_whole lot plan i F (record_at records i) (ledger_before lot plan L records i)
        (order_before lot plan L records order i) (fits_ours i one to is_mine)
        ∙ ap (λ M. sub F (cut F M)) (sym (next_ledger lot plan L records i one to))

    pub own_reply : (i : ℕ) → 1 ≤ i → i ≤ length records → mine i ≡ true
        → reply_to lot plan i (record_at records i) (sub F (cut F (ledger_before lot plan L records i)))
        ≡ reply_at lot plan L records i
    own_reply i one to is_mine =
        local_reply lot plan i F (record_at records i) (ledger_before lot plan L records i)
        (order_before lot plan L records order i) (fits_ours i one to is_mine)

    -- another record does nothing to them
    pub other_step : (i : ℕ) → 1 ≤ i → i ≤ length records → mine i ≡ false
        → sub F (cut F (ledger_before lot plan L records i)) ≡ sub F (cut F (ledger_before lot plan L records (suc i)))
    other_step i one to is_other = ap (sub F) (fun_ext (λ b. elim (cases_Bool (names F b)) [
      | inl theirs ↦ rw theirs (sym (step_outside i one to b (false_from_ne_true (names (footprint_at L records i) b)
          (λ named. both_ways _ (apart.outside i one to is_other b named) theirs))))
      | inr free ↦ rw free refl
    ]))

    pub shard_ledger : (n : ℕ) → n ≤ length records
        → ledger_of lot plan records (places_of mine n) (sub F (cut F L))
        ≡ sub F (cut F (ledger_before lot plan L records (suc n)))
    shard_ledger zero to = refl
    shard_ledger (suc n) to =
        let before = shard_ledger n (omega arith) in
        elim (cases_Bool (mine (suc n))) [
          | inl is_mine ↦ rw is_mine (ledger-snoc lot plan records (places_of mine n) (suc n) (sub F (cut F L))
              ∙ ap (ledger_after lot plan (suc n) (record_at records (suc n))) before
              ∙ own_step (suc n) (omega arith) to is_mine)
          | inr is_other ↦ rw is_other (before ∙ other_step (suc n) (omega arith) to is_other)
        ]

    pub shard_replies : (n : ℕ) → n ≤ length records
        → replies_of lot plan records (places_of mine n) (sub F (cut F L))
        ≡ map (reply_at lot plan L records) (places_of mine n)
    shard_replies zero to = refl
    shard_replies (suc n) to =
        let before = shard_replies n (omega arith) in
        elim (cases_Bool (mine (suc n))) [
          | inl is_mine ↦
              let own = ap (reply_to lot plan (suc n) (record_at records (suc n))) (shard_ledger n (omega arith))
              ∙ own_reply (suc n) (omega arith) to is_mine in
              rw is_mine (replies-snoc lot plan records (places_of mine n) (suc n) (sub F (cut F L))
              ∙ ap (λ rs. rs ++ reply_to lot plan (suc n) (record_at records (suc n))
              (ledger_of lot plan records (places_of mine n) (sub F (cut F L))) ∷ []) before
              ∙ ap (λ r. map (reply_at lot plan L records) (places_of mine n) ++ r ∷ []) own
              ∙ sym (map-append (reply_at lot plan L records) (places_of mine n) (suc n ∷ [])))
          | inr is_other ↦ rw is_other before
        ]

    pub shard_books : (b : Book) → names F b ≡ true
        → book b (ledger_of lot plan records (places_of mine (length records)) (sub F (cut F L)))
        ≡ book b (fold_ledger lot plan 1 records L)
    shard_books b named =
        let end = ledger_before lot plan L records (suc (length records)) in
        ap (book b) (shard_ledger (length records) (omega arith))
        ∙ ap (book b) (cut_part F end (order_before lot plan L records order (suc (length records))))
        ∙ book_part F b end named ∙ ap (book b) (ledger_end lot plan L records)
