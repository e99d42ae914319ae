-- Records with books of their own, on all opening books: they find theirs as the fold has them, and change no other.
use Rattle.std.proofs.Common.{◌≡◌, ℕ, zero, suc, ◌≤◌, Bool, true, false, List, [], ◌∷◌, ◌++◌, length, map, refl, ap, subst, sym, ◌∙◌}
use Rattle.std.proofs.Common.{arith, inl, inr}
use Rattle.std.proofs.lemmas.Bool.{cases_Bool}
use Rattle.std.proofs.lemmas.List.{map-append}
use Rattle.rx_fields.specs.Numbered.{LotParts}
use Rattle.rx_d0_values.specs.declared.transmission.Transmission.{Transmission}
use Rattle.rx_ledger.specs.Fold.{fold_ledger, ledger_after, reply_to}
use Rattle.rx_ledger.specs.Ledger.{Ledger}
use Rattle.rx_ledger.specs.Plan.{Plan}
use Rattle.rx_books_family.specs.Books.{Book, IsInOrder, book}
use Rattle.rx_books_parcel.specs.Footprints.{FootprintParts, cut, fits, names, sub}
use Rattle.rx_books_parcel.proofs.Locality.{local_fits, local_outside, local_reply, local_whole}
use Rattle.rx_books_parcel.proofs.Parts.{book_part, cut_part}
use Rattle.rx_schedule.specs.Footprints.{record_at}
use Rattle.rx_schedule.specs.Jobs.{ledger_before, reply_at}
use Rattle.rx_schedule.specs.Shards.{AreApart, ledger_of, places_of, replies_of}
use Rattle.rx_schedule.proofs.Holder.{ledger_end, order_before, order_body}
use Rattle.rx_schedule.proofs.Sharded.{fits_ours, ledger-snoc, other_step, own_reply, own_step, replies-snoc}

module _ (lot : LotParts) (plan : Plan) (L : Ledger) (records : List Transmission) (order : IsInOrder L)
    (mine : ℕ → Bool) (F : FootprintParts) (apart : AreApart L records mine F) where
  -- a ledger that has their books as the fold has them before a place, and the other books as in the opening
  record IsLike (i : ℕ) (M : Ledger) : Type 0 where
    pub rises : IsInOrder M
    pub ours : sub F (cut F M) ≡ sub F (cut F (ledger_before lot plan L records i))
    pub others : (b : Book) → names F b ≡ false → book b M ≡ book b L

  -- such a ledger before one of the records
  module _ (i : ℕ) (one : 1 ≤ i) (to : i ≤ length records) (is_mine : mine i ≡ true) (M : Ledger) (like : IsLike i M) where
    fits_like : fits F (record_at records i) M ≡ true
    fits_like =
        sym (local_fits F (record_at records i) M like.rises)
        ∙ ap (fits F (record_at records i)) like.ours
        ∙ local_fits F (record_at records i) (ledger_before lot plan L records i) (order_before lot plan L records order i)
        ∙ fits_ours lot plan L records order mine F apart i one to is_mine

    like_after : IsLike (suc i) (ledger_after lot plan i (record_at records i) M)
    like_after = record {
      rises = order_body lot plan i M (record_at records i).body like.rises;
      ours = sym (local_whole lot plan i F (record_at records i) M like.rises fits_like)
          ∙ ap (ledger_after lot plan i (record_at records i)) like.ours
          ∙ own_step lot plan L records order mine F apart i one to is_mine;
      others = λ b other. local_outside lot plan i F (record_at records i) M like.rises fits_like b other ∙ like.others b other;
    }

    reply_like : reply_to lot plan i (record_at records i) M ≡ reply_at lot plan L records i
    reply_like =
        sym (local_reply lot plan i F (record_at records i) M like.rises fits_like)
        ∙ ap (reply_to lot plan i (record_at records i)) like.ours
        ∙ own_reply lot plan L records order mine F apart i one to is_mine

  like_at : (n : ℕ) → n ≤ length records → IsLike (suc n) (ledger_of lot plan records (places_of mine n) L)
  like_at zero to = record { rises = order; ours = refl; others = λ b other. refl }
  like_at (suc n) to =
      let before = like_at n (omega arith) in
      elim (cases_Bool (mine (suc n))) [
        | inl is_mine ↦
            let step : IsLike (suc (suc n))
            (ledger_after lot plan (suc n) (record_at records (suc n)) (ledger_of lot plan records (places_of mine n) L)) =
            like_after (suc n) (omega arith) to is_mine (ledger_of lot plan records (places_of mine n) L) before in
            rw is_mine (subst (IsLike (suc (suc n))) (sym (ledger-snoc lot plan records (places_of mine n) (suc n) L)) step)
        | inr is_other ↦ rw is_other record {
          rises = before.rises;
          ours = before.ours ∙ other_step lot plan L records order mine F apart (suc n) (omega arith) to is_other;
          others = before.others;
        }
      ]

  pub unparted_replies : (n : ℕ) → n ≤ length records
      → replies_of lot plan records (places_of mine n) L ≡ map (reply_at lot plan L records) (places_of mine n)
  unparted_replies zero to = refl
  unparted_replies (suc n) to =
      let before = unparted_replies n (omega arith) in
      let like = like_at n (omega arith) in
      let M = ledger_of lot plan records (places_of mine n) L in
      elim (cases_Bool (mine (suc n))) [
        | inl is_mine ↦
            rw is_mine (replies-snoc lot plan records (places_of mine n) (suc n) L
            ∙ ap (λ rs. rs ++ reply_to lot plan (suc n) (record_at records (suc n)) M ∷ []) before
            ∙ ap (λ r. map (reply_at lot plan L records) (places_of mine n) ++ r ∷ [])
            (reply_like (suc n) (omega arith) to is_mine M like)
            ∙ sym (map-append (reply_at lot plan L records) (places_of mine n) (suc n ∷ [])))
        | inr is_other ↦ rw is_other before
      ]

  pub unparted_books : (b : Book) → names F b ≡ true
      → book b (ledger_of lot plan records (places_of mine (length records)) L) ≡ book b (fold_ledger lot plan 1 records L)
  unparted_books b named =
      let M = ledger_of lot plan records (places_of mine (length records)) L in
      let end = ledger_before lot plan L records (suc (length records)) in
      let like = like_at (length records) (omega arith) in
      sym (ap (book b) (cut_part F M like.rises) ∙ book_part F b M named)
      ∙ ap (book b) like.ours
      ∙ ap (book b) (cut_part F end (order_before lot plan L records order (suc (length records))))
      ∙ book_part F b end named ∙ ap (book b) (ledger_end lot plan L records)

  pub unparted_others : (b : Book) → names F b ≡ false
      → book b (ledger_of lot plan records (places_of mine (length records)) L) ≡ book b L
  unparted_others b other = (like_at (length records) (omega arith)).others b other
