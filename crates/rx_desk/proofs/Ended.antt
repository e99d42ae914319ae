-- What a desk has is the fold's: the law of every interleaving, read at its history.
use Rattle.std.proofs.Common.{◌≡◌, ℕ, zero, suc, ◌+◌, ◌-◌, ◌<◌, ◌≤◌, List, [], ◌∷◌, true, length}
use Rattle.std.proofs.Common.{get_or, take, Some, refl, sym, ap, subst, ◌∙◌, arith, inl, inr}
use Rattle.std.specs.List.{slice_get}
use Rattle.std.proofs.lemmas.Bool.{cases_lt}
use Rattle.std.proofs.lemmas.Option.{slice_get_past}
use Rattle.rx_fields.specs.Numbered.{LotParts}
use Rattle.rx_d0_values.specs.declared.reply.Reply.{Reply}
use Rattle.rx_d0_values.specs.declared.transmission.Transmission.{Transmission}
use Rattle.rx_ledger.specs.Fold.{fold_ledger, fold_replies, ledger_after, reply_to}
use Rattle.rx_ledger.specs.Ledger.{Ledger}
use Rattle.rx_ledger.specs.Plan.{Plan}
use Rattle.rx_books_family.specs.Books.{Book, IsInOrder, book}
use Rattle.rx_books_parcel.proofs.OneLedger.{one_ledger}
use Rattle.rx_schedule.specs.declared.event.Event.{Event}
use Rattle.rx_schedule.specs.declared.event.Event.TheVariants.{Give}
use Rattle.rx_schedule.specs.Footprints.{no_record}
use Rattle.rx_schedule.specs.Jobs.{ledger_before, reply_at}
use Rattle.rx_schedule.specs.Machine.{IsComplete, IsLegal, IsPlace, MayTake, Was, replay}
use Rattle.rx_schedule.proofs.Holder.{ledger_end, order_before}
use Rattle.rx_schedule.proofs.Interleaved.{ends, finds as found, noted}
use Rattle.rx_desk.specs.Desks.{DeskJob, machine_of}
use Rattle.rx_desk.specs.Invariant.{AreNoted, IsKeptJob}
use Rattle.rx_desk.proofs.Lists.{same_places}

-- ---- the replies of the fold

module _ (lot : LotParts) (plan : Plan) where
  replies_count : (place : ℕ) (records : List Transmission) (L : Ledger)
      → length (fold_replies lot plan place records L) ≡ length records
  replies_count place [] L = refl
  replies_count place (t ∷ ts) L = ap suc (replies_count (place + 1) ts (ledger_after lot plan place t L))

  reply_in : (place : ℕ) (records : List Transmission) (L : Ledger) (i : ℕ) → i < length records
      → slice_get (fold_replies lot plan place records L) i
      ≡ Some (reply_to lot plan (place + i) (get_or records i no_record) (fold_ledger lot plan place (take i records) L))
  reply_in place [] L i h = absurd (omega arith)
  reply_in place (t ∷ ts) L zero h = ap (λ p. Some (reply_to lot plan p t L)) (omega arith)
  reply_in place (t ∷ ts) L (suc i) h =
      reply_in (place + 1) ts (ledger_after lot plan place t L) i (omega arith)
      ∙ ap (λ p. Some (reply_to lot plan p (get_or ts i no_record)
      (fold_ledger lot plan (place + 1) (take i ts) (ledger_after lot plan place t L)))) (omega arith)

-- ---- what a desk has in the end

module _ (j : DeskJob) (past : List Event) (fit : IsKeptJob j) (legal : IsLegal (machine_of j) past) where
  pub noted_are : (place : ℕ) → Was (Give place) past
      → (replay (machine_of j) past).replies place ≡ Some (reply_at j.lot j.plan j.books.ledger j.records place)
  noted_are place w = noted j.lot j.plan j.books.ledger j.records fit.in_order past legal place w

  pub finds : (place : ℕ) → MayTake (machine_of j) place past → (b : Book)
      → (machine_of j).names place b ≡ true
      → (replay (machine_of j) past).books b ≡ book b (ledger_before j.lot j.plan j.books.ledger j.records place)
  finds place may b n = found j.lot j.plan j.books.ledger j.records fit.in_order past place (may, legal) b n

  pub fold_in_order : IsInOrder (fold_ledger j.lot j.plan 1 j.records j.books.ledger)
  fold_in_order = subst IsInOrder (ledger_end j.lot j.plan j.books.ledger j.records)
      (order_before j.lot j.plan j.books.ledger j.records fit.in_order (suc (length j.records)))

  module _ (whole : IsComplete (machine_of j) past) where
    pub books_end : (b : Book) → (replay (machine_of j) past).books b ≡ book b (fold_ledger j.lot j.plan 1 j.records j.books.ledger)
    books_end b = ends j.lot j.plan j.books.ledger j.records fit.in_order past legal whole b

    pub ledger_is : (L : Ledger) → IsInOrder L → ((b : Book) → book b L ≡ (replay (machine_of j) past).books b)
        → L ≡ fold_ledger j.lot j.plan 1 j.records j.books.ledger
    ledger_is L order values = one_ledger L (fold_ledger j.lot j.plan 1 j.records j.books.ledger) order fold_in_order
        (λ b. values b ∙ books_end b)

    pub replies_are : (replies : List Reply) → AreNoted j past replies
        → replies ≡ fold_replies j.lot j.plan 1 j.records j.books.ledger
    replies_are replies noted = same_places replies (fold_replies j.lot j.plan 1 j.records j.books.ledger) by_place
      where
        by_place : (i : ℕ) → slice_get replies i ≡ slice_get (fold_replies j.lot j.plan 1 j.records j.books.ledger) i
        by_place i = elim (cases_lt i (length j.records)) [
          | inl low ↦
              let at : IsPlace (machine_of j) (suc i) = record { from_one = omega arith; to_count = omega arith } in
              let e : suc i - 1 ≡ i = omega arith in
              let p : 1 + i ≡ suc i = omega arith in
              ap (slice_get replies) (sym e) ∙ sym (noted.each (suc i) (whole (suc i) at)) ∙ noted_are (suc i) (whole (suc i) at)
              ∙ (λ t. Some (reply_to j.lot j.plan (sym p t) (get_or j.records (e t) no_record)
              (fold_ledger j.lot j.plan 1 (take (e t) j.records) j.books.ledger)))
              ∙ sym (reply_in j.lot j.plan 1 j.records j.books.ledger i low)
          | inr past_end ↦
              let a : length replies ≤ i = let e = noted.one_each in omega arith in
              let b : length (fold_replies j.lot j.plan 1 j.records j.books.ledger) ≤ i =
              let e = replies_count j.lot j.plan 1 j.records j.books.ledger in omega arith in
              slice_get_past replies i a ∙ sym (slice_get_past (fold_replies j.lot j.plan 1 j.records j.books.ledger) i b)
        ]
