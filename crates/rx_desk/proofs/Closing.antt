-- The end of a desk: where every record was given, its shelf closes with the fold's books.
use Rattle.std.proofs.Common.{◌≡◌, ℕ, List, true, false, reverse, sym, subst, ◌∙◌, inl, inr}
use Rattle.std.specs.List.{Contains}
use Rattle.std.proofs.lemmas.Bool.{cases_Bool}
use Rattle.rx_d0_values.specs.declared.reply.Reply.{Reply}
use Rattle.rx_sorted.proofs.Edits.{same_item}
use Rattle.rx_sorted.proofs.Filters.{Contains-filter, Contains-filter_kept}
use Rattle.rx_sorted.proofs.Keys.{Equal-from_is_eq}
use Rattle.rx_fields.specs.Order.{key_cmp}
use Rattle.rx_ledger.specs.declared.row.Row.{Row}
use Rattle.rx_ledger.specs.Fold.{fold_ledger, fold_replies}
use Rattle.rx_ledger.specs.Ledger.{IsLedger, Ledger}
use Rattle.rx_ledger.specs.Rows.{row_key}
use Rattle.rx_ledger.proofs.Orders.{key_total}
use Rattle.rx_books_family.specs.Books.{Book, IsInOrder, book, has_row}
use Rattle.rx_books_parcel.specs.Footprints.{FootprintParts}
use Rattle.rx_books_store.specs.LedgerBooks.{LedgerBooks}
use Rattle.rx_books_family.specs.Shelves.{AreAllAgreed, ShelfParts, is_out, value_of}
use Rattle.rx_schedule.specs.declared.event.Event.{Event}
use Rattle.rx_schedule.specs.Machine.{IsComplete}
use Rattle.rx_schedule.specs.Queues.{QueueParts}
use Rattle.rx_schedule.proofs.Replayed.{in_range}
use Rattle.rx_desk.specs.declared.state.State.{State}
use Rattle.rx_desk.specs.Desks.{DeskJob, final_books, machine_of}
use Rattle.rx_desk.specs.Kept.{IsKept}
use Rattle.rx_desk.proofs.Ended.{books_end, fold_in_order, ledger_is, replies_are}
use Rattle.rx_desk.proofs.Starting.{ledger_in_order}

-- the books of a ledger in order agree
module _ (v : Book → Ledger) (L : Ledger) (order : IsInOrder L) (books : (b : Book) → v b ≡ book b L) where
  row_in : (b : Book) (r : Row) → Contains (v b).rows r → Contains L.rows r × (has_row b r ≡ true)
  row_in b r among = Contains-filter (has_row b) L.rows r (subst (λ (M : Ledger). Contains M.rows r) (books b) among)

  all_agree : AreAllAgreed v
  all_agree = record {
    one = λ b c r s here there tied.
        let in_r = row_in b r here in
        let in_s = row_in c s there in
        same_item key_cmp key_total row_key L.rows r s order.rows_rise in_r.0 in_s.0 (Equal-from_is_eq _ tied);
    everywhere = λ b c r here has.
        let in_r = row_in b r here in
        subst (λ (M : Ledger). Contains M.rows r) (sym (books c)) (Contains-filter_kept (has_row c) L.rows r in_r.0 has);
  }

module _ (j : DeskJob) (capacity : ℕ) (history : List Event) (footprints : List FootprintParts) (queues : QueueParts)
    (shelf : ShelfParts) (states : List State) (waiting : ℕ) (replies : List Reply)
    (kept : IsKept j capacity history footprints queues shelf states waiting replies)
    (whole : IsComplete (machine_of j) (reverse history)) where
  pub nothing_out : (b : Book) → is_out shelf b ≡ false
  nothing_out b = elim (cases_Bool (is_out shelf b)) [
    | inl out ↦
        let found = kept.desk.in_place.with_record b out in
        let at = in_range (machine_of j) found.0 (reverse history) kept.desk.legal found.1.taken in
        absurd (found.1.once (whole found.0 at))
    | inr f ↦ f
  ]

  values_end : (b : Book) → value_of shelf b ≡ book b (fold_ledger j.lot j.plan 1 j.records j.books.ledger)
  values_end b = kept.desk.in_place.values b ∙ books_end j (reverse history) kept.desk.of_job kept.desk.legal whole b

  pub end_agreed : AreAllAgreed (value_of shelf)
  end_agreed = all_agree (value_of shelf) (fold_ledger j.lot j.plan 1 j.records j.books.ledger)
      (fold_in_order j (reverse history) kept.desk.of_job kept.desk.legal) values_end

  pub end_books : (books : LedgerBooks) → books.period ≡ shelf.period → IsLedger books.ledger
      → ((b : Book) → book b books.ledger ≡ value_of shelf b) → books ≡ final_books j
  end_books books period is values =
      let same : books.period ≡ j.books.period = period ∙ kept.period in
      let ledger = ledger_is j (reverse history) kept.desk.of_job kept.desk.legal whole books.ledger
      (ledger_in_order books.ledger is) (λ b. values b ∙ kept.desk.in_place.values b) in
      λ i. record { period = same i; ledger = ledger i }

  pub end_replies : replies ≡ fold_replies j.lot j.plan 1 j.records j.books.ledger
  end_replies = replies_are j (reverse history) kept.desk.of_job kept.desk.legal whole replies kept.desk.noted
