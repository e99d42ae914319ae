-- Where the desk's job is the one that was asked for, its books and replies at the end are that job's.
use Rattle.std.proofs.Common.{◌≡◌, refl}
use Rattle.rx_books_store.specs.LedgerBooks.{LedgerBooks}
use Rattle.rx_d0_values.specs.declared.transmission.Transmission.{Transmission}
use Rattle.rx_desk.specs.Desks.{DeskJob, IsJob, final_books}
use Rattle.rx_fields.specs.Numbered.{LotParts}
use Rattle.rx_ledger.specs.Fold.{fold_ledger, fold_replies}
use Rattle.rx_ledger.specs.Plan.{Plan}
use Rattle.std.specs.Prelude.{List}

module _ (j : DeskJob) (lot : LotParts) (plan : Plan) (books : LedgerBooks) (records : List Transmission)
    (is : IsJob j lot plan books records) where
  pub books_at_end : books.period ≡ plan.figures.period
      → final_books j ≡ record { period = plan.figures.period; ledger = fold_ledger lot plan 1 records books.ledger }
  books_at_end period = rw (is.lot_is, is.plan_is, is.books_are, is.records_are, period) refl

  pub replies_at_end : fold_replies j.lot j.plan 1 j.records j.books.ledger ≡ fold_replies lot plan 1 records books.ledger
  replies_at_end = rw (is.lot_is, is.plan_is, is.books_are, is.records_are) refl
