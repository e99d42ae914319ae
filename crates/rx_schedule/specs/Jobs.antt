-- Meaning: the records of a batch as a job for the machine, and what the fold of the records before each has.
use Rattle.std.specs.Prelude.{◌≡◌, ℕ, ◌-◌, true, List, Some, take, length}
use Rattle.std.specs.BTreeMap.{is_at}
use Rattle.std.specs.List.{list_any}
use Rattle.rx_fields.specs.Numbered.{LotParts}
use Rattle.rx_fields.specs.Order.{id_cmp}
use Rattle.rx_fields.specs.declared.key.Key.{Key}
use Rattle.rx_d0_values.specs.declared.reply.Reply.{Reply}
use Rattle.rx_d0_values.specs.declared.transmission.Transmission.{Transmission}
use Rattle.rx_ledger.specs.Fold.{fold_ledger, ledger_after, reply_to}
use Rattle.rx_ledger.specs.Ledger.{Ledger, empty, row_under}
use Rattle.rx_ledger.specs.Plan.{Plan}
use Rattle.rx_ledger.specs.declared.row.Row.{Row}
use Rattle.rx_books_family.specs.Books.{Book, book}
use Rattle.rx_books_parcel.specs.Footprints.{names, sub}
use Rattle.rx_schedule.specs.Footprints.{footprint_at, holders, record_at}
use Rattle.rx_schedule.specs.Machine.{Job}

module _ (lot : LotParts) (plan : Plan) (L : Ledger) (records : List Transmission) where
  -- the ledger before the record at a place: that of the records before it, one after another
  abbrev pub ledger_before : ℕ → Ledger
  ledger_before place = fold_ledger lot plan 1 (take (place - 1) records) L

  -- the reply of the record there
  abbrev pub reply_at : ℕ → Reply
  reply_at place = reply_to lot plan place (record_at records place) (ledger_before place)

  -- each record on the ledger of its footprint's books only
  abbrev pub job : Job
  job =
      record {
        Book = Book;
        Value = Ledger;
        Reply = Reply;
        count = length records;
        names = λ place b. names (footprint_at L records place) b;
        work = λ place v. (
          reply_to lot plan place (record_at records place) (sub (footprint_at L records place) v),
          λ b. book b (ledger_after lot plan place (record_at records place) (sub (footprint_at L records place) v)),
        );
        opening = λ b. book b L;
        absent = empty;
      }

  -- the row under a fill key before the record at a place, if there is one, is of the family of the opening row, or of
  -- that of an earlier billing with this key
  abbrev pub IsHeld : ℕ → Type 0
  IsHeld place = (key : Key) (r : Row) → row_under (ledger_before place) key ≡ Some r
      → list_any (is_at (id_cmp r.family)) (holders L (take (place - 1) records) key) ≡ true
