-- Plumbing: the columns of a desk: they hold what its type keeps, and count the events that are still to come.
use Rattle.std.specs.Prelude.{◌≡◌, ℕ, ◌+◌, ◌*◌, ◌≤◌, List, length, reverse, sum_by}
use Rattle.rx_fields.specs.Numbered.{LotParts}
use Rattle.rx_d0_values.specs.declared.reply.Reply.{Reply}
use Rattle.rx_d0_values.specs.declared.transmission.Transmission.{Transmission}
use Rattle.rx_ledger.specs.declared.figures.Figures.{Figures}
use Rattle.rx_ledger.specs.declared.sheet.Listed.{Listed}
use Rattle.rx_ledger.specs.TermList.{TermParts}
use Rattle.rx_books_parcel.specs.Footprints.{FootprintParts}
use Rattle.rx_books_store.specs.LedgerBooks.{LedgerBooks}
use Rattle.rx_books_family.specs.Shelves.{ShelfParts, has_slot, is_out, value_of}
use Rattle.rx_schedule.specs.declared.event.Event.{Event}
use Rattle.rx_schedule.specs.Footprints.{footprints_of}
use Rattle.rx_schedule.specs.Queues.{QueueParts}
use Rattle.rx_desk.specs.declared.state.State.{State}
use Rattle.rx_desk.specs.declared.state.State.TheVariants.{Given, Out, Waiting}
use Rattle.rx_desk.specs.Desks.{DeskJob}
use Rattle.rx_desk.specs.Invariant.{Holdings, IsDesk}

-- ---- counts

-- how many events of a record are still to come
abbrev pub events_left : State → ℕ
events_left Waiting = 2
events_left (Out p) = 1
events_left Given = 0

-- 1 where the record waits
abbrev pub one_waiting : State → ℕ
one_waiting Waiting = 1
one_waiting (Out p) = 0
one_waiting Given = 0

-- the history and the events still to come are two a record, for which there is room; and this many records wait
pub record IsCounted (capacity : ℕ) (history : List Event) (states : List State) (waiting : ℕ) : Type 0 where
  pub events : length history + sum_by events_left states ≡ 2 * length states
  pub room : 2 * length states ≤ capacity
  pub left : waiting ≡ sum_by one_waiting states

-- ---- the desk

-- the job of these parts; its plan is the sheet's figures and drugs
abbrev pub job_with : LotParts → Figures → List Listed → List TermParts → LedgerBooks → List Transmission → DeskJob
job_with lot figures drugs terms books records = record {
  lot = lot;
  plan = record { figures = figures; drugs = drugs };
  terms = terms;
  books = books;
  records = records;
}

-- what it holds
abbrev pub holdings : ShelfParts → QueueParts → List State → List Reply → Holdings
holdings shelf queues states replies =
    record {
      value = value_of shelf;
      has_slot = has_slot shelf;
      is_out = is_out shelf;
      handed = queues.handed;
      passed = queues.passed;
      states = states;
      replies = replies;
    }

-- what a desk keeps of its job and its events: the footprints are the job's, and the queues are theirs; the shelf is of
-- the books' period, and was made of the opening ledger
pub record IsKept (j : DeskJob) (capacity : ℕ) (history : List Event) (footprints : List FootprintParts) (queues : QueueParts)
    (shelf : ShelfParts) (states : List State) (waiting : ℕ) (replies : List Reply) : Type 0 where
  pub desk : IsDesk j (reverse history) (holdings shelf queues states replies)
  pub named : footprints ≡ footprints_of j.books.ledger j.records
  pub queued : queues.footprints ≡ footprints
  pub period : shelf.period ≡ j.books.period
  pub beside : shelf.rest ≡ j.books.ledger
  pub counted : IsCounted capacity history states waiting
