-- Plumbing: what is adjudicated by several workers, and what they leave.
use Rattle.std.specs.Prelude.{◌≡◌, ◌<◌, ◌≤◌, ◌↔◌, ℕ, List, [], length, map, slice_get, slice_index_or, Some}
use Rattle.std.specs.List.{All, Contains}
use Rattle.rx_d0_values.specs.declared.reply.Reply.{Reply}
use Rattle.rx_d0_values.specs.declared.transmission.Transmission.{Transmission}
use Rattle.rx_fields.specs.Numbered.{Span}
use Rattle.rx_fields.specs.declared.key.Key.{Key}
use Rattle.rx_fields.specs.declared.limits.TheConstants.{MOST_DETAILS}
use Rattle.rx_books_family.specs.Books.{IsInOrder}
use Rattle.rx_books_store.specs.OpenBooks.{OpenParts}
use Rattle.rx_ledger.specs.Fold.{fold_ledger, fold_replies}
use Rattle.rx_ledger.specs.Ledger.{Ledger}
use Rattle.rx_schedule.specs.Footprints.{footprint_at}
use Rattle.rx_schedule.specs.Shards.{IsGrouping, is_of, keys_at, ledger_of, places_of, replies_of}
use Rattle.rx_schedule.specs.Waves.{number_in}
use Rattle.rx_serial.specs.Named.{keys_named}
use Rattle.rx_serial.specs.declared.finished.Finished.{Finished}
use Rattle.rx_wave.specs.declared.job.Job.{Job}
use Rattle.rx_wave.specs.declared.shard.Ended.{Ended}

-- the place is one of this many, which are counted from 1
pub record IsPlaceOf (count place : ℕ) : Type 0 where
  pub from_one : 1 ≤ place
  pub to_count : place ≤ count

-- books of this period, opened with a slot for each fill key that the records name
pub record IsOpenedAt (period : Span) (ledger : Ledger) (records : List Transmission) (opened : OpenParts) : Type 0 where
  pub same : opened.books ≡ record { period = period; ledger = ledger }
  pub slots : (key : Key) → Contains (keys_named records) key → Contains opened.slots key

module _ (job : Job) where
  -- the books have the period of the sheet, and there are no more records than a batch may have
  pub record IsJob : Type 0 where
    pub period : job.books.now.period ≡ job.sheet.now.figures.period
    pub few : length job.transmissions.now ≤ MOST_DETAILS

  -- each place is one of its records
  abbrev pub ArePlaces : List ℕ → Type 0
  ArePlaces places = All (IsPlaceOf (length job.transmissions.now)) places

  -- the books, and the replies, are those of adjudicating the records one after another
  pub record IsFinished (finished : Finished) : Type 0 where
    pub books : finished.books ≡ record {
      period = job.sheet.now.figures.period;
      ledger = fold_ledger job.lot job.sheet.now 1 job.transmissions.now job.books.now.ledger;
    }
    pub replies : finished.replies.items ≡ fold_replies job.lot job.sheet.now 1 job.transmissions.now job.books.now.ledger

  -- the opening books with the period of the sheet, and a slot for each fill key that the records name
  abbrev pub IsOpened : OpenParts → Type 0
  IsOpened = IsOpenedAt job.sheet.now.figures.period job.books.now.ledger job.transmissions.now

  -- the records at these places were adjudicated one after another on the opening books
  pub record HasRun (places : List ℕ) (ended : Ended) : Type 0 where
    pub period : ended.books.books.period ≡ job.sheet.now.figures.period
    pub ledger : ended.books.books.ledger ≡ ledger_of job.lot job.sheet.now job.transmissions.now places job.books.now.ledger
    pub keys : (key : Key) → Contains ended.keys.items key ↔ Contains (keys_at job.transmissions.now places) key
    pub replies : ended.replies.items ≡ replies_of job.lot job.sheet.now job.transmissions.now places job.books.now.ledger

  -- so were those of each shard, by the numbers of all records; no two of them share a book
  pub record HaveRun (numbers : List ℕ) (ended : List Ended) : Type 0 where
    pub in_order : IsInOrder job.books.now.ledger
    pub grouped : IsGrouping (footprint_at job.books.now.ledger job.transmissions.now) (length job.transmissions.now)
        (number_in numbers)
    pub one_each : length numbers ≡ length job.transmissions.now
    pub within : All (λ number. number < length ended) numbers
    pub each : (k : ℕ) (end : Ended) → slice_get ended k ≡ Some end
        → HasRun (places_of (is_of (number_in numbers) k) (length job.transmissions.now)) end

-- the replies of each shard, by its number, are those at its places
pub record AreReplies (reply : ℕ → Reply) (numbers : List ℕ) (replies : List (List Reply)) : Type 0 where
  pub within : All (λ number. number < length replies) numbers
  pub each : (k : ℕ) → k < length replies
      → slice_index_or replies k [] ≡ map reply (places_of (is_of (number_in numbers) k) (length numbers))
