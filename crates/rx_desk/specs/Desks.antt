-- Meaning: a desk as its callers see it: its job, and the events so far. What may be asked of it is defined by the machine of
-- `rx_schedule`: which events are legal, and where they have led.
use Rattle.std.specs.Prelude.{◌≡◌, ℕ, ◌-◌, ◌++◌, List, [], ◌∷◌, Some, length, map, reverse, slice_get, slice_index_or}
use Rattle.rx_fields.specs.Numbered.{LotParts, Span}
use Rattle.rx_fields.specs.declared.key.Key.{Key}
use Rattle.rx_d0_values.specs.declared.transmission.Transmission.{Transmission}
use Rattle.rx_ledger.specs.Fold.{fold_ledger}
use Rattle.rx_ledger.specs.Ledger.{Ledger}
use Rattle.rx_ledger.specs.Plan.{Plan}
use Rattle.rx_ledger.specs.SameTerms.{IsTermsOf}
use Rattle.rx_ledger.specs.TermList.{TermParts}
use Rattle.rx_books_family.specs.declared.key_book.KeyBook.{KeyBook}
use Rattle.rx_books_family.specs.Books.{Book, OfFamily, OfKey}
use Rattle.rx_books_family.specs.FamilyBook.{FamilyBook}
use Rattle.rx_books_parcel.specs.Footprints.{FootprintParts}
use Rattle.rx_books_parcel.specs.Parcels.{ParcelParts}
use Rattle.rx_adjudicate.specs.Orders.{OrderParts}
use Rattle.rx_books_store.specs.LedgerBooks.{LedgerBooks}
use Rattle.rx_schedule.specs.declared.event.Event.{Event}
use Rattle.rx_schedule.specs.declared.event.Event.TheVariants.{Take}
use Rattle.rx_schedule.specs.Footprints.{footprint_at, no_record, record_at}
use Rattle.rx_schedule.specs.Jobs.{job}
use Rattle.rx_schedule.specs.Machine.{Reached, IsPlace, Job, MayGive, MayTake, Was, replay}
use Rattle.rx_desk.specs.declared.next.Next.{Next}
use Rattle.rx_desk.specs.declared.next.Next.TheVariants as next

-- ---- the job

-- a lot, a plan with the terms of each record, the opening books, and the records
pub record DeskJob : Type 0 where
  pub lot : LotParts
  pub plan : Plan
  pub terms : List TermParts
  pub books : LedgerBooks
  pub records : List Transmission

-- these are the lot, the plan, the opening books and the records of the job
pub record IsJob (j : DeskJob) (lot : LotParts) (plan : Plan) (books : LedgerBooks) (records : List Transmission) : Type 0 where
  pub lot_is : j.lot ≡ lot
  pub plan_is : j.plan ≡ plan
  pub books_are : j.books ≡ books
  pub records_are : j.records ≡ records

-- each record has its own terms, under which it is adjudicated as under the plan
pub record AreTermsOf (lot : LotParts) (plan : Plan) (records : List Transmission) (terms : List TermParts) : Type 0 where
  pub one_each : length terms ≡ length records
  pub each : (i : ℕ) (t : TermParts) → slice_get terms i ≡ Some t → IsTermsOf lot plan (slice_index_or records i no_record) t

abbrev pub AreTerms : DeskJob → Type 0
AreTerms j = AreTermsOf j.lot j.plan j.records j.terms

-- the job for the machine, and the footprint of the record at a place
abbrev pub machine_of : DeskJob → Job
machine_of j = job j.lot j.plan j.books.ledger j.records

abbrev pub footprint_in : DeskJob → ℕ → FootprintParts
footprint_in j place = footprint_at j.books.ledger j.records place

-- ---- the events

-- a job, and the events so far in their order
pub record DeskParts : Type 0 where
  pub job : DeskJob
  pub history : List Event

-- the same job after one more event
abbrev pub after_event : DeskParts → Event → DeskParts
after_event d e = record d { history = d.history ++ e ∷ [] }

-- the events, the last of them first, and where they have led
abbrev pub past_of : DeskParts → List Event
past_of d = reverse d.history

abbrev pub led_to : (d : DeskParts) → Reached (machine_of d.job)
led_to d = replay (machine_of d.job) (past_of d)

-- ---- orders

-- the books of a footprint with these values, as a parcel
abbrev pub key_book : (Book → Ledger) → Key → KeyBook
key_book v k = record { key = k; row = slice_get (v (OfKey k)).rows 0 }

abbrev pub family_book : Span → (Book → Ledger) → List ℕ → FamilyBook
family_book period v f =
    record { family = f; period = period; members = (v (OfFamily f)).members; rows = (v (OfFamily f)).rows }

abbrev pub parcel_of : Span → FootprintParts → (Book → Ledger) → ParcelParts
parcel_of period F v =
    record { period = period; keys = map (key_book v) F.keys; families = map (family_book period v) F.families }

-- the record may be taken: it wasn't, and every earlier record that it shares with was given
abbrev pub MayBeTaken : DeskParts → ℕ → Type 0
MayBeTaken d place = MayTake (machine_of d.job) place (past_of d)

-- the order is out: its record was taken and not given, and it is that record, with its terms, and with the values of its
-- books that were set aside for it
pub record IsOut (d : DeskParts) (o : OrderParts) : Type 0 where
  pub taken : MayGive o.place (past_of d)
  pub record_is : o.transmission ≡ record_at d.job.records o.place
  pub terms_are : slice_get d.job.terms (o.place - 1) ≡ Some o.terms
  pub parcel_is : o.parcel ≡ parcel_of d.job.books.period (footprint_in d.job o.place) ((led_to d).parcels o.place)

-- what `next` answers: an order of a record that may be taken, which is out from then on; that none may be taken, though some are
-- left; that none is left; or that memory ran out
abbrev pub IsNext : DeskParts → Next → DeskParts → Type 0
IsNext old (next.Order o) new = MayBeTaken old o.place × (new ≡ after_event old (Take o.place)) × IsOut new o
IsNext old next.Later new =
    (new ≡ old) × ((place : ℕ) → MayBeTaken old place → ⊥)
    × ((place : ℕ) × IsPlace (machine_of old.job) place × (Was (Take place) (past_of old) → ⊥))
IsNext old next.Over new =
    (new ≡ old) × ((place : ℕ) → IsPlace (machine_of old.job) place → Was (Take place) (past_of old))
IsNext old next.Memory new = new ≡ old

-- ---- the end

-- the books after all records, one after another in file order
abbrev pub final_books : DeskJob → LedgerBooks
final_books j = record { period = j.books.period; ledger = fold_ledger j.lot j.plan 1 j.records j.books.ledger }
