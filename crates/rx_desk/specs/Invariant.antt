-- Meaning: what every desk keeps, in the type `Desk`: its events are a start of a legal list of its job, and its books in
-- place, the orders that are out and its replies are those that these events lead to.
use Rattle.std.specs.Prelude.{◌≡◌, ℕ, ◌-◌, ◌≤◌, Bool, true, List, length}
use Rattle.std.specs.Prelude.{slice_get, slice_index_or}
use Rattle.rx_fields.specs.declared.limits.TheConstants.{MOST_DETAILS}
use Rattle.rx_d0_values.specs.declared.reply.Reply.{Reply}
use Rattle.rx_ledger.specs.Ledger.{Ledger}
use Rattle.rx_books_family.specs.Books.{Book, IsInOrder}
use Rattle.rx_books_parcel.specs.Footprints.{names}
use Rattle.rx_books_parcel.specs.Parcels.{ParcelParts, named_in, values_of}
use Rattle.rx_schedule.specs.declared.event.Event.{Event}
use Rattle.rx_schedule.specs.declared.event.Event.TheVariants.{Give, Take}
use Rattle.rx_schedule.specs.Machine.{IsLegal, IsPlace, MayGive, Was, replay}
use Rattle.rx_desk.specs.declared.state.State.{State}
use Rattle.rx_desk.specs.declared.state.State.TheVariants.{Given, Out, Waiting}
use Rattle.rx_desk.specs.Desks.{AreTerms, DeskJob, footprint_in, machine_of, parcel_of}

-- ---- its parts

-- what a job keeps: the opening ledger is in order, the totals are of the plan's period, the records are no more than a
-- batch's, and the terms are theirs
pub record IsKeptJob (j : DeskJob) : Type 0 where
  pub in_order : IsInOrder j.books.ledger
  pub period : j.books.period ≡ j.plan.figures.period
  pub few : length j.records ≤ MOST_DETAILS
  pub terms : AreTerms j

-- the books in place have the values that the events left, and a book is out where a record that names it is
pub record AreInPlace (j : DeskJob) (past : List Event) (value : Book → Ledger) (has_slot is_out : Book → Bool) : Type 0 where
  pub values : (b : Book) → value b ≡ (replay (machine_of j) past).books b
  pub slots : (place : ℕ) (b : Book) → IsPlace (machine_of j) place → names (footprint_in j place) b ≡ true
      → has_slot b ≡ true
  pub with_record : (b : Book) → is_out b ≡ true
      → (place : ℕ) × MayGive place past × (names (footprint_in j place) b ≡ true)
  pub out : (place : ℕ) (b : Book) → MayGive place past → names (footprint_in j place) b ≡ true → is_out b ≡ true

-- the parcel has these values of the record's books
pub record IsSetAside (j : DeskJob) (place : ℕ) (v : Book → Ledger) (p : ParcelParts) : Type 0 where
  pub is : p ≡ parcel_of j.books.period (footprint_in j place) v
  pub named : named_in p ≡ footprint_in j place
  pub values : (b : Book) → values_of p b ≡ v b

-- where a record is: it wasn't taken; it is out, with the values that were set aside for it; it was given
abbrev pub IsState : DeskJob → List Event → ℕ → State → Type 0
IsState j past place Waiting = Was (Take place) past → ⊥
IsState j past place (Out p) = MayGive place past × IsSetAside j place ((replay (machine_of j) past).parcels place) p
IsState j past place Given = Was (Give place) past

-- each record is where the events left it
pub record AreStates (j : DeskJob) (past : List Event) (states : List State) : Type 0 where
  pub one_each : length states ≡ length j.records
  pub each : (place : ℕ) → IsPlace (machine_of j) place → IsState j past place (slice_index_or states (place - 1) Waiting)

-- the reply to each record that was given is the one noted
pub record AreNoted (j : DeskJob) (past : List Event) (replies : List Reply) : Type 0 where
  pub one_each : length replies ≡ length j.records
  pub each : (place : ℕ) → Was (Give place) past → (replay (machine_of j) past).replies place ≡ slice_get replies (place - 1)

-- the records issued are those that were taken, and those passed are those that were given
pub record AreHanded (past : List Event) (handed passed : List ℕ) : Type 0 where
  pub was_taken : (place : ℕ) → Was place handed → Was (Take place) past
  pub taken : (place : ℕ) → Was (Take place) past → Was place handed
  pub was_given : (place : ℕ) → Was place passed → Was (Give place) past
  pub given : (place : ℕ) → Was (Give place) past → Was place passed

-- ---- every desk

-- what a desk holds besides its job and its events: the value of each book, which books have a place and which of these are
-- out, the records issued and those passed, where each record is, and the replies
pub record Holdings : Type 0 where
  pub value : Book → Ledger
  pub has_slot : Book → Bool
  pub is_out : Book → Bool
  pub handed : List ℕ
  pub passed : List ℕ
  pub states : List State
  pub replies : List Reply

-- the events are a legal list of the job, and the desk holds what they have led to
pub record IsDesk (j : DeskJob) (past : List Event) (h : Holdings) : Type 0 where
  pub of_job : IsKeptJob j
  pub legal : IsLegal (machine_of j) past
  pub in_place : AreInPlace j past h.value h.has_slot h.is_out
  pub handed_out : AreHanded past h.handed h.passed
  pub where_left : AreStates j past h.states
  pub noted : AreNoted j past h.replies
