-- What the counts of a desk say: whether records are left, and whether all were given.
use Rattle.std.proofs.Common.{◌≡◌, ◌≢◌, ℕ, suc, ◌-◌, ◌*◌, ◌<◌, ◌≤◌, List, [], ◌∷◌, true, false, Bool, length}
use Rattle.std.proofs.Common.{get_or, reverse, Option, Some, None, refl, sym, ap, subst, ◌∙◌, arith}
use Rattle.std.specs.Prelude.{◌↔◌, IsTrue, is_some}
use Rattle.std.specs.List.{sum_by}
use Rattle.std.proofs.lemmas.List.Sums.{sum_by-cons, sum_by-set}
use Rattle.rx_d0_values.specs.declared.reply.Reply.{Reply}
use Rattle.rx_books_parcel.specs.Footprints.{FootprintParts}
use Rattle.rx_books_family.specs.Shelves.{ShelfParts}
use Rattle.rx_schedule.specs.declared.event.Event.{Event}
use Rattle.rx_schedule.specs.declared.event.Event.TheVariants.{Give, Take}
use Rattle.rx_schedule.specs.Machine.{IsComplete, IsPlace, MayTake, Was}
use Rattle.rx_schedule.specs.Queues.{IsReadyIfAny, QueueParts}
use Rattle.rx_schedule.proofs.Replayed.{taken}
use Rattle.rx_desk.specs.declared.state.State.{State}
use Rattle.rx_desk.specs.declared.state.State.TheVariants.{Given, Out, Waiting}
use Rattle.rx_desk.specs.Desks.{DeskJob, machine_of}
use Rattle.rx_desk.specs.Invariant.{IsState}
use Rattle.rx_desk.specs.Kept.{IsKept, events_left, one_waiting}
use Rattle.rx_desk.proofs.Ready.{is_ready, may_take}

-- ---- states

not_waiting : (j : DeskJob) (past : List Event) (place : ℕ) (s : State) → IsState j past place s → one_waiting s ≡ 0
    → (Was (Give place) past → Was (Take place) past) → Was (Take place) past
not_waiting j past place Waiting is none before = absurd (cc none)
not_waiting j past place (Out p) is none before = is.0.taken
not_waiting j past place Given is none before = before is

nothing_left : (j : DeskJob) (past : List Event) (place : ℕ) (s : State) → IsState j past place s → events_left s ≡ 0
    → Was (Give place) past
nothing_left j past place Waiting is none = absurd (cc none)
nothing_left j past place (Out p) is none = absurd (cc none)
nothing_left j past place Given is none = is

was_given : (j : DeskJob) (past : List Event) (place : ℕ) (s : State) → IsState j past place s → Was (Give place) past
    → (Was (Give place) past → Was (Take place) past) → events_left s ≡ 0
was_given j past place Waiting is given before = absurd (is (before given))
was_given j past place (Out p) is given before = absurd (is.0.once given)
was_given j past place Given is given before = refl

some_waits : (states : List State) → 1 ≤ sum_by one_waiting states
    → (i : ℕ) × (i < length states) × (get_or states i Waiting ≡ Waiting)
some_waits [] h = absurd (omega arith)
some_waits (Waiting ∷ states) h = (0, omega arith, refl)
some_waits (Out p ∷ states) h =
    let e = sum_by-cons one_waiting (Out p) states in
    let rest = some_waits states (omega arith) in
    (suc rest.0, omega (arith, rest.1), rest.2)
some_waits (Given ∷ states) h =
    let e = sum_by-cons one_waiting Given states in
    let rest = some_waits states (omega arith) in
    (suc rest.0, omega (arith, rest.1), rest.2)

none_to_come : (states : List State) → ((i : ℕ) → i < length states → events_left (get_or states i Waiting) ≡ 0)
    → sum_by events_left states ≡ 0
none_to_come [] h = refl
none_to_come (s ∷ states) h =
    let e = sum_by-cons events_left s states in
    let first : events_left s ≡ 0 = h 0 (omega arith) in
    let rest = none_to_come states (λ i lt. h (suc i) (omega arith)) in
    omega arith

module _ (j : DeskJob) (capacity : ℕ) (history : List Event) (footprints : List FootprintParts) (queues : QueueParts)
    (shelf : ShelfParts) (states : List State) (waiting : ℕ) (replies : List Reply)
    (kept : IsKept j capacity history footprints queues shelf states waiting replies) where
  there : (place : ℕ) → IsPlace (machine_of j) place → place - 1 < length states
  there place at =
      let e = kept.desk.where_left.one_each in
      let one : 1 ≤ place = at.from_one in
      let to : place ≤ length j.records = at.to_count in
      omega arith

  before : (place : ℕ) → Was (Give place) (reverse history) → Was (Take place) (reverse history)
  before place = taken (machine_of j) place (reverse history) kept.desk.legal

  -- where no record waits, all were taken
  pub all_taken : waiting ≡ 0 → (place : ℕ) → IsPlace (machine_of j) place → Was (Take place) (reverse history)
  all_taken none place at =
      let sums = sum_by-set one_waiting states (place - 1) Given Waiting (there place at) in
      let counted = kept.counted.left in
      let own : one_waiting (get_or states (place - 1) Waiting) ≡ 0 = omega arith in
      not_waiting j (reverse history) place (get_or states (place - 1) Waiting) (kept.desk.where_left.each place at) own
      (before place)

  -- where some do, one wasn't
  pub some_left : waiting ≢ 0
      → (place : ℕ) × IsPlace (machine_of j) place × (Was (Take place) (reverse history) → ⊥)
  some_left some =
      let counted = kept.counted.left in
      let found = some_waits states (omega arith) in
      let e = kept.desk.where_left.one_each in
      let lt = found.1 in
      let at : IsPlace (machine_of j) (suc found.0) = record { from_one = omega arith; to_count = omega arith } in
      let same : suc found.0 - 1 ≡ found.0 = omega arith in
      let state : get_or states (suc found.0 - 1) Waiting ≡ Waiting = ap (λ i. get_or states i Waiting) same ∙ found.2 in
      (suc found.0, at, subst (IsState j (reverse history) (suc found.0)) state (kept.desk.where_left.each (suc found.0) at))

  -- the history is whole where all were given
  pub complete : 2 * length states ≤ length history → IsComplete (machine_of j) (reverse history)
  complete whole place at =
      let sums = sum_by-set events_left states (place - 1) Given Waiting (there place at) in
      let events = kept.counted.events in
      let own : events_left (get_or states (place - 1) Waiting) ≡ 0 = omega arith in
      nothing_left j (reverse history) place (get_or states (place - 1) Waiting) (kept.desk.where_left.each place at) own

  pub incomplete : length history < 2 * length states → IsComplete (machine_of j) (reverse history) → ⊥
  incomplete short all =
      let events = kept.counted.events in
      let none : sum_by events_left states ≡ 0 = none_to_come states (λ i lt.
      let e = kept.desk.where_left.one_each in
      let at : IsPlace (machine_of j) (suc i) = record { from_one = omega arith; to_count = omega arith } in
      let same : suc i - 1 ≡ i = omega arith in
      ap (λ k. events_left (get_or states k Waiting)) (sym same)
      ∙ was_given j (reverse history) (suc i) (get_or states (suc i - 1) Waiting) (kept.desk.where_left.each (suc i) at)
      (all (suc i) at) (before (suc i))) in
      omega arith

  -- a record is ready exactly where one may be taken
  pub ready_exact : (o : Option ℕ) → IsReadyIfAny queues o → (r : Bool) → r ≡ is_some o
      → IsTrue r ↔ ((place : ℕ) × MayTake (machine_of j) place (reverse history))
  ready_exact None none r is = (
    λ t. absurd (let e : false ≡ true = sym is ∙ t in cc),
    λ w. absurd (none w.0 (is_ready j (reverse history) queues kept.desk.handed_out (kept.queued ∙ kept.named) w.0 w.1)),
  )
  ready_exact (Some k) ready r is =
      (λ t. (k, may_take j (reverse history) queues kept.desk.handed_out (kept.queued ∙ kept.named) k ready), λ w. is)

  pub none_ready : IsReadyIfAny queues None → (place : ℕ) → MayTake (machine_of j) place (reverse history) → ⊥
  none_ready none place may =
      none place (is_ready j (reverse history) queues kept.desk.handed_out (kept.queued ∙ kept.named) place may)
