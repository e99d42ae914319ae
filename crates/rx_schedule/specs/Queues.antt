-- Meaning: which records may go: those whose earlier sharers were all passed. Places count from 1.
use Rattle.std.specs.Prelude.{◌≡◌, ◌≢◌, ℕ, ◌<◌, ◌≤◌, true, nat_lt, if◌then◌else◌, List, length, slice_index_or, take, Option, Some, None}
use Rattle.rx_books_parcel.specs.Footprints.{FootprintParts}
use Rattle.rx_schedule.specs.Links.{AreCounted, AreFree, AreLeft, times}
use Rattle.rx_schedule.specs.Machine.{Pairs, Was}
use Rattle.rx_schedule.specs.Waves.{shares}

-- the footprints of the records in file order; the place that may be issued next, if there is one; and the places that were
-- issued, and those that were passed, the last of them first
pub record QueueParts : Type 0 where
  pub footprints : List FootprintParts
  pub next : Option ℕ
  pub handed : List ℕ
  pub passed : List ℕ

-- the record at the place wasn't issued, and every earlier record that it shares with was passed
pub record IsReady (q : QueueParts) (i : ℕ) : Type 0 where
  pub from_one : 1 ≤ i
  pub there : i ≤ length q.footprints
  pub unhanded : Was i q.handed → ⊥
  pub sharers : (j : ℕ) → 1 ≤ j → j < i → shares q.footprints j i ≡ true → Was j q.passed

-- the place is ready; if there is none, no place is
abbrev pub IsReadyIfAny : QueueParts → Option ℕ → Type 0
IsReadyIfAny q None = (i : ℕ) → IsReady q i → ⊥
IsReadyIfAny q (Some i) = IsReady q i

-- the next place is one that is ready, where any is; each place is issued at most once, and passed at most once, after it was
-- issued
pub record AreQueues (q : QueueParts) : Type 0 where
  pub next : IsReadyIfAny q q.next
  pub there : (i : ℕ) → Was i q.handed → (1 ≤ i) × (i ≤ length q.footprints)
  pub handed_once : Pairs (λ later earlier. earlier ≢ later) q.handed
  pub after : (i : ℕ) → Was i q.passed → Was i q.handed
  pub passed_once : Pairs (λ later earlier. earlier ≢ later) q.passed

-- ---- what the columns keep

-- the place after those that were issued, if there is one
abbrev pub next_in : List ℕ → ℕ → Option ℕ
next_in order handed = if nat_lt handed (length order) then Some (slice_index_or order handed 0) else None

-- the places that wait for none are in the order, of which the first ones were issued; the passed ones are among these
pub record IsRunning (fs : List FootprintParts) (rows : List (List ℕ)) (waiting order : List ℕ) (handed : ℕ)
    (passed : List ℕ) (room room_passed : ℕ) : Type 0 where
  pub left : AreLeft fs rows passed
  pub counted : AreCounted (length fs) rows waiting
  pub free : AreFree (length fs) waiting order
  pub few : handed ≤ length order
  pub after : (i : ℕ) → 1 ≤ times i passed → 1 ≤ times i (take handed order)
  pub once : (i : ℕ) → times i passed ≤ 1
  pub has_room : length fs ≤ room
  pub has_room_passed : length fs ≤ room_passed
