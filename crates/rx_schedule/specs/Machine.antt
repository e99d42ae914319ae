-- Meaning: books that are taken out and given back, whatever books and records are.
use Rattle.std.specs.Prelude.{◌≡◌, ◌≢◌, ℕ, ◌<◌, ◌≤◌, Bool, true, false, if◌then◌else◌, ◌==◌}
use Rattle.std.specs.Prelude.{List, [], ◌∷◌, ◌⊎◌, ◌↔◌, Option, Some, None, suc, length, map, ◌++◌}
use Rattle.rx_schedule.specs.declared.event.Event.{Event}
use Rattle.rx_schedule.specs.declared.event.Event.TheVariants.{Take, Give}

-- What is to be done: records at the places 1 to count, the books that each names, and what each makes of the values of
-- its books. An absent book has the value `absent`.
pub record Job : Type 1 where
  pub Book : Type 0
  pub Value : Type 0
  pub Reply : Type 0
  pub count : ℕ
  pub names : ℕ → Book → Bool
  pub work : ℕ → (Book → Value) → Reply × (Book → Value)
  pub opening : Book → Value
  pub absent : Value

-- the value of each book
abbrev pub Store : Job → Type 0
Store job = job.Book → job.Value

-- the job has a record at the place
pub record IsPlace (job : Job) (i : ℕ) : Type 0 where
  pub from_one : 1 ≤ i
  pub to_count : i ≤ job.count

-- the values of a record's books, and nothing of the others
abbrev pub own_values : (job : Job) → ℕ → Store job → Store job
own_values job i s b = if job.names i b then s b else job.absent

-- two records share: some book is named by both
abbrev pub Share : Job → ℕ → ℕ → Type 0
Share job i j = (b : job.Book) × (job.names i b ≡ true) × (job.names j b ≡ true)

-- this one is among those
abbrev pub Was : {A : Type 0} → A → List A → Type 0
Was e [] = ⊥
Was e (x ∷ past) = (x ≡ e) ⊎ Was e past

-- ---- events, the last of them first

-- after these events the record may be taken: it wasn't, and every earlier record that it shares with was given
pub record MayTake (job : Job) (i : ℕ) (past : List Event) : Type 0 where
  pub there : IsPlace job i
  pub once : Was (Take i) past → ⊥
  pub sharers : (j : ℕ) → 1 ≤ j → j < i → Share job j i → Was (Give j) past

-- after these events the record may be given: it was taken, and not given
pub record MayGive (i : ℕ) (past : List Event) : Type 0 where
  pub taken : Was (Take i) past
  pub once : Was (Give i) past → ⊥

-- each event may come after those before it
abbrev pub IsLegal : Job → List Event → Type 0
IsLegal job [] = Unit {0}
IsLegal job (Take i ∷ past) = MayTake job i past × IsLegal job past
IsLegal job (Give i ∷ past) = MayGive i past × IsLegal job past

-- every record was given
abbrev pub IsComplete : Job → List Event → Type 0
IsComplete job past = (i : ℕ) → IsPlace job i → Was (Give i) past

-- the books in place, the values that were taken out for each record, and the replies so far
pub record Reached (job : Job) : Type 0 where
  pub books : Store job
  pub parcels : ℕ → Store job
  pub replies : ℕ → Option job.Reply

-- the same, but x at i
abbrev pub with_at : {A : Type 0} → (ℕ → A) → ℕ → A → ℕ → A
with_at f i x j = if j == i then x else f j

-- the values of the record's books are set aside
abbrev pub take : (job : Job) → ℕ → Reached job → Reached job
take job i d =
    record {
      books = λ b. if job.names i b then job.absent else d.books b;
      parcels = with_at d.parcels i (own_values job i d.books);
      replies = d.replies;
    }

-- what the record makes of them is put back, and its reply is noted
abbrev pub give : (job : Job) → ℕ → Reached job → Reached job
give job i d =
    record {
      books = λ b. if job.names i b then (job.work i (d.parcels i)).1 b else d.books b;
      parcels = d.parcels;
      replies = with_at d.replies i (Some (job.work i (d.parcels i)).0);
    }

-- the events one after another, from the opening books in place
abbrev pub replay : (job : Job) → List Event → Reached job
replay job [] = record { books = job.opening; parcels = λ i b. job.absent; replies = λ i. None }
replay job (Take i ∷ past) = take job i (replay job past)
replay job (Give i ∷ past) = give job i (replay job past)

-- ---- one record after another in file order

-- `at i` is the books before the record at place i, and `reply i` its reply there: what the record makes of its own books only is
-- what it makes of all, and it changes no other book
pub record IsFoldOf (job : Job) (at : ℕ → Store job) (reply : ℕ → job.Reply) : Type 0 where
  pub begins : (b : job.Book) → at 1 b ≡ job.opening b
  pub replies : (i : ℕ) → IsPlace job i → (job.work i (own_values job i (at i))).0 ≡ reply i
  pub inside : (i : ℕ) → IsPlace job i → (b : job.Book) → job.names i b ≡ true
      → (job.work i (own_values job i (at i))).1 b ≡ at (suc i) b
  pub outside : (i : ℕ) → IsPlace job i → (b : job.Book) → job.names i b ≡ false → at (suc i) b ≡ at i b

-- ---- other orders, the last record first

-- R of each and each after it
abbrev pub Pairs : (ℕ → ℕ → Type 0) → List ℕ → Type 0
Pairs R [] = Unit {0}
Pairs R (i ∷ rest) = ((j : ℕ) → Was j rest → R i j) × Pairs R rest

-- each record of the job once
pub record HasEachOnce (job : Job) (order : List ℕ) : Type 0 where
  pub all : (i : ℕ) → IsPlace job i → Was i order
  pub there : (i : ℕ) → Was i order → IsPlace job i
  pub once : Pairs (λ later earlier. earlier ≢ later) order

-- one record after another, each taken and given at once
abbrev pub one_by_one : List ℕ → List Event
one_by_one [] = []
one_by_one (i ∷ before) = Give i ∷ Take i ∷ one_by_one before

-- of two records that share, the one that comes earlier is the earlier in the file
abbrev pub KeepsFileOrder : Job → List ℕ → Type 0
KeepsFileOrder job = Pairs (λ later earlier. Share job earlier later → earlier < later)

-- a valid numbering: each number exceeds those of the earlier records that it shares with
abbrev pub IsNumbering : Job → (ℕ → ℕ) → Type 0
IsNumbering job number = (i j : ℕ) → 1 ≤ i → i < j → j ≤ job.count → Share job i j → number i < number j

-- the records go by their numbers, in any order within one number
abbrev pub GoesByNumber : (ℕ → ℕ) → List ℕ → Type 0
GoesByNumber number = Pairs (λ later earlier. number earlier ≤ number later)

-- ---- wave by wave, the last wave first

-- a wave's records, in the order in which they are taken, and in that in which they are given
pub record Wave : Type 0 where
  pub takes : List ℕ
  pub gives : List ℕ

-- a wave's records are all taken, and then all given
abbrev pub wave_by_wave : List Wave → List Event
wave_by_wave [] = []
wave_by_wave (wave ∷ before) = map Give wave.gives ++ (map Take wave.takes ++ wave_by_wave before)

-- the wave has the records with this number, each once
pub record IsWave (job : Job) (number : ℕ → ℕ) (n : ℕ) (wave : Wave) : Type 0 where
  pub takes : (i : ℕ) → Was i wave.takes ↔ (IsPlace job i × (number i ≡ n))
  pub gives : (i : ℕ) → Was i wave.gives ↔ (IsPlace job i × (number i ≡ n))
  pub taken_once : Pairs (λ later earlier. earlier ≢ later) wave.takes
  pub given_once : Pairs (λ later earlier. earlier ≢ later) wave.gives

-- the waves of the numbers from 1 on
abbrev pub AreNumbered : Job → (ℕ → ℕ) → List Wave → Type 0
AreNumbered job number [] = Unit {0}
AreNumbered job number (wave ∷ before) = IsWave job number (suc (length before)) wave × AreNumbered job number before

-- the records go wave by wave, each in the wave of its number
pub record GoesInWaves (job : Job) (number : ℕ → ℕ) (waves : List Wave) : Type 0 where
  pub numbered : AreNumbered job number waves
  pub whole : (i : ℕ) → IsPlace job i → (1 ≤ number i) × (number i ≤ length waves)
