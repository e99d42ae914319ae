-- What each event changes of what a desk keeps.
use Rattle.std.proofs.Common.{◌≡◌, ◌≢◌, ℕ, ◌+◌, ◌-◌, ◌<◌, ◌≤◌, List, [], ◌∷◌, ◌++◌, true, false, Bool, cond}
use Rattle.std.proofs.Common.{◌||◌, length, get_or, set, Some, refl, sym, ap, subst, ◌∙◌, arith, inl, inr}
use Rattle.std.specs.List.{slice_get}
use Rattle.std.proofs.lemmas.Bool.{both_ways, cases_Bool, cases_eq}
use Rattle.std.proofs.lemmas.List.{get_or-set_other, get_or-set_same, length-append, length-set}
use Rattle.std.proofs.lemmas.List.Sums.{sum_by-set}
use Rattle.rx_d0_values.specs.declared.reply.Reply.{Reply}
use Rattle.rx_ledger.specs.Ledger.{Ledger, empty}
use Rattle.rx_books_family.specs.Books.{Book}
use Rattle.rx_books_parcel.specs.Footprints.{names}
use Rattle.rx_books_parcel.specs.Parcels.{ParcelParts}
use Rattle.rx_schedule.specs.declared.event.Event.{Event}
use Rattle.rx_schedule.specs.declared.event.Event.TheVariants.{Give, Take}
use Rattle.rx_schedule.specs.Machine.{IsLegal, IsPlace, MayGive, MayTake, Was, own_values, replay}
use Rattle.rx_schedule.proofs.Replayed.{in_range, taken}
use Rattle.rx_desk.specs.declared.state.State.{State}
use Rattle.rx_desk.specs.declared.state.State.TheVariants.{Given, Out, Waiting}
use Rattle.rx_desk.specs.Desks.{DeskJob, footprint_in, machine_of}
use Rattle.rx_desk.specs.Invariant.{AreHanded, AreInPlace, AreNoted, AreStates, IsSetAside, IsState}
use Rattle.rx_desk.specs.Kept.{IsCounted, events_left, one_waiting}
use Rattle.rx_desk.proofs.Lists.{slice_get-set_other, slice_get-set_same}
use Rattle.rx_desk.proofs.Passing.{alone, at_other, at_own, before_give, left_out, not_given, out_taken, still_out, was_out}

other_place : (i k : ℕ) → 1 ≤ i → 1 ≤ k → (i ≡ k → ⊥) → i - 1 ≢ k - 1
other_place i k one first n e = n (omega arith)

module _ (j : DeskJob) (past : List Event) (k : ℕ) (legal : IsLegal (machine_of j) past) where
  -- ---- the books

  module _ (value after : Book → Ledger) (has_slot has_slot' is_out is_out' : Book → Bool)
      (old : AreInPlace j past value has_slot is_out) (slots_stay : (b : Book) → has_slot' b ≡ has_slot b) where
    pub books_take : MayTake (machine_of j) k past
        → ((b : Book) → after b ≡ cond (names (footprint_in j k) b) empty (value b))
        → ((b : Book) → is_out' b ≡ names (footprint_in j k) b || is_out b)
        → AreInPlace j (Take k ∷ past) after has_slot' is_out'
    books_take may values outs = record {
      values = λ b. values b ∙ ap (cond (names (footprint_in j k) b) empty) (old.values b);
      slots = λ place b at n. slots_stay b ∙ old.slots place b at n;
      with_record = λ b h. elim (cases_Bool (names (footprint_in j k) b)) [
        | inl own ↦ (k, out_taken (machine_of j) k past legal may, own)
        | inr other ↦
            let there : is_out b ≡ true = rw other at (sym (outs b) ∙ h) in
            let found = old.with_record b there in (found.0, still_out k found.0 past found.1, found.2)
      ];
      out = λ place b out n. elim (cases_eq place k) [
        | inl same ↦ outs b ∙ rw (subst (λ p. names (footprint_in j p) b ≡ true) same n) refl
        | inr apart ↦ outs b ∙ rw (old.out place b (was_out k place past apart out) n) (or_true (names (footprint_in j k) b))
      ];
    }
      where
        or_true : (b : Bool) → b || true ≡ true
        or_true true = refl
        or_true false = refl

    pub books_give : MayGive k past → (left : Book → Ledger)
        → ((b : Book) → names (footprint_in j k) b ≡ true
        → left b ≡ ((machine_of j).work k ((replay (machine_of j) past).parcels k)).1 b)
        → ((b : Book) → after b ≡ cond (names (footprint_in j k) b) (left b) (value b))
        → ((b : Book) → is_out' b ≡ cond (names (footprint_in j k) b) false (is_out b))
        → AreInPlace j (Give k ∷ past) after has_slot' is_out'
    books_give may left made values outs = record {
      values = λ b. elim (cases_Bool (names (footprint_in j k) b)) [
        | inl own ↦ values b ∙ rw own (made b own)
        | inr other ↦ values b ∙ rw other (old.values b)
      ];
      slots = λ place b at n. slots_stay b ∙ old.slots place b at n;
      with_record = λ b h. elim (cases_Bool (names (footprint_in j k) b)) [
        | inl own ↦ absurd (let e : false ≡ true = rw own at (sym (outs b) ∙ h) in cc)
        | inr other ↦
            let there : is_out b ≡ true = rw other at (sym (outs b) ∙ h) in
            let found = old.with_record b there in
            (found.0, left_out k found.0 past (apart b found.0 found.2 other) found.1, found.2)
      ];
      out = λ place b out n.
          let before : MayGive place past = before_give k place past out in
          let other : names (footprint_in j k) b ≡ false = elim (cases_Bool (names (footprint_in j k) b)) [
            | inl own ↦ absurd (not_given k place past out (alone (machine_of j) place k past legal before may b n own))
            | inr f ↦ f
          ] in
          outs b ∙ rw other (old.out place b before n);
    }
      where
        apart : (b : Book) (place : ℕ) → names (footprint_in j place) b ≡ true → names (footprint_in j k) b ≡ false
            → place ≡ k → ⊥
        apart b place n other e = both_ways _ other (subst (λ p. names (footprint_in j p) b ≡ true) e n)

  -- ---- the states

  state_take : (place : ℕ) (s : State) → (place ≡ k → ⊥) → IsState j past place s → IsState j (Take k ∷ past) place s
  state_take place Waiting n h = λ w. elim w [ inl e ↦ n (sym (cc e)) | inr v ↦ h v ]
  state_take place (Out p) n h = (
    still_out k place past h.0,
    subst (λ v. IsSetAside j place v p) (sym (at_other (replay (machine_of j) past).parcels k place
        (own_values (machine_of j) k (replay (machine_of j) past).books) (λ e. n (sym e)))) h.1,
  )
  state_take place Given n h = inr h

  state_give : (place : ℕ) (s : State) → (place ≡ k → ⊥) → IsState j past place s → IsState j (Give k ∷ past) place s
  state_give place Waiting n h = λ w. elim w [ inl e ↦ cc e | inr v ↦ h v ]
  state_give place (Out p) n h = (left_out k place past n h.0, h.1)
  state_give place Given n h = inr h

  module _ (states : List State) (old : AreStates j past states) (at : IsPlace (machine_of j) k) where
    read_at : (place : ℕ) (s : State) → IsPlace (machine_of j) place → (place ≡ k → ⊥)
        → get_or (set states (k - 1) s) (place - 1) Waiting ≡ get_or states (place - 1) Waiting
    read_at place s there n = get_or-set_other states (k - 1) (place - 1) s Waiting
        (other_place place k there.from_one at.from_one n)

    written : (s : State) → get_or (set states (k - 1) s) (k - 1) Waiting ≡ s
    written s = get_or-set_same states (k - 1) s Waiting
        (let up : k ≤ length j.records = at.to_count in let one : 1 ≤ k = at.from_one in let e = old.one_each in omega arith)

    states_with : (new : List Event) (s : State) → IsState j new k s
        → ((place : ℕ) (t : State) → (place ≡ k → ⊥) → IsState j past place t → IsState j new place t)
        → AreStates j new (set states (k - 1) s)
    states_with new s own others = record {
      one_each = simp length-set old.one_each;
      each = λ place there. elim (cases_eq place k) [
        | inl same ↦ subst (λ p. IsState j new p (get_or (set states (k - 1) s) (p - 1) Waiting)) (sym same)
            (subst (IsState j new k) (sym (written s)) own)
        | inr n ↦ subst (IsState j new place) (sym (read_at place s there n))
            (others place (get_or states (place - 1) Waiting) n (old.each place there))
      ];
    }

    pub states_take : MayTake (machine_of j) k past → (p : ParcelParts)
        → IsSetAside j k (own_values (machine_of j) k (replay (machine_of j) past).books) p
        → AreStates j (Take k ∷ past) (set states (k - 1) (Out p))
    states_take may p is = states_with (Take k ∷ past) (Out p) (
      out_taken (machine_of j) k past legal may,
      subst (λ v. IsSetAside j k v p) (sym (at_own (replay (machine_of j) past).parcels k k
          (own_values (machine_of j) k (replay (machine_of j) past).books) refl)) is,
    )
        state_take

    pub states_give : AreStates j (Give k ∷ past) (set states (k - 1) Given)
    states_give = states_with (Give k ∷ past) Given (inl refl) state_give

  -- ---- the replies

  pub noted_take : (replies : List Reply) → AreNoted j past replies → AreNoted j (Take k ∷ past) replies
  noted_take replies old = record {
    one_each = old.one_each;
    each = λ place w. elim w [ inl e ↦ absurd (cc e) | inr v ↦ old.each place v ];
  }

  pub noted_give : (replies : List Reply) (reply : Reply) → AreNoted j past replies → MayGive k past
      → reply ≡ ((machine_of j).work k ((replay (machine_of j) past).parcels k)).0
      → AreNoted j (Give k ∷ past) (set replies (k - 1) reply)
  noted_give replies reply old may made =
      let d = replay (machine_of j) past in
      let at : IsPlace (machine_of j) k = in_range (machine_of j) k past legal may.taken in
      let within : k - 1 < length replies =
      let up : k ≤ length j.records = at.to_count in let one : 1 ≤ k = at.from_one in let e = old.one_each in omega arith in
      record {
        one_each = simp length-set old.one_each;
        each = λ place w. elim (cases_eq place k) [
          | inl same ↦
              at_own d.replies k place (Some ((machine_of j).work k (d.parcels k)).0) (sym same)
              ∙ ap Some (sym made) ∙ sym (slice_get-set_same replies (k - 1) reply within)
              ∙ ap (λ p. slice_get (set replies (k - 1) reply) (p - 1)) (sym same)
          | inr n ↦
              let earlier : Was (Give place) past = elim w [ inl e ↦ absurd (n (sym (cc e))) | inr v ↦ v ] in
              let there : IsPlace (machine_of j) place =
              in_range (machine_of j) place past legal (taken (machine_of j) place past legal earlier) in
              at_other d.replies k place (Some ((machine_of j).work k (d.parcels k)).0) (λ e. n (sym e))
              ∙ old.each place earlier
              ∙ sym (slice_get-set_other replies (k - 1) (place - 1) reply (other_place place k there.from_one at.from_one n))
        ];
      }

-- the books that were moved and moved back
pub books_stay : (j : DeskJob) (past : List Event) (value after : Book → Ledger) (has_slot has_slot' is_out is_out' : Book → Bool)
    → AreInPlace j past value has_slot is_out → ((b : Book) → after b ≡ value b) → ((b : Book) → has_slot' b ≡ has_slot b)
    → ((b : Book) → is_out' b ≡ is_out b) → AreInPlace j past after has_slot' is_out'
books_stay j past value after has_slot has_slot' is_out is_out' old values slots outs = record {
  values = λ b. values b ∙ old.values b;
  slots = λ place b at n. slots b ∙ old.slots place b at n;
  with_record = λ b h. old.with_record b (sym (outs b) ∙ h);
  out = λ place b out n. outs b ∙ old.out place b out n;
}

-- ---- who was issued and passed

pub handed_take : (past : List Event) (k : ℕ) (handed passed : List ℕ) → AreHanded past handed passed
    → AreHanded (Take k ∷ past) (k ∷ handed) passed
handed_take past k handed passed old = record {
  was_taken = λ place w. elim w [ inl e ↦ inl (ap Take e) | inr v ↦ inr (old.was_taken place v) ];
  taken = λ place w. elim w [ inl e ↦ inl (cc e) | inr v ↦ inr (old.taken place v) ];
  was_given = λ place w. inr (old.was_given place w);
  given = λ place w. elim w [ inl e ↦ absurd (cc e) | inr v ↦ old.given place v ];
}

pub handed_give : (past : List Event) (k : ℕ) (handed passed : List ℕ) → AreHanded past handed passed
    → AreHanded (Give k ∷ past) handed (k ∷ passed)
handed_give past k handed passed old = record {
  was_taken = λ place w. inr (old.was_taken place w);
  taken = λ place w. elim w [ inl e ↦ absurd (cc e) | inr v ↦ old.taken place v ];
  was_given = λ place w. elim w [ inl e ↦ inl (ap Give e) | inr v ↦ inr (old.was_given place v) ];
  given = λ place w. elim w [ inl e ↦ inl (cc e) | inr v ↦ inr (old.given place v) ];
}

-- ---- counts

pub counted_take : (capacity more : ℕ) (history : List Event) (e : Event) (states : List State) (waiting i : ℕ) (p : ParcelParts)
    → IsCounted capacity history states waiting → i < length states → get_or states i Waiting ≡ Waiting → capacity ≤ more
    → IsCounted more (history ++ e ∷ []) (set states i (Out p)) (waiting - 1)
counted_take capacity more history e states waiting i p old within waits grows =
    let sums = sum_by-set events_left states i (Out p) Waiting within in
    let two : events_left (get_or states i Waiting) ≡ 2 = ap events_left waits in
    let left = sum_by-set one_waiting states i (Out p) Waiting within in
    let one : one_waiting (get_or states i Waiting) ≡ 1 = ap one_waiting waits in
    let longer : length (history ++ e ∷ []) ≡ length history + 1 = length-append history (e ∷ []) in
    let same : length (set states i (Out p)) ≡ length states = simp length-set in
    let events = old.events in
    let room = old.room in
    let counted = old.left in
    record { events = omega arith; room = omega arith; left = omega arith }

pub counted_give : (capacity more : ℕ) (history : List Event) (e : Event) (states : List State) (waiting i : ℕ) (p : ParcelParts)
    → IsCounted capacity history states waiting → i < length states → get_or states i Waiting ≡ Out p → capacity ≤ more
    → IsCounted more (history ++ e ∷ []) (set states i Given) waiting
counted_give capacity more history e states waiting i p old within out grows =
    let sums = sum_by-set events_left states i Given Waiting within in
    let one : events_left (get_or states i Waiting) ≡ 1 = ap events_left out in
    let left = sum_by-set one_waiting states i Given Waiting within in
    let none : one_waiting (get_or states i Waiting) ≡ 0 = ap one_waiting out in
    let longer : length (history ++ e ∷ []) ≡ length history + 1 = length-append history (e ∷ []) in
    let same : length (set states i Given) ≡ length states = simp length-set in
    let events = old.events in
    let room = old.room in
    let counted = old.left in
    record { events = omega arith; room = omega arith; left = omega arith }

-- a record that waits or is out has events to come, so the history has room
pub room_for : (capacity : ℕ) (history : List Event) (states : List State) (waiting i : ℕ)
    → IsCounted capacity history states waiting → i < length states → 1 ≤ events_left (get_or states i Waiting)
    → length history < capacity
room_for capacity history states waiting i old within some =
    let sums = sum_by-set events_left states i Given Waiting within in
    let events = old.events in
    let room = old.room in
    omega arith
