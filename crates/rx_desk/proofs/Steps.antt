-- One event, over all that a desk keeps.
use Rattle.std.proofs.Common.{◌≡◌, ℕ, ◌-◌, ◌<◌, ◌≤◌, List, [], ◌∷◌, ◌++◌, true, false, cond}
use Rattle.std.proofs.Common.{length, get_or, reverse, set, Some, refl, sym, ap, subst, ◌∙◌, arith, inl, inr}
use mathlib.Core.Path.{fun_ext}
use Rattle.std.specs.List.{slice_get}
use Rattle.std.proofs.lemmas.Bool.{cases_Bool}
use Rattle.std.proofs.lemmas.List.{get_or_read, reverse-append}
use Rattle.std.proofs.lemmas.List.FromFn.{get_or-map-range_with_len}
use Rattle.std.proofs.lemmas.List.Sums.{sum_by-set}
use Rattle.std.proofs.lemmas.Option.{same_Some, slice_get_read}
use Rattle.rx_d0_values.specs.declared.reply.Reply.{Reply}
use Rattle.rx_d0_values.specs.declared.transmission.Transmission.{Transmission}
use Rattle.rx_ledger.specs.Ledger.{Ledger, empty}
use Rattle.rx_ledger.specs.SameTerms.{IsTermsOf}
use Rattle.rx_ledger.specs.TermList.{TermParts}
use Rattle.rx_books_family.specs.Books.{Book, book}
use Rattle.rx_books_parcel.specs.Footprints.{FootprintParts, names, sub}
use Rattle.rx_books_parcel.specs.Parcels.{ParcelParts, ledger_in, named_in, values_of}
use Rattle.rx_adjudicate.specs.Orders.{DoneParts, Fits, IsDone, OrderParts}
use Rattle.rx_books_family.specs.Shelves.{ShelfParts, has_slot, is_out, value_of}
use Rattle.rx_schedule.specs.declared.event.Event.{Event}
use Rattle.rx_schedule.specs.declared.event.Event.TheVariants.{Give, Take}
use Rattle.rx_schedule.specs.Footprints.{footprint_at, no_record, record_at}
use Rattle.rx_schedule.specs.Jobs.{ledger_before}
use Rattle.rx_schedule.specs.Machine.{IsPlace, MayGive, MayTake, Was, own_values, replay}
use Rattle.rx_schedule.specs.Queues.{IsReady, QueueParts}
use Rattle.rx_schedule.proofs.Holder.{fits_at, order_before}
use Rattle.rx_schedule.proofs.Replayed.{in_range, taken}
use Rattle.rx_desk.specs.declared.state.State.{State}
use Rattle.rx_desk.specs.declared.state.State.TheVariants.{Given, Out, Waiting}
use Rattle.rx_desk.specs.Desks.{DeskJob, DeskParts, IsOut, after_event, footprint_in, machine_of, parcel_of}
use Rattle.rx_desk.specs.Invariant.{Holdings, IsDesk, IsSetAside, IsState}
use Rattle.rx_desk.specs.Kept.{IsKept, events_left, one_waiting}
use Rattle.rx_desk.specs.Moved.{IsGiven, IsSameShelf, IsTaken}
use Rattle.rx_desk.proofs.Ended.{finds}
use Rattle.rx_desk.proofs.Fitting.{fits_on}
use Rattle.rx_desk.proofs.OneParcel.{one_parcel}
use Rattle.rx_desk.proofs.Passing.{at_own, free, out_taken}
use Rattle.rx_desk.proofs.Placed.{books_give, books_stay, books_take, counted_give, counted_take, handed_give}
use Rattle.rx_desk.proofs.Placed.{handed_take, noted_give, noted_take, room_for, states_give, states_take}
use Rattle.rx_desk.proofs.Ready.{may_take}

newest : (history : List Event) (e : Event) → reverse (history ++ e ∷ []) ≡ e ∷ reverse history
newest history e = reverse-append history (e ∷ [])

-- the desk after one more event
pub one_more : (j : DeskJob) (history new : List Event) (e : Event) → new ≡ history ++ e ∷ []
    → ◌≡◌ {A = DeskParts} (record { job = j; history = new }) (after_event (record { job = j; history = history }) e)
one_more j history new e next = λ i. record { job = j; history = next i }

-- ---- the state of a record

waits : (j : DeskJob) (past : List Event) (k : ℕ) (s : State) → IsState j past k s → (Was (Take k) past → ⊥)
    → (Was (Give k) past → Was (Take k) past) → s ≡ Waiting
waits j past k Waiting is untaken before = refl
waits j past k (Out p) is untaken before = absurd (untaken is.0.taken)
waits j past k Given is untaken before = absurd (untaken (before is))

pub out_with : (j : DeskJob) (past : List Event) (k : ℕ) (s : State) → IsState j past k s → MayGive k past
    → (p : ParcelParts) × (s ≡ Out p) × IsSetAside j k ((replay (machine_of j) past).parcels k) p
out_with j past k Waiting is out = absurd (is out.taken)
out_with j past k (Out p) is out = (p, refl, is.1)
out_with j past k Given is out = absurd (out.once is)

module _ (j : DeskJob) (capacity : ℕ) (history : List Event) (footprints : List FootprintParts) (queues : QueueParts)
    (shelf : ShelfParts) (states : List State) (waiting : ℕ) (replies : List Reply)
    (kept : IsKept j capacity history footprints queues shelf states waiting replies) where
  -- ---- a record that is ready

  module _ (k : ℕ) (ready : IsReady queues k) where
    pub may : MayTake (machine_of j) k (reverse history)
    may = may_take j (reverse history) queues kept.desk.handed_out (kept.queued ∙ kept.named) k ready

    pub within : (1 ≤ k) × (k ≤ length j.records)
    within = (may.there.from_one, may.there.to_count)

    pub at_waits : get_or states (k - 1) Waiting ≡ Waiting
    at_waits = waits j (reverse history) k (get_or states (k - 1) Waiting) (kept.desk.where_left.each k may.there) may.once
        (taken (machine_of j) k (reverse history) kept.desk.legal)

    pub state_there : k - 1 < length states
    state_there = let e = kept.desk.where_left.one_each in let w = within in omega arith

    pub one_waits : 1 ≤ waiting
    one_waits =
        let sums = sum_by-set one_waiting states (k - 1) Given Waiting state_there in
        let one : one_waiting (get_or states (k - 1) Waiting) ≡ 1 = ap one_waiting at_waits in
        let counted = kept.counted.left in
        omega arith

    pub room_taken : length history < capacity
    room_taken = room_for capacity history states waiting (k - 1) kept.counted state_there
        (let two : events_left (get_or states (k - 1) Waiting) ≡ 2 = ap events_left at_waits in omega arith)

    pub placed : (b : Book) → names (footprint_in j k) b ≡ true → has_slot shelf b ≡ true
    placed b n = kept.desk.in_place.slots k b may.there n

    pub inside : (b : Book) → names (footprint_in j k) b ≡ true → is_out shelf b ≡ false
    inside b n = elim (cases_Bool (is_out shelf b)) [
      | inl out ↦
          let found = kept.desk.in_place.with_record b out in
          absurd (free (machine_of j) k found.0 (reverse history) kept.desk.legal may found.1 b n found.2)
      | inr f ↦ f
    ]

    -- ---- it is taken

    module _ (after : ShelfParts) (p : ParcelParts) (moved : IsTaken shelf after (footprint_in j k) p) where
      pub set_aside : IsSetAside j k (own_values (machine_of j) k (replay (machine_of j) (reverse history)).books) p
      set_aside =
          let values : (b : Book) → values_of p b ≡ own_values (machine_of j) k (replay (machine_of j) (reverse history)).books b =
          λ b. moved.values b ∙ ap (λ x. cond (names (footprint_in j k) b) x empty) (kept.desk.in_place.values b) in
          record {
            is = one_parcel p moved.parcel j.books.period (footprint_in j k)
                (own_values (machine_of j) k (replay (machine_of j) (reverse history)).books) (moved.period ∙ kept.period) moved.named values;
            named = moved.named;
            values = values;
          }

      pub took : (more : ℕ) (new : List Event) (queues' : QueueParts) → new ≡ history ++ Take k ∷ [] → capacity ≤ more
          → queues'.handed ≡ k ∷ queues.handed → queues'.passed ≡ queues.passed → queues'.footprints ≡ queues.footprints
          → IsKept j more new footprints queues' after (set states (k - 1) (Out p)) (waiting - 1) replies
      took more new queues' next grows handed passed same =
          let past = reverse history in
          let holds : Holdings = record {
            value = value_of after;
            has_slot = has_slot after;
            is_out = is_out after;
            handed = k ∷ queues.handed;
            passed = queues.passed;
            states = set states (k - 1) (Out p);
            replies = replies;
          } in
          let desk : IsDesk j (Take k ∷ past) holds = record {
            of_job = kept.desk.of_job;
            legal = (may, kept.desk.legal);
            in_place = books_take j past k kept.desk.legal (value_of shelf) (value_of after) (has_slot shelf) (has_slot after)
                (is_out shelf) (is_out after) kept.desk.in_place moved.slots may moved.left moved.out;
            handed_out = handed_take past k queues.handed queues.passed kept.desk.handed_out;
            where_left = states_take j past k kept.desk.legal states kept.desk.where_left may.there may p set_aside;
            noted = noted_take j past k kept.desk.legal replies kept.desk.noted;
          } in
          record {
            desk = rw (next, handed, passed) (subst (λ es. IsDesk j es holds) (sym (newest history (Take k))) desk);
            named = kept.named;
            queued = same ∙ kept.queued;
            period = moved.shelf_period ∙ kept.period;
            beside = moved.beside ∙ kept.beside;
            counted = rw next (counted_take capacity more history (Take k) states waiting (k - 1) p kept.counted state_there
                at_waits grows);
          }

      pub took_out : (new : List Event) (t : Transmission) (terms : TermParts) → new ≡ history ++ Take k ∷ []
          → t ≡ record_at j.records k → slice_get j.terms (k - 1) ≡ Some terms
          → IsOut (record { job = j; history = new }) (record { place = k; transmission = t; terms = terms; parcel = p })
      took_out new t terms next is own =
          let past = reverse history in
          let new_past : reverse new ≡ Take k ∷ past = ap reverse next ∙ newest history (Take k) in
          let d = replay (machine_of j) past in
          record {
            taken = subst (MayGive k) (sym new_past) (out_taken (machine_of j) k past kept.desk.legal may);
            record_is = is;
            terms_are = own;
            parcel_is = set_aside.is ∙ ap (parcel_of j.books.period (footprint_in j k))
                (sym (at_own d.parcels k k (own_values (machine_of j) k d.books) refl)
                ∙ ap (λ es. (replay (machine_of j) es).parcels k) (sym new_past));
          }

      pub fitting : (t : Transmission) (terms : TermParts) → t ≡ record_at j.records k → slice_get j.terms (k - 1) ≡ Some terms
          → Fits t terms p
      fitting t terms is own =
          let terms_of = kept.desk.of_job.terms.each (k - 1) terms own in
          let order = kept.desk.of_job.in_order in
          let M = ledger_before j.lot j.plan j.books.ledger j.records k in
          rw is (fits_on p terms (record_at j.records k) (footprint_in j k) M
          (order_before j.lot j.plan j.books.ledger j.records order k) moved.named
          (λ b n. moved.values b ∙ rw n (kept.desk.in_place.values b
          ∙ finds j (reverse history) kept.desk.of_job kept.desk.legal k may b n))
          (fits_at j.lot j.plan j.books.ledger j.records k may.there.from_one may.there.to_count)
          (moved.period ∙ kept.period ∙ kept.desk.of_job.period ∙ ap (λ f. f.period) (sym terms_of.same_figures)))

  -- ---- the same, of what is read at its place

  module _ (k : ℕ) (ready : IsReady queues k) (F : FootprintParts) (foot : F ≡ get_or footprints (k - 1) F) where
    pub foot_is : F ≡ footprint_in j k
    foot_is =
        let w = within k ready in
        foot ∙ ap (λ fs. get_or fs (k - 1) F) kept.named
        ∙ get_or-map-range_with_len (footprint_at j.books.ledger j.records) 1 (length j.records) (k - 1) k F (omega arith)
        (omega arith)

    pub placed_read : (b : Book) → names F b ≡ true → has_slot shelf b ≡ true
    placed_read b n = placed k ready b (ap (λ G. names G b) (sym foot_is) ∙ n)

    pub inside_read : (b : Book) → names F b ≡ true → is_out shelf b ≡ false
    inside_read b n = inside k ready b (ap (λ G. names G b) (sym foot_is) ∙ n)

    module _ (after : ShelfParts) (p : ParcelParts) (moved : IsTaken shelf after F p) where
      own : IsTaken shelf after (footprint_in j k) p
      own = subst (λ G. IsTaken shelf after G p) foot_is moved

      pub took_read : (more : ℕ) (new : List Event) (queues' : QueueParts) → new ≡ history ++ Take k ∷ [] → capacity ≤ more
          → queues'.handed ≡ k ∷ queues.handed → queues'.passed ≡ queues.passed → queues'.footprints ≡ queues.footprints
          → IsKept j more new footprints queues' after (set states (k - 1) (Out p)) (waiting - 1) replies
      took_read = took k ready after p own

      module _ (t found : Transmission) (terms : TermParts) (same : t ≡ found) (read : found ≡ get_or j.records (k - 1) found)
          (told : terms ≡ get_or j.terms (k - 1) terms) where
        record_is : t ≡ record_at j.records k
        record_is =
            let w = within k ready in same ∙ get_or_read j.records (k - 1) found (omega arith) read no_record

        terms_is : slice_get j.terms (k - 1) ≡ Some terms
        terms_is =
            let w = within k ready in
            let e = kept.desk.of_job.terms.one_each in
            slice_get_read j.terms (length j.terms) (k - 1) terms refl (omega arith) told

        pub fits_read : Fits t terms p
        fits_read = fitting k ready after p own t terms record_is terms_is

        pub out_read : (new : List Event) → new ≡ history ++ Take k ∷ []
            → IsOut (record { job = j; history = new }) (record { place = k; transmission = t; terms = terms; parcel = p })
        out_read new next = took_out k ready after p own new t terms next record_is terms_is

  -- the books that went back are where they were
  pub kept_stay : (after : ShelfParts) → IsSameShelf shelf after
      → IsKept j capacity history footprints queues after states waiting replies
  kept_stay after same = record {
    desk = record {
      of_job = kept.desk.of_job;
      legal = kept.desk.legal;
      in_place = books_stay j (reverse history) (value_of shelf) (value_of after) (has_slot shelf) (has_slot after) (is_out shelf)
          (is_out after) kept.desk.in_place same.values same.slots same.out;
      handed_out = kept.desk.handed_out;
      where_left = kept.desk.where_left;
      noted = kept.desk.noted;
    };
    named = kept.named;
    queued = kept.queued;
    period = same.period ∙ kept.period;
    beside = same.beside ∙ kept.beside;
    counted = kept.counted;
  }

  -- an order of which this stands at its place is out
  pub is_out_of : (o : OrderParts) → 1 ≤ o.place → o.place ≤ length states → (s : State) (x : TermParts) (t : Transmission)
      → s ≡ get_or states (o.place - 1) s → x ≡ get_or j.terms (o.place - 1) x → t ≡ get_or j.records (o.place - 1) t
      → s ≡ Out o.parcel → x ≡ o.terms → t ≡ o.transmission → IsOut (record { job = j; history = history }) o
  is_out_of o one to s x t at_s at_x at_t is own its =
      let e = kept.desk.where_left.one_each in
      let f = kept.desk.of_job.terms.one_each in
      let at : IsPlace (machine_of j) o.place = record { from_one = one; to_count = omega arith } in
      let state : get_or states (o.place - 1) Waiting ≡ Out o.parcel =
      sym (get_or_read states (o.place - 1) s (omega arith) at_s Waiting) ∙ is in
      let left = subst (IsState j (reverse history) o.place) state (kept.desk.where_left.each o.place at) in
      record {
        taken = left.0;
        record_is = sym its ∙ get_or_read j.records (o.place - 1) t (omega arith) at_t no_record;
        terms_are = slice_get_read j.terms (length j.terms) (o.place - 1) x refl (omega arith) at_x ∙ ap Some own;
        parcel_is = left.1.is;
      }

  -- ---- a record that is out

  module _ (o : OrderParts) (out : IsOut (record { job = j; history = history }) o) where
    pub place_of : IsPlace (machine_of j) o.place
    place_of = in_range (machine_of j) o.place (reverse history) kept.desk.legal out.taken.taken

    held : (p : ParcelParts) × (get_or states (o.place - 1) Waiting ≡ Out p)
        × IsSetAside j o.place ((replay (machine_of j) (reverse history)).parcels o.place) p
    held = out_with j (reverse history) o.place (get_or states (o.place - 1) Waiting)
        (kept.desk.where_left.each o.place place_of) out.taken

    same_parcel : o.parcel ≡ held.0
    same_parcel = out.parcel_is ∙ sym held.2.is

    pub state_is : get_or states (o.place - 1) Waiting ≡ Out o.parcel
    state_is = held.1 ∙ ap Out (sym same_parcel)

    pub of_order : IsSetAside j o.place ((replay (machine_of j) (reverse history)).parcels o.place) o.parcel
    of_order = subst (IsSetAside j o.place ((replay (machine_of j) (reverse history)).parcels o.place)) (sym same_parcel) held.2

    pub state_out : o.place - 1 < length states
    state_out =
        let e = kept.desk.where_left.one_each in
        let one : 1 ≤ o.place = place_of.from_one in
        let to : o.place ≤ length j.records = place_of.to_count in
        omega arith

    pub reply_there : o.place - 1 < length replies
    reply_there =
        let e = kept.desk.noted.one_each in
        let one : 1 ≤ o.place = place_of.from_one in
        let to : o.place ≤ length j.records = place_of.to_count in
        omega arith

    pub room_given : length history < capacity
    room_given = room_for capacity history states waiting (o.place - 1) kept.counted state_out
        (let one : events_left (get_or states (o.place - 1) Waiting) ≡ 1 = ap events_left state_is in omega arith)

    pub was_handed : Was o.place queues.handed
    was_handed = kept.desk.handed_out.taken o.place out.taken.taken

    pub not_passed : Was o.place queues.passed → ⊥
    not_passed w = out.taken.once (kept.desk.handed_out.was_given o.place w)

    -- what stands at its place
    pub state_read : (s : State) → s ≡ get_or states (o.place - 1) s → s ≡ Out o.parcel
    state_read s read = get_or_read states (o.place - 1) s state_out read Waiting ∙ state_is

    pub terms_read : (x : TermParts) → x ≡ get_or j.terms (o.place - 1) x → x ≡ o.terms
    terms_read x read =
        let one : 1 ≤ o.place = place_of.from_one in
        let to : o.place ≤ length j.records = place_of.to_count in
        let e = kept.desk.of_job.terms.one_each in
        same_Some x o.terms
        (sym (slice_get_read j.terms (length j.terms) (o.place - 1) x refl (omega arith) read) ∙ out.terms_are)

    pub record_read : (t : Transmission) → t ≡ get_or j.records (o.place - 1) t → t ≡ o.transmission
    record_read t read =
        let one : 1 ≤ o.place = place_of.from_one in
        let to : o.place ≤ length j.records = place_of.to_count in
        get_or_read j.records (o.place - 1) t (omega arith) read no_record ∙ sym out.record_is

    -- ---- it is given

    module _ (done : DoneParts) (made : IsDone done) (its : done.order ≡ o) where
      after_named : named_in done.after ≡ footprint_in j o.place
      after_named = made.same_names ∙ ap (λ (q : OrderParts). named_in q.parcel) its ∙ of_order.named

      pub period_given : done.after.period ≡ shelf.period
      period_given = made.same_period ∙ ap (λ (q : OrderParts). q.parcel.period) its ∙ ap (λ (p : ParcelParts). p.period) of_order.is
          ∙ sym kept.period

      pub books_out : (b : Book) → names (named_in done.after) b ≡ true → is_out shelf b ≡ true
      books_out b n = kept.desk.in_place.out o.place b out.taken ((λ i. names (sym after_named i) b) ∙ n)

      -- the values that were set aside
      abbrev pub v : Book → Ledger
      v = (replay (machine_of j) (reverse history)).parcels o.place

      ledger_is : ledger_in o.parcel ≡ sub (footprint_in j o.place) v
      ledger_is = let values : values_of o.parcel ≡ v = fun_ext of_order.values in (λ i. sub (of_order.named i) (values i))

      terms_of : IsTermsOf j.lot j.plan (record_at j.records o.place) o.terms
      terms_of = kept.desk.of_job.terms.each (o.place - 1) o.terms out.terms_are

      pub reply_made : done.reply ≡ ((machine_of j).work o.place v).0
      reply_made =
          made.reply_is ∙ rw (its, out.record_is, ledger_is)
          (terms_of.same_reply o.place (sub (footprint_in j o.place) v))

      books_made : (b : Book) → names (footprint_in j o.place) b ≡ true
          → values_of done.after b ≡ ((machine_of j).work o.place v).1 b
      books_made b n =
          made.books b ((λ i. names (named_in (its i).parcel) b) ∙ (λ i. names (of_order.named i) b) ∙ n)
          ∙ ap (book b) (rw (its, out.record_is, ledger_is) (terms_of.same_ledger o.place (sub (footprint_in j o.place) v)))

      pub gave : (after : ShelfParts) → IsGiven shelf after done.after → (more : ℕ) (new : List Event) (queues' : QueueParts)
          → new ≡ history ++ Give o.place ∷ [] → capacity ≤ more
          → queues'.passed ≡ o.place ∷ queues.passed → queues'.handed ≡ queues.handed → queues'.footprints ≡ queues.footprints
          → IsKept j more new footprints queues' after (set states (o.place - 1) Given) waiting
          (set replies (o.place - 1) done.reply)
      gave after moved more new queues' next grows passed handed same =
          let past = reverse history in
          let k = o.place in
          let named : (b : Book) → names (named_in done.after) b ≡ names (footprint_in j k) b = λ b. ap (λ F. names F b) after_named in
          let holds : Holdings = record {
            value = value_of after;
            has_slot = has_slot after;
            is_out = is_out after;
            handed = queues.handed;
            passed = k ∷ queues.passed;
            states = set states (k - 1) Given;
            replies = set replies (k - 1) done.reply;
          } in
          let desk : IsDesk j (Give k ∷ past) holds = record {
            of_job = kept.desk.of_job;
            legal = (out.taken, kept.desk.legal);
            in_place = books_give j past k kept.desk.legal (value_of shelf) (value_of after) (has_slot shelf) (has_slot after)
                (is_out shelf) (is_out after) kept.desk.in_place moved.slots out.taken (values_of done.after) books_made
                (λ b. moved.values b ∙ ap (λ t. cond t (values_of done.after b) (value_of shelf b)) (named b))
                (λ b. moved.out b ∙ ap (λ t. cond t false (is_out shelf b)) (named b));
            handed_out = handed_give past k queues.handed queues.passed kept.desk.handed_out;
            where_left = states_give j past k kept.desk.legal states kept.desk.where_left place_of;
            noted = noted_give j past k kept.desk.legal replies done.reply kept.desk.noted out.taken reply_made;
          } in
          record {
            desk = rw (next, handed, passed) (subst (λ es. IsDesk j es holds) (sym (newest history (Give k))) desk);
            named = kept.named;
            queued = same ∙ kept.queued;
            period = moved.shelf_period ∙ kept.period;
            beside = moved.beside ∙ kept.beside;
            counted = rw next (counted_give capacity more history (Give k) states waiting (k - 1) o.parcel kept.counted state_out
                state_is grows);
          }
