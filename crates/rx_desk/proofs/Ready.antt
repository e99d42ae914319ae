-- A record that is ready in the queues is one that may be taken, and the other way round.
use Rattle.std.proofs.Common.{◌≡◌, ℕ, suc, ◌-◌, ◌≤◌, List, ◌∷◌, true, length, get_or, sym, ap, ◌∙◌, arith, inl, inr}
use Rattle.std.proofs.lemmas.List.{length-map}
use Rattle.std.proofs.lemmas.List.FromFn.{get_or-map-range_with_len, length-range_with_len}
use Rattle.rx_d0_values.specs.declared.transmission.Transmission.{Transmission}
use Rattle.rx_ledger.specs.Ledger.{Ledger}
use Rattle.rx_books_family.specs.Books.{Book, OfFamily, OfKey}
use Rattle.rx_books_parcel.specs.Footprints.{FootprintParts, names}
use Rattle.rx_schedule.specs.declared.event.Event.{Event}
use Rattle.rx_schedule.specs.Footprints.{footprint_at, footprints_of}
use Rattle.rx_schedule.specs.Machine.{MayTake}
use Rattle.rx_schedule.specs.Queues.{IsReady, QueueParts}
use Rattle.rx_schedule.specs.Waves.{footprint_in as read_in, meet, nothing}
use Rattle.rx_schedule.proofs.Scanned.{meet_by_family, meet_by_key, meet_in}
use Rattle.rx_desk.specs.Desks.{DeskJob, machine_of}
use Rattle.rx_desk.specs.Invariant.{AreHanded}

-- as many footprints as records, and each at its place
pub count_of : (L : Ledger) (records : List Transmission) → length (footprints_of L records) ≡ length records
count_of L records = simp (length-map, length-range_with_len)

pub read_is : (L : Ledger) (records : List Transmission) (place : ℕ) → 1 ≤ place → place ≤ length records
    → read_in (footprints_of L records) place ≡ footprint_at L records place
read_is L records place one to =
    let e : suc (place - 1) ≡ place = omega arith in
    ap (λ p. get_or (nothing ∷ footprints_of L records) p nothing) (sym e)
    ∙ get_or-map-range_with_len (footprint_at L records) 1 (length records) (place - 1) place nothing (omega arith) (omega arith)

-- footprints that meet name a book both, and the other way round
meet_both : (F G : FootprintParts) → meet F G ≡ true → (b : Book) × (names F b ≡ true) × (names G b ≡ true)
meet_both F G h = elim (meet_in F G h) [
  | inl k ↦ (OfKey k.0, k.1, k.2)
  | inr f ↦ (OfFamily f.0, f.1, f.2)
]

both_meet : (F G : FootprintParts) (b : Book) → names F b ≡ true → names G b ≡ true → meet F G ≡ true
both_meet F G (OfKey k) n m = meet_by_key F G k n m
both_meet F G (OfFamily f) n m = meet_by_family F G f n m

module _ (j : DeskJob) (past : List Event) (q : QueueParts) (handed : AreHanded past q.handed q.passed)
    (queued : q.footprints ≡ footprints_of j.books.ledger j.records) where
  count : length q.footprints ≡ length j.records
  count = ap length queued ∙ count_of j.books.ledger j.records

  at_is : (place : ℕ) → 1 ≤ place → place ≤ length j.records
      → read_in q.footprints place ≡ footprint_at j.books.ledger j.records place
  at_is place one to = ap (λ fs. read_in fs place) queued ∙ read_is j.books.ledger j.records place one to

  pub may_take : (place : ℕ) → IsReady q place → MayTake (machine_of j) place past
  may_take place ready =
      let to : place ≤ length j.records = let up = ready.there in let e = count in omega arith in
      record {
        there = record { from_one = ready.from_one; to_count = to };
        once = λ w. ready.unhanded (handed.taken place w);
        sharers = λ i one low share.
            let meets : meet (footprint_at j.books.ledger j.records i) (footprint_at j.books.ledger j.records place) ≡ true =
            both_meet _ _ share.0 share.1 share.2 in
            handed.was_given i (ready.sharers i one low
            ((λ t. meet (at_is i one (omega arith) t) (at_is place ready.from_one to t)) ∙ meets));
      }

  pub is_ready : (place : ℕ) → MayTake (machine_of j) place past → IsReady q place
  is_ready place may =
      let to : place ≤ length j.records = may.there.to_count in
      record {
        from_one = may.there.from_one;
        there = let e = count in omega arith;
        unhanded = λ w. may.once (handed.was_taken place w);
        sharers = λ i one low share.
            let meets : meet (footprint_at j.books.ledger j.records i) (footprint_at j.books.ledger j.records place) ≡ true =
            (λ t. meet (sym (at_is i one (omega arith)) t) (sym (at_is place may.there.from_one to) t)) ∙ share in
            handed.given i (may.sharers i one low (meet_both _ _ meets));
      }
