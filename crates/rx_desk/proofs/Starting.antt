-- A desk without events.
use Rattle.std.proofs.Common.{◌≡◌, ℕ, zero, suc, ◌-◌, ◌*◌, ◌<◌, ◌≤◌, List, [], ◌∷◌, true, false, Bool}
use Rattle.std.proofs.Common.{length, get_or, replicate, refl, sym, ap, subst, ◌∙◌, arith, inl, inr}
use Rattle.std.specs.List.{sum_by}
use Rattle.std.proofs.lemmas.Bool.{cases_Bool}
use Rattle.std.proofs.lemmas.List.{length-replicate}
use Rattle.std.proofs.lemmas.List.Folds.{sum_by-replicate}
use Rattle.rx_fields.specs.Numbered.{LotParts}
use Rattle.rx_d0_values.specs.declared.reply.Reply.{Reply}
use Rattle.rx_d0_values.specs.declared.transmission.Transmission.{Transmission}
use Rattle.rx_ledger.specs.Ledger.{IsLedger, Ledger}
use Rattle.rx_ledger.specs.Plan.{Plan}
use Rattle.rx_ledger.specs.TermList.{TermParts}
use Rattle.rx_books_family.specs.Books.{Book, IsInOrder, book}
use Rattle.rx_books_parcel.specs.Footprints.{FootprintParts, names}
use Rattle.rx_books_shelf.specs.Opened.{is_named_by}
use Rattle.rx_schedule.specs.Footprints.{footprints_of}
use Rattle.rx_books_family.specs.Shelves.{ShelfParts, has_slot, is_out, value_of}
use Rattle.rx_schedule.specs.declared.event.Event.{Event}
use Rattle.rx_schedule.specs.Machine.{IsPlace}
use Rattle.rx_schedule.specs.Queues.{QueueParts}
use Rattle.rx_schedule.specs.Waves.{nothing}
use Rattle.rx_desk.specs.declared.state.State.{State}
use Rattle.rx_desk.specs.declared.state.State.TheVariants.{Waiting}
use Rattle.rx_desk.specs.Desks.{AreTermsOf, DeskJob, footprint_in, machine_of}
use Rattle.rx_desk.specs.Invariant.{IsDesk, IsKeptJob, IsState}
use Rattle.rx_desk.specs.Kept.{IsCounted, IsKept, events_left, one_waiting}
use Rattle.rx_desk.proofs.Ready.{count_of, read_is}

pub ledger_in_order : (L : Ledger) → IsLedger L → IsInOrder L
ledger_in_order L is = record { members_rise = is.members_rise; rows_rise = is.rows_rise }

-- a footprint of the list that names the book
named_at : (fs : List FootprintParts) (i : ℕ) (b : Book) → i < length fs → names (get_or fs i nothing) b ≡ true
    → is_named_by fs b ≡ true
named_at [] i b h n = absurd (omega arith)
named_at (F ∷ fs) zero b h n = rw n refl
named_at (F ∷ fs) (suc i) b h n = elim (cases_Bool (names F b)) [
  | inl t ↦ rw t refl
  | inr f ↦ rw f (named_at fs i b (omega arith) n)
]

pub named_in_all : (j : DeskJob) (place : ℕ) (b : Book) → IsPlace (machine_of j) place → names (footprint_in j place) b ≡ true
    → is_named_by (footprints_of j.books.ledger j.records) b ≡ true
named_in_all j place b at n =
    let fs = footprints_of j.books.ledger j.records in
    let one : 1 ≤ place = at.from_one in
    let to : place ≤ length j.records = at.to_count in
    let e : suc (place - 1) ≡ place = omega arith in
    let here : get_or fs (place - 1) nothing ≡ footprint_in j place =
    ap (λ p. get_or (nothing ∷ fs) p nothing) e ∙ read_is j.books.ledger j.records place one to in
    named_at fs (place - 1) b (let c = count_of j.books.ledger j.records in omega arith) ((λ i. names (here i) b) ∙ n)

none_there : {A : Type 0} (n i : ℕ) (x : A) → get_or (replicate n x) i x ≡ x
none_there zero i x = refl
none_there (suc n) zero x = refl
none_there (suc n) (suc i) x = none_there n i x

pub desk_start : (j : DeskJob) (value : Book → Ledger) (has_slot is_out : Book → Bool) (replies : List Reply)
    → IsKeptJob j → ((b : Book) → value b ≡ book b j.books.ledger)
    → ((b : Book) → has_slot b ≡ is_named_by (footprints_of j.books.ledger j.records) b)
    → ((b : Book) → is_out b ≡ false) → length replies ≡ length j.records
    → IsDesk j [] (record {
      value = value;
      has_slot = has_slot;
      is_out = is_out;
      handed = [];
      passed = [];
      states = replicate (length j.records) Waiting;
      replies = replies;
    })
desk_start j value has_slot is_out replies fit values slots inside as_many = record {
  of_job = fit;
  legal = tt;
  in_place = record {
    values = values;
    slots = λ place b at n. slots b ∙ named_in_all j place b at n;
    with_record = λ b h. absurd (let e : false ≡ true = sym (inside b) ∙ h in cc);
    out = λ place b out n. absurd out.taken;
  };
  handed_out = record { was_taken = λ place w. w; taken = λ place w. w; was_given = λ place w. w; given = λ place w. w };
  where_left = record {
    one_each = length-replicate (length j.records) Waiting;
    each = λ place at. subst (IsState j [] place) (sym (none_there (length j.records) (place - 1) Waiting)) (λ w. w);
  };
  noted = record { one_each = as_many; each = λ place w. absurd w };
}

pub counted_start : (capacity n : ℕ) → 2 * n ≤ capacity → IsCounted capacity [] (replicate n Waiting) n
counted_start capacity n room =
    let len : length (replicate n Waiting) ≡ n = length-replicate n Waiting in
    let events : sum_by events_left (replicate n Waiting) ≡ n * 2 = sum_by-replicate events_left n Waiting in
    let left : sum_by one_waiting (replicate n Waiting) ≡ n * 1 = sum_by-replicate one_waiting n Waiting in
    record { events = omega arith; room = omega arith; left = omega arith }

pub kept_start : (j : DeskJob) (capacity : ℕ) (history : List Event) (footprints : List FootprintParts) (queues : QueueParts)
    (shelf : ShelfParts) (states : List State) (waiting : ℕ) (replies : List Reply) → IsKeptJob j → history ≡ []
    → footprints ≡ footprints_of j.books.ledger j.records → queues.footprints ≡ footprints → queues.handed ≡ []
    → queues.passed ≡ [] → shelf.period ≡ j.books.period → shelf.rest ≡ j.books.ledger
    → ((b : Book) → value_of shelf b ≡ book b j.books.ledger)
    → ((b : Book) → has_slot shelf b ≡ is_named_by footprints b) → ((b : Book) → is_out shelf b ≡ false)
    → states ≡ replicate (length j.records) Waiting → length replies ≡ length j.records → waiting ≡ length j.records
    → 2 * length j.records ≤ capacity
    → IsKept j capacity history footprints queues shelf states waiting replies
kept_start j capacity history footprints queues shelf states waiting replies fit none named queued handed passed period beside values
    slots inside are_waiting as_many left room = record {
      desk = rw (none, handed, passed, are_waiting) (desk_start j (value_of shelf) (has_slot shelf) (is_out shelf) replies fit values
          (λ b. slots b ∙ ap (λ fs. is_named_by fs b) named) inside as_many);
      named = named;
      queued = queued;
      period = period;
      beside = beside;
      counted = rw (none, are_waiting, left) (counted_start capacity (length j.records) room);
    }

-- terms of the sheet are those of the plan that was made of it
pub terms_fit : (lot : LotParts) (sheet plan : Plan) (list records : List Transmission) (terms : List TermParts) → sheet ≡ plan
    → list ≡ records → AreTermsOf lot sheet list terms → AreTermsOf lot plan records terms
terms_fit lot sheet plan list records terms same its are =
    subst (λ (p : Plan). AreTermsOf lot p records terms) same (subst (λ rs. AreTermsOf lot sheet rs terms) its are)
