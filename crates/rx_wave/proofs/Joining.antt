-- Books that have under each fill key what the shard leaves there which names it are those of the fold.
use Rattle.std.proofs.Common.{◌≡◌, ℕ, ◌-◌, ◌<◌, List, None, Some, get_or, length, sym, ap, ◌∙◌, inl, inr, arith}
use Rattle.std.specs.List.{Contains, slice_get}
use Rattle.std.proofs.lemmas.Bool.{eqb-true}
use Rattle.std.proofs.lemmas.Option.{slice_get_cases}
use Rattle.rx_fields.specs.Numbered.{Span}
use Rattle.rx_fields.specs.declared.key.Key.{Key}
use Rattle.rx_ledger.specs.Fold.{fold_ledger}
use Rattle.rx_ledger.specs.Ledger.{IsLedger, Ledger, row_under}
use Rattle.rx_books_family.specs.Books.{IsInOrder}
use Rattle.rx_books_store.specs.LedgerBooks.{LedgerBooks}
use Rattle.rx_schedule.specs.Shards.{AreJoined, is_of, keys_at, places_of}
use Rattle.rx_schedule.specs.Waves.{number_in}
use Rattle.rx_schedule.proofs.Joined.{joined, key_whose, one_shard}
use Rattle.rx_wave.proofs.NextComing.{number_before}
use Rattle.rx_wave.specs.declared.job.Job.{Job}
use Rattle.rx_wave.specs.declared.shard.Ended.{Ended}
use Rattle.rx_wave.specs.Jobs.{HaveRun}

-- a list has its items at places within
pub low_of : {X : Type 0} (xs : List X) (k : ℕ) (x : X) → slice_get xs k ≡ Some x → k < length xs
low_of xs k x is = elim (slice_get_cases xs k).1 [
  | inl found ↦ found.1
  | inr past ↦ absurd (let e : Some x ≡ None = sym is ∙ past.1 in cc)
]

module _ (job : Job) (numbers : List ℕ) (ended : List Ended) (have : HaveRun job numbers ended) where
  abbrev L : Ledger
  L = job.books.now.ledger

  -- a shard that names a key has ended
  there : (k : ℕ) (key : Key)
      → Contains (keys_at job.transmissions.now (places_of (is_of (number_in numbers) k) (length job.transmissions.now))) key
      → k < length ended
  there k key named =
      let by = key_whose L job.transmissions.now (number_in numbers) k key named in
      let from = by.1.from_one in
      let to = by.1.to in
      let each = have.one_each in
      let at : by.0 - 1 < length numbers = omega arith in
      let low = have.within (by.0 - 1) 0 at in
      let is : get_or numbers (by.0 - 1) 0 ≡ k =
      sym (number_before numbers by.0 from) ∙ eqb-true (number_in numbers by.0) k by.1.is in
      omega arith

  -- no two shards name a key
  pub apart : (j k : ℕ) (a b : Ended) (key : Key) → slice_get ended j ≡ Some a → slice_get ended k ≡ Some b
      → Contains a.keys.items key → Contains b.keys.items key → j ≡ k
  apart j k a b key is_a is_b in_a in_b = one_shard L job.transmissions.now (number_in numbers) have.grouped j k key
      (((have.each j a is_a).keys key).0 in_a) (((have.each k b is_b).keys key).0 in_b)

  module _ (M : Ledger) (rises : IsInOrder M) (members : M.members ≡ L.members)
      (taken : (k : ℕ) (end : Ended) → slice_get ended k ≡ Some end → (key : Key) → Contains end.keys.items key
      → row_under M key ≡ row_under end.books.books.ledger key)
      (kept : (key : Key) → ((k : ℕ) (end : Ended) → slice_get ended k ≡ Some end → ¬ Contains end.keys.items key)
      → row_under M key ≡ row_under L key) where
    are_joined : AreJoined job.lot job.sheet.now L job.transmissions.now (number_in numbers) M
    are_joined = record {
      in_order = rises;
      members = members;
      shards = λ k key named. elim (slice_get_cases ended k).1 [
        | inl found ↦
            let end = found.0 in
            let is = found.2 in
            let ran = have.each k end is in
            taken k end is key ((ran.keys key).1 named) ∙ ap (λ (N : Ledger). row_under N key) ran.ledger
        | inr past ↦ let low = there k key named in let high = past.0 in absurd (omega arith)
      ];
      others = λ key none. kept key (λ k end is in_end. none k (((have.each k end is).keys key).0 in_end));
    }

    pub all_joined : M ≡ fold_ledger job.lot job.sheet.now 1 job.transmissions.now L
    all_joined = joined job.lot job.sheet.now L job.transmissions.now have.in_order (number_in numbers) have.grouped M are_joined

-- a ledger is in order
pub rises_of : (N : Ledger) → IsLedger N → IsInOrder N
rises_of N is = record { members_rise = is.members_rise; rows_rise = is.rows_rise }

-- books are their period and their ledger
pub books_path : (b : LedgerBooks) (period : Span) (N : Ledger) → b.period ≡ period → b.ledger ≡ N
    → b ≡ record { period = period; ledger = N }
books_path b period N p l = λ t. record { period = p t; ledger = l t }
