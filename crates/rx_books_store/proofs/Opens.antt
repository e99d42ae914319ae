-- Slots that are opened with what the opening lists hold: nothing that stands changes, and each key has its slot.
use Rattle.std.proofs.Common.{◌≡◌, ℕ, ◌+◌, ◌<◌, ◌≤◌, ◌^◌, List, [], ◌∷◌, length, get_or, Option}
use Rattle.std.proofs.Common.{Some, None, refl, sym, subst, ap, ◌∙◌, inl, inr, arith}
use Rattle.std.specs.List.{All, Contains}
use Rattle.std.specs.Option.{option_or}
use Rattle.std.proofs.lemmas.List.{get_or-map, length-map}
use Rattle.std.proofs.lemmas.Option.{slice_get_cases}
use Rattle.rx_fields.specs.Numbered.{Span}
use Rattle.rx_fields.specs.Order.{key_cmp}
use Rattle.rx_fields.specs.declared.key.Key.{Key}
use Rattle.rx_sorted.specs.Ascending.{IsAscending, IsBelow, item_at, put_all}
use Rattle.rx_sorted.specs.Overlaid.{HoldsOwn, found_under}
use Rattle.rx_sorted.proofs.Kept.{IsAscending-put_all}
use Rattle.rx_sorted.proofs.LookUps.{item_at-all, item_at-found, item_at-from_contains, item_at-put_all}
use Rattle.rx_sorted.proofs.Overlaid.{overlaid-same}
use Rattle.rx_sorted.proofs.Totals.{All-put_all}
use Rattle.rx_ledger.specs.declared.row.Row.{Row}
use Rattle.rx_ledger.specs.Ledger.{Ledger, IsLedger, row_under}
use Rattle.rx_ledger.specs.Rows.{row_key}
use Rattle.rx_ledger.specs.Sums.{paid_by_patient}
use Rattle.rx_ledger.proofs.Orders.{key_exact, key_total}
use Rattle.rx_books_store.specs.declared.slot.KeySlot.{KeySlot}
use Rattle.rx_books_store.specs.Store.{AreFigures, IsSlot, IsStore, held, slot_key, slot_keys, standing}

-- keys that ascend are those of slots that ascend
pub slots-rise : (slots : List KeySlot) → IsAscending key_cmp (λ (k : Key). k) (slot_keys slots)
    → IsAscending key_cmp slot_key slots
slots-rise [] rise = tt
slots-rise (s ∷ slots) rise = (below s.key slots rise.0, slots-rise slots rise.1)
  where
    below : (k : Key) (others : List KeySlot) → IsBelow key_cmp (λ (j : Key). j) k (slot_keys others)
        → IsBelow key_cmp slot_key k others
    below k [] b = tt
    below k (t ∷ others) b = (b.0, below k others b.1)

module _ (opening : Ledger) (fresh slots : List KeySlot) (rows_rise : IsLedger opening)
    (fresh_rise : IsAscending key_cmp slot_key fresh) (fresh_own : All (IsSlot opening.members) fresh)
    (there : All (λ (s : KeySlot). row_under opening s.key ≡ s.held) fresh)
    (rise : IsAscending key_cmp slot_key slots) (own : All (IsSlot opening.members) slots) where
  -- the slots of both lists
  abbrev pub both : List KeySlot
  both = put_all key_cmp slot_key fresh slots

  pub both-rise : IsAscending key_cmp slot_key both
  both-rise = IsAscending-put_all key_cmp key_total slot_key fresh slots fresh_rise

  pub both-own : All (IsSlot opening.members) both
  both-own = All-put_all key_cmp key_total slot_key (IsSlot opening.members) fresh slots fresh_own own

  under : (some : List KeySlot) → All (IsSlot opening.members) some → All (HoldsOwn key_cmp row_key slot_key held) some
  under some all j d lt = (all j d lt).under

  -- the same is found under each key
  found : (k : Key) (o p : Option KeySlot) → item_at key_cmp slot_key slots k ≡ o → item_at key_cmp slot_key fresh k ≡ p
      → found_under key_cmp row_key slot_key held (option_or o p) (row_under opening k)
      ≡ found_under key_cmp row_key slot_key held o (row_under opening k)
  found k (Some s) p one two = refl
  found k None None one two = refl
  found k None (Some s) one two =
      let at = item_at-found key_cmp key_total slot_key fresh k s two in
      let same : s.key ≡ k = key_exact s.key k at.1 in
      let holds : row_under opening s.key ≡ s.held =
      item_at-all key_cmp key_total slot_key (λ (t : KeySlot). row_under opening t.key ≡ t.held) fresh k s there two in
      sym holds ∙ ap (row_under opening) same

  pub stands-opened : standing opening both ≡ standing opening slots
  stands-opened = ap (λ (rows : List Row). record { members = opening.members; rows = rows })
      (overlaid-same key_cmp key_total row_key slot_key held opening.rows both slots rows_rise.rows_rise both-rise
      (under both both-own) rise (under slots own) (λ k.
      ap (λ o. found_under key_cmp row_key slot_key held o (row_under opening k))
      (item_at-put_all key_cmp key_total slot_key fresh slots k rise)
      ∙ found k (item_at key_cmp slot_key slots k) (item_at key_cmp slot_key fresh k) refl refl))

  -- a key that one of the lists has
  has-key : (k : Key) (s : KeySlot) → item_at key_cmp slot_key both k ≡ Some s → Contains (slot_keys both) k
  has-key k s two =
      let at = item_at-found key_cmp key_total slot_key both k s two in
      let lt : at.0.0 < length both = at.0.1 in (
        at.0.0,
        let long = length-map both slot_key in omega arith,
        get_or-map slot_key both at.0.0 s k lt ∙ ap slot_key at.0.2 ∙ key_exact s.key k at.1,
      )

  contained : (s : KeySlot) (o : Option KeySlot) → item_at key_cmp slot_key slots s.key ≡ o
      → item_at key_cmp slot_key fresh s.key ≡ Some s → Contains (slot_keys both) s.key
  contained s None one two = has-key s.key s (item_at-put_all key_cmp key_total slot_key fresh slots s.key rise
      ∙ rw (one, two) refl)
  contained s (Some t) one two = has-key s.key t (item_at-put_all key_cmp key_total slot_key fresh slots s.key rise
      ∙ rw one refl)

  -- each fresh slot's key has a slot
  pub fresh-contained : All (Contains (slot_keys both)) (slot_keys fresh)
  fresh-contained i k lt = elim (slice_get_cases fresh i).1 [
    | inl here ↦
        let s : KeySlot = here.0 in
        let read : get_or (slot_keys fresh) i k ≡ s.key = get_or-map slot_key fresh i s k here.1 ∙ ap slot_key here.3 in
        let found_it = item_at-from_contains key_cmp key_total slot_key fresh s fresh_rise (i, here.1, here.3) in
        subst (Contains (slot_keys both)) (sym read) (contained s (item_at key_cmp slot_key slots s.key) refl found_it)
    | inr past ↦ absurd (let long = length-map fresh slot_key in omega (arith, past.0))
  ]

abbrev AreSmall : Ledger → Type 0
AreSmall L = All (λ r. paid_by_patient r ≤ 99_999_999) L.rows

-- the books with the slots of both lists
module _ (period : Span) (opening : Ledger) (fresh slots : List KeySlot) (ds ps fs : List ℕ)
    (store : IsStore period opening slots ds ps fs) (fresh_rise : IsAscending key_cmp slot_key fresh)
    (fresh_own : All (IsSlot opening.members) fresh) (there : All (λ (s : KeySlot). row_under opening s.key ≡ s.held) fresh) where
  pub opened-stands : standing opening (put_all key_cmp slot_key fresh slots) ≡ standing opening slots
  opened-stands = stands-opened opening fresh slots store.opened fresh_rise fresh_own there store.slots_rise store.slots_own

  pub opened-contains : All (Contains (slot_keys (put_all key_cmp slot_key fresh slots))) (slot_keys fresh)
  opened-contains = fresh-contained opening fresh slots store.opened fresh_rise fresh_own there store.slots_rise store.slots_own

  pub store-opened : length opening.rows + length (put_all key_cmp slot_key fresh slots) < 2 ^ 64
      → IsStore period opening (put_all key_cmp slot_key fresh slots) ds ps fs
  store-opened few = record {
    opened = store.opened;
    in_order = subst IsLedger (sym opened-stands) store.in_order;
    slots_rise = both-rise opening fresh slots store.opened fresh_rise fresh_own there store.slots_rise store.slots_own;
    slots_own = both-own opening fresh slots store.opened fresh_rise fresh_own there store.slots_rise store.slots_own;
    figures = subst (λ (L : Ledger). AreFigures period L ds ps fs) (sym opened-stands) store.figures;
    small = subst AreSmall (sym opened-stands) store.small;
    few = few;
  }
