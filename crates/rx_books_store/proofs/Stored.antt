-- A row that is written into its slot, and one that is taken out of it: what stands then, and what the figures are.
use Rattle.std.proofs.Common.{◌≡◌, ℕ, ◌+◌, ◌-◌, ◌^◌, ◌<◌, ◌≤◌, List, length, get_or, set, true, false}
use Rattle.std.proofs.Common.{Option, Some, None, refl, inl, inr, sym, subst, ap, ◌∙◌, arith}
use Rattle.std.specs.Prelude.{IfSome, slice_get}
use Rattle.std.specs.Cmp.{IsTotalOrder}
use Rattle.std.specs.List.{All, Contains}
use Rattle.std.specs.Option.{is_some, option_map}
use Rattle.std.specs.Ordering.{is_eq}
use Rattle.std.specs.declared.cmp.Ordering.{Ordering}
use Rattle.std.specs.declared.cmp.Ordering.TheVariants.{Equal}
use Rattle.std.proofs.lemmas.Cmp.{tied_itself}
use Rattle.std.proofs.lemmas.List.{get_or-map, length-map, length-set}
use Rattle.std.proofs.Math.Seq.{map-set_same}
use Rattle.std.proofs.lemmas.Option.{get_or_from_slice_get, slice_get_cases, slice_get-map, slice_get_within}
use Rattle.rx_fields.specs.Numbered.{Span}
use Rattle.rx_fields.specs.Order.{id_cmp, key_cmp}
use Rattle.rx_fields.specs.declared.key.Key.{Key}
use Rattle.rx_sorted.specs.Ascending.{IsAscending, IsAt, IsGap, has_key, item_at, put}
use Rattle.rx_sorted.specs.Overlaid.{HoldsOwn}
use Rattle.rx_sorted.proofs.Kept.{IsAscending-put}
use Rattle.rx_sorted.proofs.Overlaid.{item_at-overlaid, length-overlaid, overlaid-put}
use Rattle.rx_sorted.proofs.Places.{contains_key-at, has_key-gap, item_at-at, set-at}
use Rattle.rx_sorted.proofs.Totals.{All-put, All-without}
use Rattle.rx_ledger.specs.declared.member.Member.{Member}
use Rattle.rx_ledger.specs.declared.member.MemberKey.{MemberKey}
use Rattle.rx_ledger.specs.declared.row.Row.{Row}
use Rattle.rx_ledger.specs.Ledger.{Ledger, is_taken, row_under, with_row, without_row}
use Rattle.rx_ledger.specs.Members.{member_cmp, member_key}
use Rattle.rx_ledger.specs.Rows.{member_of_row, row_key}
use Rattle.rx_ledger.specs.Sums.{counted, deductible, deductible_paid, family_deductible, out_of_pocket, paid_by_patient}
use Rattle.rx_ledger.proofs.Ledgers.{IsLedger-with_row, IsLedger-without_row}
use Rattle.rx_ledger.proofs.Orders.{id_total, key_exact, key_total, member_exact, member_total}
use Rattle.rx_books_store.specs.declared.slot.KeySlot.{KeySlot}
use Rattle.rx_books_store.specs.BooksText.{families_of}
use Rattle.rx_books_store.specs.OpenBooks.{OpenParts}
use Rattle.rx_books_store.specs.Store.{IsSlot, IsStore, held, slot_key, slot_keys, standing, standing_rows}
use Rattle.rx_books_store.proofs.Columns.{deductibles-added, deductibles-enough, deductibles-removed, deductibles-room, families-added}
use Rattle.rx_books_store.proofs.Columns.{families-enough, families-removed, family_deductibles-room, pockets-room}
use Rattle.rx_books_store.proofs.FamilyOrder.{itself}
use Rattle.rx_ledger.proofs.CountedRows.{no_member}

-- ---- places

module _ {X K : Type 0} (cmp : K → K → Ordering) (order : IsTotalOrder cmp) (key : X → K) where
  -- an item that is read at a place has its key there
  pub IsAt-get : (xs : List X) (i : ℕ) (x : X) → slice_get xs i ≡ Some x → IsAt cmp key xs (key x) i
  IsAt-get xs i x there = record {
    in_range = slice_get_within xs i x there;
    has_it = λ d. subst (λ y. cmp (key y) (key x) ≡ Equal) (sym (get_or_from_slice_get xs i x d there)) (tied_itself order (key x));
  }

-- the key of a slot that a search finds, and of one that it doesn't
pub get-slot_key : (slots : List KeySlot) (k : Key) (at : ℕ) → IsAt key_cmp slot_key slots k at
    → slice_get (slot_keys slots) at ≡ Some k
get-slot_key slots k at is_at = elim (slice_get_cases slots at).1 [
  | inl here ↦
      let same : slot_key (get_or slots at here.0) ≡ k = key_exact _ _ (is_at.has_it here.0) in
      slice_get-map slot_key slots at ∙ rw here.2 (ap Some (ap slot_key (sym here.3) ∙ same))
  | inr past ↦ absurd (omega (arith, is_at.in_range, past.0))
]

pub no-slot_key : (slots : List KeySlot) (k : Key) (at : ℕ) → IsGap key_cmp slot_key slots k at → ¬ Contains (slot_keys slots) k
no-slot_key slots k at gap (i, in_range, is) = elim (slice_get_cases slots i).1 [
  | inl here ↦
      let read : get_or (slot_keys slots) i k ≡ slot_key (get_or slots i here.0) = get_or-map slot_key slots i here.0 k here.1 in
      let other : has_key key_cmp slot_key k (get_or slots i here.0) ≡ false =
      has_key-gap key_cmp key_total slot_key slots k at gap i here.0 here.1 in
      let same : slot_key (get_or slots i here.0) ≡ k = sym read ∙ is in
      absurd (let e : true ≡ false = sym (ap is_eq (ap (λ j. key_cmp j k) same ∙ tied_itself key_total k)) ∙ other in cc)
  | inr past ↦ absurd (omega (arith, in_range, past.0, length-map slots slot_key))
]

pub key-get : (slots : List KeySlot) (i : ℕ) (s : KeySlot) → slice_get slots i ≡ Some s
    → slice_get (slot_keys slots) i ≡ Some s.key
key-get slots i s there = slice_get-map slot_key slots i ∙ ap (option_map slot_key) there

-- the member at a row's place, and the member's family
pub member-get : (members : List Member) (k : MemberKey) (at : ℕ) (m : Member) → IsAt member_cmp member_key members k at
    → slice_get members at ≡ Some m → m.key ≡ k
member-get members k at m is_at there = ap member_key (sym (get_or_from_slice_get members at m m there))
    ∙ member_exact _ _ (is_at.has_it m)

pub home-of : (members : List Member) (r : Row) (at : ℕ) (families : List (List ℕ)) (home : ℕ)
    → IsAt member_cmp member_key members (member_of_row r) at
    → IfSome (slice_get members at) (λ m. slice_get families home ≡ Some m.key.family)
    → slice_get families home ≡ Some r.family
home-of members r at families home is_at told = elim (slice_get_cases members at).1 [
  | inl here ↦
      let same : here.0.key ≡ member_of_row r = member-get members (member_of_row r) at here.0 is_at here.2 in
      let at_home : slice_get families home ≡ Some here.0.key.family = rw here.2 at told in
      at_home ∙ ap (λ (j : MemberKey). Some j.family) same
  | inr past ↦ absurd (omega (arith, is_at.in_range, past.0))
]

module _ (slots : List KeySlot) where
  pub length-slot_keys : length (slot_keys slots) ≡ length slots
  length-slot_keys = length-map slots slot_key

  -- the slot of a key
  pub slot-at : (i : ℕ) (k : Key) → slice_get (slot_keys slots) i ≡ Some k → IsAt key_cmp slot_key slots k i
  slot-at i k there = by_slot (slice_get slots i) refl (sym (slice_get-map slot_key slots i) ∙ there)
    where
      by_slot : (o : Option KeySlot) → slice_get slots i ≡ o → option_map slot_key o ≡ Some k → IsAt key_cmp slot_key slots k i
      by_slot None is same = cc
      by_slot (Some s) is same =
          let one : s.key ≡ k = cc in
          subst (λ j. IsAt key_cmp slot_key slots j i) one (IsAt-get key_cmp key_total slot_key slots i s is)

  -- what is written into a slot leaves the keys
  pub slot_keys-written : (s : KeySlot) (i : ℕ) → IsAscending key_cmp slot_key slots → IsAt key_cmp slot_key slots s.key i
      → slot_keys (put key_cmp slot_key slots s) ≡ slot_keys slots
  slot_keys-written s i rise is_at = ap slot_keys (sym (set-at key_cmp key_total slot_key slots s i rise is_at))
      ∙ map-set_same slot_key slots i s s (sym (key_exact _ _ (is_at.has_it s)))

  length-written : (s : KeySlot) (i : ℕ) → IsAscending key_cmp slot_key slots → IsAt key_cmp slot_key slots s.key i
      → length (put key_cmp slot_key slots s) ≡ length slots
  length-written s i rise is_at = ap length (sym (set-at key_cmp key_total slot_key slots s i rise is_at))
      ∙ length-set slots i s

-- open books of this ledger
abbrev pub opened_as : Span → Ledger → List Key → OpenParts
opened_as period L keys = record { books = record { period = period; ledger = L }; slots = keys }

-- the members of a ledger, with these rows
abbrev ledger_with : Ledger → List Row → Ledger
ledger_with L rows = record { members = L.members; rows = rows }

-- each row is within the limit of a claim
abbrev AreSmall : Ledger → Type 0
AreSmall L = All (λ r. paid_by_patient r ≤ 99_999_999) L.rows

module _ (period : Span) (opening : Ledger) (slots : List KeySlot) (deductibles out_of_pockets family_deductibles : List ℕ)
    (store : IsStore period opening slots deductibles out_of_pockets family_deductibles) where
  abbrev now : Ledger
  now = standing opening slots

  own : All (HoldsOwn key_cmp row_key slot_key held) slots
  own j d lt = (store.slots_own j d lt).under

  -- the row under a slot's key is the one that it holds
  pub row-at_slot : (i : ℕ) (s : KeySlot) → slice_get slots i ≡ Some s → row_under now s.key ≡ s.held
  row-at_slot i s there =
      let is_at = IsAt-get key_cmp key_total slot_key slots i s there in
      let found : item_at key_cmp slot_key slots s.key ≡ Some s =
      item_at-at key_cmp key_total slot_key slots s.key i s store.slots_rise is_at
      ∙ ap Some (get_or_from_slice_get slots i s s there) in
      item_at-overlaid key_cmp key_total row_key slot_key held opening.rows slots s.key store.slots_rise own ∙ rw found refl

  pub held-read : (i : ℕ) (o : Option Row) → option_map held (slice_get slots i) ≡ Some o
      → IfSome (slice_get (slot_keys slots) i) (λ k. o ≡ row_under now k)
  held-read i o told = elim (slice_get_cases slots i).1 [
    | inl here ↦
        let one : Some (here.0.held) ≡ Some o = rw here.2 at told in
        let same : here.0.held ≡ o = cc in
        rw (key-get slots i here.0 here.2) (sym same ∙ sym (row-at_slot i here.0 here.2))
    | inr past ↦ absurd (let e : None ≡ Some o = rw past.1 at told in cc)
  ]

  -- a slot without a row is one of a free key
  pub taken-held : (i : ℕ) (s : KeySlot) → slice_get slots i ≡ Some s
      → IfSome (slice_get (slot_keys slots) i) (λ k. is_taken now k ≡ true) → s.held ≡ None → ⊥
  taken-held i s there taken none =
      let key : slice_get (slot_keys slots) i ≡ Some s.key = key-get slots i s there in
      let told : is_taken now s.key ≡ true = rw key at taken in
      let free : is_taken now s.key ≡ false = ap is_some (row-at_slot i s there ∙ none) in
      cc

  -- ---- figures

  few : length now.rows < 2 ^ 64
  few = omega (arith, store.few, length-overlaid key_cmp key_total row_key slot_key held opening.rows slots)

  -- one figure for each member, and two for each family
  pub length-deductibles : length deductibles ≡ length opening.members
  length-deductibles = ap length store.figures.of_members
      ∙ length-map opening.members (λ (m : Member). deductible period now m.key.family m.key.person)

  pub length-pockets : length out_of_pockets ≡ length (families_of opening.members)
  length-pockets = ap length store.figures.of_pockets ∙ length-map (families_of opening.members) (out_of_pocket period now)

  pub length-family_deductibles : length family_deductibles ≡ length (families_of opening.members)
  length-family_deductibles = ap length store.figures.of_families
      ∙ length-map (families_of opening.members) (family_deductible period now)

  -- none nears the end of its type
  pub deductible-low : (at : ℕ) → at < length opening.members → get_or deductibles at 0 ≤ 2 ^ 100
  deductible-low at in_range = rw store.figures.of_members (deductibles-room period now store.small few at no_member in_range)

  pub pocket-low : (at : ℕ) → at < length (families_of opening.members) → get_or out_of_pockets at 0 ≤ 2 ^ 100
  pocket-low at in_range = rw store.figures.of_pockets (pockets-room period now store.small few at in_range)

  pub family_deductible-low : (at : ℕ) → at < length (families_of opening.members) → get_or family_deductibles at 0 ≤ 2 ^ 100
  family_deductible-low at in_range = rw store.figures.of_families (family_deductibles-room period now store.small few at in_range)

  -- ---- a row under a free key

  module _ (r : Row) (i member family : ℕ) (slot : slice_get (slot_keys slots) i ≡ Some r.key)
      (free : is_taken now r.key ≡ false)
      (is_at : IsAt member_cmp member_key opening.members (member_of_row r) member)
      (home : slice_get (families_of opening.members) family ≡ Some r.family) where
    -- the slot with the row
    abbrev pub filled : KeySlot
    filled = record { key = r.key; held = Some r; holder = member }

    added : List KeySlot
    added = put key_cmp slot_key slots filled

    filled-at : IsAt key_cmp slot_key slots r.key i
    filled-at = slot-at slots i r.key slot

    filled-own : IsSlot opening.members filled
    filled-own = record { under = tied_itself key_total r.key; holder = is_at }

    pub keys-added : slot_keys (put key_cmp slot_key slots filled) ≡ slot_keys slots
    keys-added = slot_keys-written slots filled i store.slots_rise filled-at

    pub stands-added : standing opening (put key_cmp slot_key slots filled) ≡ with_row now r
    stands-added = ap (ledger_with opening)
        (overlaid-put key_cmp key_total row_key slot_key held opening.rows slots filled store.opened.rows_rise
        store.slots_rise own filled-own.under)

    at_home : IsAt id_cmp itself (families_of opening.members) r.family family
    at_home = IsAt-get id_cmp id_total itself (families_of opening.members) family r.family home

    pub store-added : paid_by_patient r ≤ 99_999_999 → IsStore period opening (put key_cmp slot_key slots filled)
        (set deductibles member (get_or deductibles member 0 + counted period deductible_paid r))
        (set out_of_pockets family (get_or out_of_pockets family 0 + counted period paid_by_patient r))
        (set family_deductibles family (get_or family_deductibles family 0 + counted period deductible_paid r))
    store-added small = record {
      opened = store.opened;
      in_order = rw stands-added (IsLedger-with_row now r store.in_order
          (contains_key-at member_cmp member_total member_key opening.members (member_of_row r) member is_at));
      slots_rise = IsAscending-put key_cmp key_total slot_key slots filled store.slots_rise;
      slots_own = All-put key_cmp key_total slot_key (IsSlot opening.members) slots filled store.slots_own filled-own;
      figures = rw stands-added (record {
        of_members = ap (λ l. set l member (get_or l member 0 + counted period deductible_paid r)) store.figures.of_members
            ∙ deductibles-added period now store.in_order r member is_at free;
        of_pockets = ap (λ l. set l family (get_or l family 0 + counted period paid_by_patient r)) store.figures.of_pockets
            ∙ families-added period now store.in_order paid_by_patient r family at_home free;
        of_families = ap (λ l. set l family (get_or l family 0 + counted period deductible_paid r)) store.figures.of_families
            ∙ families-added period now store.in_order deductible_paid r family at_home free;
      });
      small = subst AreSmall (sym stands-added) (All-put key_cmp key_total row_key (λ t. paid_by_patient t ≤ 99_999_999)
          (standing_rows opening.rows slots) r store.small small);
      few = rw (length-written slots filled i store.slots_rise filled-at) store.few;
    }

  -- ---- a row that is taken out

  module _ (s : KeySlot) (r : Row) (i : ℕ) (slot : slice_get slots i ≡ Some s) (holds : s.held ≡ Some r) where
    -- the slot without its row
    abbrev pub emptied : KeySlot
    emptied = record { key = s.key; held = None; holder = s.holder }

    emptied-at : IsAt key_cmp slot_key slots s.key i
    emptied-at = IsAt-get key_cmp key_total slot_key slots i s slot

    emptied-own : IsSlot opening.members emptied
    emptied-own = record { under = tt; holder = tt }

    slot-own : IsSlot opening.members s
    slot-own = subst (IsSlot opening.members) (get_or_from_slice_get slots i s s slot)
        (store.slots_own i s emptied-at.in_range)

    pub key-held : r.key ≡ s.key
    key-held = key_exact r.key s.key (rw holds at slot-own.under)

    pub holder-at : IsAt member_cmp member_key opening.members (member_of_row r) s.holder
    holder-at = rw holds at slot-own.holder

    pub row-held : row_under now s.key ≡ Some r
    row-held = row-at_slot i s slot ∙ holds

    pub keys-removed : slot_keys (put key_cmp slot_key slots emptied) ≡ slot_keys slots
    keys-removed = slot_keys-written slots emptied i store.slots_rise emptied-at

    pub stands-removed : standing opening (put key_cmp slot_key slots emptied) ≡ without_row now s.key
    stands-removed = ap (ledger_with opening)
        (overlaid-put key_cmp key_total row_key slot_key held opening.rows slots emptied store.opened.rows_rise
        store.slots_rise own tt)

    module _ (family : ℕ) (home : slice_get (families_of opening.members) family ≡ Some r.family) where
      from_home : IsAt id_cmp itself (families_of opening.members) r.family family
      from_home = IsAt-get id_cmp id_total itself (families_of opening.members) family r.family home

      -- what the row counts is part of each figure
      pub deductible-part : counted period deductible_paid r ≤ get_or deductibles s.holder 0
      deductible-part = rw store.figures.of_members
          (deductibles-enough period now store.in_order r s.holder holder-at s.key row-held)

      pub pocket-part : counted period paid_by_patient r ≤ get_or out_of_pockets family 0
      pocket-part = rw store.figures.of_pockets
          (families-enough period now store.in_order paid_by_patient r family from_home s.key row-held)

      pub family_deductible-part : counted period deductible_paid r ≤ get_or family_deductibles family 0
      family_deductible-part = rw store.figures.of_families
          (families-enough period now store.in_order deductible_paid r family from_home s.key row-held)

      pub store-removed : IsStore period opening (put key_cmp slot_key slots emptied)
          (set deductibles s.holder (get_or deductibles s.holder 0 - counted period deductible_paid r))
          (set out_of_pockets family (get_or out_of_pockets family 0 - counted period paid_by_patient r))
          (set family_deductibles family (get_or family_deductibles family 0 - counted period deductible_paid r))
      store-removed = record {
        opened = store.opened;
        in_order = rw stands-removed (IsLedger-without_row now s.key store.in_order);
        slots_rise = IsAscending-put key_cmp key_total slot_key slots emptied store.slots_rise;
        slots_own = All-put key_cmp key_total slot_key (IsSlot opening.members) slots emptied store.slots_own emptied-own;
        figures = rw stands-removed (record {
          of_members = ap (λ l. set l s.holder (get_or l s.holder 0 - counted period deductible_paid r)) store.figures.of_members
              ∙ deductibles-removed period now store.in_order r s.holder holder-at s.key row-held;
          of_pockets = ap (λ l. set l family (get_or l family 0 - counted period paid_by_patient r)) store.figures.of_pockets
              ∙ families-removed period now store.in_order paid_by_patient r family from_home s.key row-held;
          of_families = ap (λ l. set l family (get_or l family 0 - counted period deductible_paid r)) store.figures.of_families
              ∙ families-removed period now store.in_order deductible_paid r family from_home s.key row-held;
        });
        small = subst AreSmall (sym stands-removed) (All-without key_cmp key_total row_key
            (λ t. paid_by_patient t ≤ 99_999_999) (standing_rows opening.rows slots) s.key store.small);
        few = rw (length-written slots emptied i store.slots_rise emptied-at) store.few;
      }

-- open books, determined by their ledger and the keys of their slots
pub same_open : (period : Span) (L M : Ledger) (js ks : List Key) → L ≡ M → js ≡ ks
    → opened_as period L js ≡ opened_as period M ks
same_open period L M js ks ledger keys = λ i. opened_as period (ledger i) (keys i)
