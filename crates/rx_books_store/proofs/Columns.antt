-- The figures of members and families as columns, one sum for each: what one row more, and one row less, does to them.
use Rattle.std.proofs.Common.{◌≡◌, ◌≢◌, ℕ, ◌+◌, ◌-◌, ◌^◌, ◌<◌, ◌≤◌, List, [], ◌∷◌, length, get_or, map, set}
use Rattle.std.proofs.Common.{Bool, true, false, cond, Some, refl, sym, ap, ◌∙◌, inl, inr, arith}
use Rattle.std.specs.Prelude.{◌&&◌}
use Rattle.std.specs.Cmp.{eq_by_cmp_equiv}
use Rattle.std.specs.List.{All, filter, sum_by}
use Rattle.std.specs.Ordering.{is_eq, ordering_then}
use Rattle.std.specs.declared.cmp.Ordering.{Ordering}
use Rattle.std.specs.declared.cmp.Ordering.TheVariants.{Less, Equal, Greater}
use Rattle.std.proofs.lemmas.Bool.{and_left, and_right, cases_Bool}
use Rattle.std.proofs.lemmas.List.{get_or-map}
use Rattle.std.proofs.lemmas.List.Sums.{sum_by-cons, sum_by-le}
use Rattle.rx_fields.specs.Numbered.{Span}
use Rattle.rx_fields.specs.Order.{id_cmp, key_cmp}
use Rattle.rx_fields.specs.declared.key.Key.{Key}
use Rattle.rx_sorted.specs.Ascending.{IsAt, has_key}
use Rattle.rx_sorted.proofs.LookUps.{item_at-free}
use Rattle.rx_sorted.proofs.Places.{has_key-elsewhere}
use Rattle.rx_sorted.proofs.Totals.{sum_by-put_free, sum_by-without}
use Rattle.rx_ledger.specs.declared.member.Member.{Member}
use Rattle.rx_ledger.specs.declared.row.Row.{Row}
use Rattle.rx_ledger.specs.Ledger.{Ledger, IsLedger, is_taken, row_under, with_row, without_row}
use Rattle.rx_ledger.specs.Members.{is_same, member_cmp, member_key}
use Rattle.rx_ledger.specs.Rows.{claimed_by, member_of_row, row_key}
use Rattle.rx_ledger.specs.Sums.{counted, deductible, deductible_paid, family_deductible, out_of_pocket}
use Rattle.rx_ledger.specs.Sums.{paid_by_patient, persons_deductible_paid}
use Rattle.rx_ledger.proofs.Orders.{id_total, key_total, member_total}
use Rattle.rx_books_store.specs.BooksText.{deductibles_of, families_of}
use Rattle.rx_books_family.proofs.Changed.{set-map}
use Rattle.rx_books_store.proofs.FamilyOrder.{families_rise, itself}
use Rattle.rx_ledger.proofs.CountedRows.{counted-other, counted-own, counted-small}
use Rattle.rx_ledger.proofs.CountedRows.{counted_deductible-small, counted_person-small, no_member}

-- ---- any column of numbers

module _ {Y : Type 0} (f g share : Y → ℕ) (names : List Y) (at c : ℕ) (d : Y) (in_range : at < length names)
    (here : share (get_or names at d) ≡ c)
    (others : (j : ℕ) → j < length names → j ≢ at → share (get_or names j d) ≡ 0) where
  -- the number at the place is that of its name
  read_at : get_or (map f names) at 0 ≡ f (get_or names at d)
  read_at = get_or-map f names at d 0 in_range

  -- a share that only one name has is added at its place
  pub column-more : ((y : Y) → g y ≡ f y + share y) → set (map f names) at (get_or (map f names) at 0 + c) ≡ map g names
  column-more more =
      let v : g (get_or names at d) ≡ get_or (map f names) at 0 + c = more (get_or names at d) ∙ rw (here, read_at) refl in
      set-map f g names at (get_or (map f names) at 0 + c) d in_range v
      (λ j lt differs. let zero = others j lt differs in omega (arith, more (get_or names j d)))

  -- or taken away, where it is a part of each number
  module _ (less : (y : Y) → g y + share y ≡ f y) where
    pub column-enough : c ≤ get_or (map f names) at 0
    column-enough = omega (arith, read_at, less (get_or names at d), here)

    pub column-less : set (map f names) at (get_or (map f names) at 0 - c) ≡ map g names
    column-less =
        let v : g (get_or names at d) ≡ get_or (map f names) at 0 - c = omega (arith, read_at, less (get_or names at d), here) in
        set-map f g names at (get_or (map f names) at 0 - c) d in_range v
        (λ j lt differs. let zero = others j lt differs in omega (arith, less (get_or names j d)))

-- ---- sums over the rows of a family, as sums over all rows

-- what counts where it passes
abbrev pub passing : (Row → Bool) → (Row → ℕ) → Row → ℕ
passing p f r = cond (p r) (f r) 0

sum_by-filter : (p : Row → Bool) (f : Row → ℕ) (rows : List Row) → sum_by f (filter p rows) ≡ sum_by (passing p f) rows
sum_by-filter p f [] = refl
sum_by-filter p f (r ∷ rows) =
    one (p r) (sum_by-filter p f rows) ∙ sym (sum_by-cons (passing p f) r rows)
  where
    one : (b : Bool) → sum_by f (filter p rows) ≡ sum_by (passing p f) rows
        → sum_by f (cond b (r ∷ filter p rows) (filter p rows)) ≡ cond b (f r) 0 + sum_by (passing p f) rows
    one true rest = sum_by-cons f r (filter p rows) ∙ ap (λ n. f r + n) rest
    one false rest = omega arith

passing-small : (p : Row → Bool) (f : Row → ℕ) (r : Row) (n : ℕ) → f r ≤ n → passing p f r ≤ n
passing-small p f r n small = elim (cases_Bool (p r)) [ inl t ↦ rw t small | inr n ↦ rw n (omega arith) ]

passed : (p : Row → Bool) (f : Row → ℕ) (r : Row) → p r ≡ true → passing p f r ≡ f r
passed p f r t = rw t refl

refused : (p : Row → Bool) (f : Row → ℕ) (r : Row) → p r ≡ false → passing p f r ≡ 0
refused p f r n = rw n refl

-- ---- a ledger with one row more or less

module _ (L : Ledger) (family : List ℕ) (f : Row → ℕ) where
  row-more : (r : Row) → is_taken L r.key ≡ false → sum_by f (filter (claimed_by family) (with_row L r).rows)
      ≡ sum_by f (filter (claimed_by family) L.rows) + passing (claimed_by family) f r
  row-more r free =
      let all = sum_by-put_free key_cmp key_total row_key (passing (claimed_by family) f) L.rows r
      (item_at-free key_cmp key_total row_key L.rows r.key free) in
      sum_by-filter (claimed_by family) f (with_row L r).rows ∙ all
      ∙ ap (λ n. n + passing (claimed_by family) f r) (sym (sum_by-filter (claimed_by family) f L.rows))

  row-less : (k : Key) (r : Row) → IsLedger L → row_under L k ≡ Some r
      → sum_by f (filter (claimed_by family) (without_row L k).rows) + passing (claimed_by family) f r
      ≡ sum_by f (filter (claimed_by family) L.rows)
  row-less k r is there =
      let all = sum_by-without key_cmp key_total row_key (passing (claimed_by family) f) L.rows k r is.rows_rise there in
      ap (λ n. n + passing (claimed_by family) f r) (sum_by-filter (claimed_by family) f (without_row L k).rows)
      ∙ all ∙ sym (sum_by-filter (claimed_by family) f L.rows)

  -- no sum nears the end of its type
  row-room : All (λ r. f r ≤ 99_999_999) L.rows → length L.rows < 2 ^ 64
      → sum_by f (filter (claimed_by family) L.rows) ≤ 2 ^ 100
  row-room small few =
      let bound = sum_by-le (passing (claimed_by family) f) 99_999_999 L.rows
      (λ j d lt. passing-small (claimed_by family) f (get_or L.rows j d) 99_999_999 (small j d lt)) in
      rw (sum_by-filter (claimed_by family) f L.rows) (omega (arith, bound, few))

-- ---- the deductibles of the members

turned : (a b : List ℕ) → is_same a b ≡ is_same b a
turned a b = (eq_by_cmp_equiv id_total).symm a b

both-eq : (o p : Ordering) → is_eq (ordering_then o p) ≡ (is_eq o && is_eq p)
both-eq Less p = refl
both-eq Equal p = refl
both-eq Greater p = refl

-- a member is the row's where family and person are
member-of : (m : Member) (r : Row)
    → has_key member_cmp member_key (member_of_row r) m ≡ (is_same r.family m.key.family && is_same r.person m.key.person)
member-of m r = both-eq (id_cmp m.key.family r.family) (id_cmp m.key.person r.person)
    ∙ rw (turned m.key.family r.family, turned m.key.person r.person) refl

-- what a row counts toward the deductible of a member
abbrev members_share : Span → Row → Member → ℕ
members_share period r m = passing (claimed_by m.key.family) (counted period (persons_deductible_paid m.key.person)) r

members_share-own : (period : Span) (r : Row) (m : Member) → has_key member_cmp member_key (member_of_row r) m ≡ true
    → members_share period r m ≡ counted period deductible_paid r
members_share-own period r m own =
    let both = sym (member-of m r) ∙ own in
    elim (cases_Bool (is_same r.family m.key.family)) [
      | inl theirs ↦ elim (cases_Bool (is_same r.person m.key.person)) [
        | inl same ↦ passed (claimed_by m.key.family) (counted period (persons_deductible_paid m.key.person)) r theirs
            ∙ counted-own period r m.key.person same
        | inr other ↦ absurd (let e : false ≡ true = sym (and_right _ _ other) ∙ both in cc)
      ]
      | inr strange ↦ absurd (let e : false ≡ true = sym (and_left _ _ strange) ∙ both in cc)
    ]

members_share-other : (period : Span) (r : Row) (m : Member) → has_key member_cmp member_key (member_of_row r) m ≡ false
    → members_share period r m ≡ 0
members_share-other period r m not_own =
    let both = sym (member-of m r) ∙ not_own in
    elim (cases_Bool (is_same r.family m.key.family)) [
      | inl theirs ↦ elim (cases_Bool (is_same r.person m.key.person)) [
        | inl same ↦ absurd (let e : true ≡ false = sym (rw (theirs, same) refl) ∙ both in cc)
        | inr other ↦ passed (claimed_by m.key.family) (counted period (persons_deductible_paid m.key.person)) r theirs
            ∙ counted-other period r m.key.person other
      ]
      | inr strange ↦ refused (claimed_by m.key.family) (counted period (persons_deductible_paid m.key.person)) r strange
    ]

module _ (period : Span) (L : Ledger) (is : IsLedger L) (r : Row) (at : ℕ)
    (is_at : IsAt member_cmp member_key L.members (member_of_row r) at) where
  abbrev figure : Ledger → Member → ℕ
  figure M m = deductible period M m.key.family m.key.person

  here : members_share period r (get_or L.members at no_member) ≡ counted period deductible_paid r
  here = members_share-own period r (get_or L.members at no_member) (ap is_eq (is_at.has_it no_member))

  others : (j : ℕ) → j < length L.members → j ≢ at → members_share period r (get_or L.members j no_member) ≡ 0
  others j lt differs = members_share-other period r (get_or L.members j no_member)
      (has_key-elsewhere member_cmp member_total member_key L.members (member_of_row r) at is.members_rise is_at j no_member lt differs)

  -- a row of a listed member under a free fill key
  pub deductibles-added : is_taken L r.key ≡ false
      → set (deductibles_of period L) at (get_or (deductibles_of period L) at 0 + counted period deductible_paid r)
      ≡ deductibles_of period (with_row L r)
  deductibles-added free = column-more (figure L) (figure (with_row L r)) (members_share period r) L.members at
      (counted period deductible_paid r) no_member is_at.in_range here others
      (λ m. row-more L m.key.family (counted period (persons_deductible_paid m.key.person)) r free)

  module _ (k : Key) (there : row_under L k ≡ Some r) where
    less : (m : Member) → figure (without_row L k) m + members_share period r m ≡ figure L m
    less m = row-less L m.key.family (counted period (persons_deductible_paid m.key.person)) k r is there

    pub deductibles-enough : counted period deductible_paid r ≤ get_or (deductibles_of period L) at 0
    deductibles-enough = column-enough (figure L) (figure (without_row L k)) (members_share period r) L.members at
        (counted period deductible_paid r) no_member is_at.in_range here others less

    -- the row under a key is taken out
    pub deductibles-removed :
        set (deductibles_of period L) at (get_or (deductibles_of period L) at 0 - counted period deductible_paid r)
        ≡ deductibles_of period (without_row L k)
    deductibles-removed = column-less (figure L) (figure (without_row L k)) (members_share period r) L.members at
        (counted period deductible_paid r) no_member is_at.in_range here others less

-- ---- the figures of the families

-- what a row counts toward a figure of a family
abbrev familys_share : Span → (Row → ℕ) → Row → List ℕ → ℕ
familys_share period paid r family = passing (claimed_by family) (counted period paid) r

module _ (period : Span) (L : Ledger) (is : IsLedger L) (paid : Row → ℕ) (r : Row) (at : ℕ)
    (is_at : IsAt id_cmp itself (families_of L.members) r.family at) where
  abbrev familys : Ledger → List ℕ → ℕ
  familys M family = sum_by (counted period paid) (filter (claimed_by family) M.rows)

  here_family : familys_share period paid r (get_or (families_of L.members) at []) ≡ counted period paid r
  here_family = passed (claimed_by (get_or (families_of L.members) at [])) (counted period paid) r
      (turned r.family (get_or (families_of L.members) at []) ∙ ap is_eq (is_at.has_it []))

  other_families : (j : ℕ) → j < length (families_of L.members) → j ≢ at
      → familys_share period paid r (get_or (families_of L.members) j []) ≡ 0
  other_families j lt differs = refused (claimed_by (get_or (families_of L.members) j [])) (counted period paid) r
      (turned r.family (get_or (families_of L.members) j [])
      ∙ has_key-elsewhere id_cmp id_total itself (families_of L.members) r.family at (families_rise L.members is.members_rise)
      is_at j [] lt differs)

  pub families-added : is_taken L r.key ≡ false
      → set (map (familys L) (families_of L.members)) at (get_or (map (familys L) (families_of L.members)) at 0 + counted period paid r)
      ≡ map (familys (with_row L r)) (families_of L.members)
  families-added free = column-more (familys L) (familys (with_row L r)) (familys_share period paid r) (families_of L.members) at
      (counted period paid r) [] is_at.in_range here_family other_families (λ family. row-more L family (counted period paid) r free)

  module _ (k : Key) (there : row_under L k ≡ Some r) where
    families_less : (family : List ℕ) → familys (without_row L k) family + familys_share period paid r family ≡ familys L family
    families_less family = row-less L family (counted period paid) k r is there

    pub families-enough : counted period paid r ≤ get_or (map (familys L) (families_of L.members)) at 0
    families-enough = column-enough (familys L) (familys (without_row L k)) (familys_share period paid r) (families_of L.members) at
        (counted period paid r) [] is_at.in_range here_family other_families families_less

    pub families-removed :
        set (map (familys L) (families_of L.members)) at (get_or (map (familys L) (families_of L.members)) at 0 - counted period paid r)
        ≡ map (familys (without_row L k)) (families_of L.members)
    families-removed = column-less (familys L) (familys (without_row L k)) (familys_share period paid r) (families_of L.members) at
        (counted period paid r) [] is_at.in_range here_family other_families families_less

-- ---- bounds

module _ (period : Span) (L : Ledger) (small : All (λ r. paid_by_patient r ≤ 99_999_999) L.rows) (few : length L.rows < 2 ^ 64) where
  pub deductible-room : (family person : List ℕ) → deductible period L family person ≤ 2 ^ 100
  deductible-room family person = row-room L family (counted period (persons_deductible_paid person))
      (λ j d lt. counted_person-small period (get_or L.rows j d) person (small j d lt)) few

  pub pocket-room : (family : List ℕ) → out_of_pocket period L family ≤ 2 ^ 100
  pocket-room family = row-room L family (counted period paid_by_patient)
      (λ j d lt. counted-small period (get_or L.rows j d) (small j d lt)) few

  pub family_deductible-room : (family : List ℕ) → family_deductible period L family ≤ 2 ^ 100
  family_deductible-room family = row-room L family (counted period deductible_paid)
      (λ j d lt. counted_deductible-small period (get_or L.rows j d) (small j d lt)) few

  -- the number at a place of a column
  pub deductibles-room : (at : ℕ) (m : Member) → at < length L.members → get_or (deductibles_of period L) at 0 ≤ 2 ^ 100
  deductibles-room at m in_range =
      let read = get_or-map (λ (n : Member). deductible period L n.key.family n.key.person) L.members at m 0 in_range in
      rw read (deductible-room (get_or L.members at m).key.family (get_or L.members at m).key.person)

  pub pockets-room : (at : ℕ) → at < length (families_of L.members)
      → get_or (map (out_of_pocket period L) (families_of L.members)) at 0 ≤ 2 ^ 100
  pockets-room at in_range =
      let read = get_or-map (out_of_pocket period L) (families_of L.members) at [] 0 in_range in
      rw read (pocket-room (get_or (families_of L.members) at []))

  pub family_deductibles-room : (at : ℕ) → at < length (families_of L.members)
      → get_or (map (family_deductible period L) (families_of L.members)) at 0 ≤ 2 ^ 100
  family_deductibles-room at in_range =
      let read = get_or-map (family_deductible period L) (families_of L.members) at [] 0 in_range in
      rw read (family_deductible-room (get_or (families_of L.members) at []))
