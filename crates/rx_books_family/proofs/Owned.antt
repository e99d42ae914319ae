-- What a change of a family's rows and members does to its totals.
use Rattle.std.proofs.Common.{◌≡◌, ◌≢◌, ℕ, ◌+◌, ◌-◌, ◌^◌, ◌<◌, ◌≤◌, List, [], ◌∷◌, ◌++◌, append-nil, length, get_or}
use Rattle.std.proofs.Common.{map, set, true, false, Option, Some, None, refl, sym, ap, ◌∙◌, inl, inr, arith}
use Rattle.std.specs.List.{All, refill, sum_by}
use Rattle.std.specs.Cmp.{eq_by_cmp_equiv}
use Rattle.std.specs.Option.{is_some}
use Rattle.std.specs.Ordering.{is_eq}
use Rattle.std.proofs.lemmas.Bool.{cases_Bool, and_parts}
use Rattle.std.proofs.lemmas.Cmp.{tied_itself}
use Rattle.std.proofs.lemmas.List.{drop_all, get_or-map, length-set, map-append, take_all}
use Rattle.std.proofs.lemmas.List.Elements.{All-cons, All-contains, All-nil}
use Rattle.std.proofs.lemmas.List.Sums.{AllPass-from_list_all, sum_by-le}
use Rattle.rx_fields.specs.Order.{key_cmp}
use Rattle.rx_fields.specs.declared.key.Key.{Key}
use Rattle.rx_sorted.specs.Ascending.{IsAt, has_key, is_past, item_at, put, without}
use Rattle.rx_sorted.proofs.Edits.{put-past}
use Rattle.rx_sorted.proofs.Keys.{Equal-from_is_eq, Less-from_is_lt}
use Rattle.rx_sorted.proofs.LookUps.{item_at-found, item_at-none}
use Rattle.rx_sorted.proofs.Places.{has_key-elsewhere}
use Rattle.rx_sorted.proofs.Totals.{All-put, All-without, length-without, sum_by-put_free, sum_by-without}
use Rattle.rx_ledger.specs.declared.member.Member.{Member}
use Rattle.rx_ledger.specs.declared.member.MemberKey.{MemberKey}
use Rattle.rx_ledger.specs.declared.row.Row.{Row}
use Rattle.rx_ledger.specs.Ledger.{is_listed}
use Rattle.rx_ledger.specs.Members.{is_same, member_cmp, member_key}
use Rattle.rx_ledger.specs.Rows.{member_of_row, row_key}
use Rattle.rx_ledger.specs.Sums.{counted, deductible_in, deductible_paid, paid_by_patient, persons_deductible_paid}
use Rattle.rx_ledger.proofs.CountedRows.{counted-other, counted-own, counted-small, counted_deductible-small, counted_person-small, no_member}
use Rattle.rx_ledger.proofs.Ledgers.{IsLedger-with_member, IsLedger-with_row, IsLedger-without_row}
use Rattle.rx_ledger.proofs.Passed.{passed_found}
use Rattle.rx_ledger.proofs.Orders.{id_exact, id_total, key_total, member_exact, member_total}
use Rattle.rx_books_family.specs.FamilyBook.{FamilyBook, IsOwn, AreTotals, book_with_member, book_with_row, book_without_row, own_ledger}
use Rattle.rx_books_family.proofs.Changed.{set-map, sum_by-nothing}

-- ---- texts and members

same_turned : (a b : List ℕ) → is_same a b ≡ is_same b a
same_turned a b = (eq_by_cmp_equiv id_total).symm a b

-- a member of the family has the key of a row's member where it is the row's person
has_person-row : (m : Member) (r : Row) → m.key.family ≡ r.family
    → has_key member_cmp member_key (member_of_row r) m ≡ is_same r.person m.key.person
has_person-row m r own =
    rw own (rw (tied_itself id_total r.family) (same_turned m.key.person r.person))

-- what is listed is one of the members, who are of the family
pub listed_own : (b : FamilyBook) → IsOwn b → (k : MemberKey) → is_listed (own_ledger b) k ≡ true → k.family ≡ b.family
listed_own b own k listed = found (item_at member_cmp member_key b.members k) refl listed
  where
    found : (o : Option Member) → item_at member_cmp member_key b.members k ≡ o → is_some o ≡ true → k.family ≡ b.family
    found None is h = cc
    found (Some m) is h =
        let at = item_at-found member_cmp member_total member_key b.members k m is in
        let same : m.key ≡ k = member_exact m.key k at.1 in
        let of_family : m.key.family ≡ b.family =
        All-contains (λ (n : Member). n.key.family ≡ b.family) b.members m own.members_own at.0 in
        ap (λ (j : MemberKey). j.family) (sym same) ∙ of_family

-- ---- one row more, one row less

module _ (b : FamilyBook) (own : IsOwn b) (deductibles : List ℕ) (pocket deductible : ℕ)
    (totals : AreTotals b deductibles pocket deductible) where
  -- no total nears the end of its type
  pub deductible_room : (at : ℕ) (m : Member) → at < length b.members → get_or deductibles at 0 ≤ 2 ^ 100
  deductible_room at m in_range =
      let person = (get_or b.members at m).key.person in
      let f = counted b.period (persons_deductible_paid person) in
      let bound = sum_by-le f 99_999_999 b.rows (λ j d lt. counted_person-small b.period (get_or b.rows j d) person (own.small j d lt)) in
      let read = get_or-map (λ (n : Member). deductible_in b.period b.rows n.key.person) b.members at m 0 in_range in
      rw totals.of_members (rw read (omega (arith, bound, own.few)))

  -- a list in which one figure is changed is as long, and takes the place of the whole
  pub changed_figure : (at d : ℕ) → refill (length deductibles) deductibles (set deductibles at d) ≡ set deductibles at d
  changed_figure at d =
      let changed = set deductibles at d in
      let long : length changed ≡ length deductibles = length-set deductibles at d in
      rw long (rw (drop_all (length deductibles) deductibles (omega arith)) (rw (append-nil changed)
      (take_all (length deductibles) changed (omega (arith, long)))))

  -- the figure at a member's place is the sum over the member's rows
  pub deductible_read : (person : List ℕ) (at : ℕ)
      → IsAt member_cmp member_key b.members (record { family = b.family; person = person }) at
      → get_or deductibles at 0 ≡ deductible_in b.period b.rows person
  deductible_read person at is_at =
      let k : MemberKey = record { family = b.family; person = person } in
      let same : (get_or b.members at no_member).key ≡ k = member_exact _ _ (is_at.has_it no_member) in
      ap (λ l. get_or l at 0) totals.of_members
      ∙ get_or-map (λ (n : Member). deductible_in b.period b.rows n.key.person) b.members at no_member 0 is_at.in_range
      ∙ ap (λ (j : MemberKey). deductible_in b.period b.rows j.person) same

  pub pocket_room : pocket ≤ 2 ^ 100
  pocket_room =
      let f = counted b.period paid_by_patient in
      let bound = sum_by-le f 99_999_999 b.rows (λ j d lt. counted-small b.period (get_or b.rows j d) (own.small j d lt)) in
      rw totals.of_pocket (omega (arith, bound, own.few))

  pub family_room : deductible ≤ 2 ^ 100
  family_room =
      let f = counted b.period deductible_paid in
      let bound = sum_by-le f 99_999_999 b.rows (λ j d lt. counted_deductible-small b.period (get_or b.rows j d) (own.small j d lt)) in
      rw totals.of_family (omega (arith, bound, own.few))

  module _ (r : Row) (listed : is_listed (own_ledger b) (member_of_row r) ≡ true) (at : ℕ)
      (is_at : IsAt member_cmp member_key b.members (member_of_row r) at) where
    member_own : (j : ℕ) (m : Member) → j < length b.members → (get_or b.members j m).key.family ≡ r.family
    member_own j m lt = own.members_own j m lt ∙ sym (listed_own b own (member_of_row r) listed)

    -- the member at the place is the row's person, and no other is
    at_place : (m : Member) → is_same r.person (get_or b.members at m).key.person ≡ true
    at_place m = sym (has_person-row (get_or b.members at m) r (member_own at m is_at.in_range))
        ∙ ap is_eq (is_at.has_it m)

    elsewhere : (m : Member) (j : ℕ) → j < length b.members → j ≢ at
        → is_same r.person (get_or b.members j m).key.person ≡ false
    elsewhere m j lt differs = sym (has_person-row (get_or b.members j m) r (member_own j m lt))
        ∙ has_key-elsewhere member_cmp member_total member_key b.members (member_of_row r) at own.in_order.members_rise
        is_at j m lt differs

    pub totals-added : Member → item_at key_cmp row_key b.rows r.key ≡ None
        → AreTotals (book_with_row b r) (set deductibles at (get_or deductibles at 0 + counted b.period deductible_paid r))
        (pocket + counted b.period paid_by_patient r) (deductible + counted b.period deductible_paid r)
    totals-added m free =
        let f : Member → ℕ = λ n. deductible_in b.period b.rows n.key.person in
        let g : Member → ℕ = λ n. deductible_in b.period (put key_cmp row_key b.rows r) n.key.person in
        let more : (n : Member) → g n ≡ f n + counted b.period (persons_deductible_paid n.key.person) r =
        λ n. sum_by-put_free key_cmp key_total row_key (counted b.period (persons_deductible_paid n.key.person)) b.rows r free in
        let here = get_or b.members at m in
        let before : get_or deductibles at 0 ≡ f here =
        ap (λ l. get_or l at 0) totals.of_members ∙ get_or-map f b.members at m 0 is_at.in_range in
        let changed : g here ≡ get_or deductibles at 0 + counted b.period deductible_paid r =
        more here ∙ rw (counted-own b.period r here.key.person (at_place m), before) in
        let others : (j : ℕ) → j < length b.members → j ≢ at → g (get_or b.members j m) ≡ f (get_or b.members j m) =
        λ j lt differs. let n = more (get_or b.members j m) in
        let zero = counted-other b.period r (get_or b.members j m).key.person (elsewhere m j lt differs) in omega arith in
        record {
          of_members = ap (λ l. set l at (get_or deductibles at 0 + counted b.period deductible_paid r)) totals.of_members
              ∙ set-map f g b.members at _ m is_at.in_range changed others;
          of_pocket = ap (λ n. n + counted b.period paid_by_patient r) totals.of_pocket
              ∙ sym (sum_by-put_free key_cmp key_total row_key (counted b.period paid_by_patient) b.rows r free);
          of_family = ap (λ n. n + counted b.period deductible_paid r) totals.of_family
              ∙ sym (sum_by-put_free key_cmp key_total row_key (counted b.period deductible_paid) b.rows r free);
        }

    module _ (m : Member) (key : Key) (there : item_at key_cmp row_key b.rows key ≡ Some r) where
      less : (f : Row → ℕ) → sum_by f (without key_cmp row_key b.rows key) + f r ≡ sum_by f b.rows
      less f = sum_by-without key_cmp key_total row_key f b.rows key r own.in_order.rows_rise there

      read : get_or deductibles at 0 ≡ deductible_in b.period b.rows (get_or b.members at m).key.person
      read = ap (λ l. get_or l at 0) totals.of_members
          ∙ get_or-map (λ (n : Member). deductible_in b.period b.rows n.key.person) b.members at m 0 is_at.in_range

      -- what the row counts is part of the totals
      pub deductible_enough : counted b.period deductible_paid r ≤ get_or deductibles at 0
      deductible_enough =
          let person = (get_or b.members at m).key.person in
          omega (arith, read, less (counted b.period (persons_deductible_paid person)), counted-own b.period r person (at_place m))

      pub pocket_enough : counted b.period paid_by_patient r ≤ pocket
      pocket_enough = omega (arith, totals.of_pocket, less (counted b.period paid_by_patient))

      pub family_enough : counted b.period deductible_paid r ≤ deductible
      family_enough = omega (arith, totals.of_family, less (counted b.period deductible_paid))

      pub totals-removed :
          AreTotals (book_without_row b key) (set deductibles at (get_or deductibles at 0 - counted b.period deductible_paid r))
          (pocket - counted b.period paid_by_patient r) (deductible - counted b.period deductible_paid r)
      totals-removed =
          let f : Member → ℕ = λ n. deductible_in b.period b.rows n.key.person in
          let g : Member → ℕ = λ n. deductible_in b.period (without key_cmp row_key b.rows key) n.key.person in
          let here = get_or b.members at m in
          let changed : g here ≡ get_or deductibles at 0 - counted b.period deductible_paid r =
          omega (
            arith,
            read,
            less (counted b.period (persons_deductible_paid here.key.person)),
            counted-own b.period r here.key.person (at_place m),
          ) in
          let others : (j : ℕ) → j < length b.members → j ≢ at → g (get_or b.members j m) ≡ f (get_or b.members j m) =
          λ j lt differs.
          let person = (get_or b.members j m).key.person in
          omega (
            arith,
            less (counted b.period (persons_deductible_paid person)),
            counted-other b.period r person (elsewhere m j lt differs),
          ) in
          record {
            of_members = ap (λ l. set l at (get_or deductibles at 0 - counted b.period deductible_paid r)) totals.of_members
                ∙ set-map f g b.members at _ m is_at.in_range changed others;
            of_pocket = omega (arith, totals.of_pocket, less (counted b.period paid_by_patient));
            of_family = omega (arith, totals.of_family, less (counted b.period deductible_paid));
          }

-- ---- what is kept

pub own-added : (b : FamilyBook) (r : Row) → IsOwn b → is_listed (own_ledger b) (member_of_row r) ≡ true
    → paid_by_patient r ≤ 99_999_999 → length (put key_cmp row_key b.rows r) < 2 ^ 63 → IsOwn (book_with_row b r)
own-added b r own listed small few = record {
  in_order = IsLedger-with_row (own_ledger b) r own.in_order listed;
  members_own = own.members_own;
  small = All-put key_cmp key_total row_key (λ s. paid_by_patient s ≤ 99_999_999) b.rows r own.small small;
  few = few;
}

pub own-removed : (b : FamilyBook) (key : Key) (r : Row) → IsOwn b → item_at key_cmp row_key b.rows key ≡ Some r
    → IsOwn (book_without_row b key)
own-removed b key r own there = record {
  in_order = IsLedger-without_row (own_ledger b) key own.in_order;
  members_own = own.members_own;
  small = All-without key_cmp key_total row_key (λ s. paid_by_patient s ≤ 99_999_999) b.rows key own.small;
  few = omega (arith, own.few, length-without key_cmp key_total row_key b.rows key r own.in_order.rows_rise there);
}

-- the member of a row that is found is listed
pub row_listed : (b : FamilyBook) (key : Key) (r : Row) → IsOwn b → item_at key_cmp row_key b.rows key ≡ Some r
    → is_listed (own_ledger b) (member_of_row r) ≡ true
row_listed b key r own there =
    passed_found (λ (s : Row). is_listed (own_ledger b) (member_of_row s)) key_cmp row_key b.rows key r own.in_order.whole there

-- ---- one member more

not_past : (k : MemberKey) (ms : List Member) → is_past member_cmp member_key ms k ≡ true
    → All (λ m. has_key member_cmp member_key k m ≡ false) ms
not_past k [] past = All-nil (λ m. has_key member_cmp member_key k m ≡ false)
not_past k (m ∷ ms) past =
    let parts = and_parts _ _ past in
    All-cons (λ n. has_key member_cmp member_key k n ≡ false) m ms (ap is_eq (Less-from_is_lt _ parts.0)) (not_past k ms parts.1)

pub past_free : (k : MemberKey) (ms : List Member) → is_past member_cmp member_key ms k ≡ true
    → item_at member_cmp member_key ms k ≡ None
past_free k ms past = item_at-none member_cmp member_total member_key ms k (not_past k ms past)

module _ (b : FamilyBook) (own : IsOwn b) (m : Member) (of_family : m.key.family ≡ b.family)
    (past : is_past member_cmp member_key b.members m.key ≡ true) where
  -- a member who is new has no row
  not_theirs : (r : Row) → is_listed (own_ledger b) (member_of_row r) ≡ true → is_same r.person m.key.person ≡ false
  not_theirs r listed = elim (cases_Bool (is_same r.person m.key.person)) [
    | inl same ↦
        let person : r.person ≡ m.key.person = id_exact r.person m.key.person (Equal-from_is_eq _ same) in
        let family : r.family ≡ m.key.family = listed_own b own (member_of_row r) listed ∙ sym of_family in
        let key : member_of_row r ≡ m.key = λ i. record { family = family i; person = person i } in
        let free : is_listed (own_ledger b) (member_of_row r) ≡ false =
        ap (is_listed (own_ledger b)) key ∙ ap is_some (past_free m.key b.members past) in
        absurd (let e : true ≡ false = sym listed ∙ free in cc)
    | inr other ↦ other
  ]

  nothing_yet : deductible_in b.period b.rows m.key.person ≡ 0
  nothing_yet = sum_by-nothing (counted b.period (persons_deductible_paid m.key.person)) b.rows
      (λ j d lt. counted-other b.period (get_or b.rows j d) m.key.person (not_theirs (get_or b.rows j d) (listed j d lt)))
    where
      listed : (j : ℕ) (d : Row) → j < length b.rows → is_listed (own_ledger b) (member_of_row (get_or b.rows j d)) ≡ true
      listed j d lt = AllPass-from_list_all (λ (s : Row). is_listed (own_ledger b) (member_of_row s)) b.rows own.in_order.whole j d lt

  pub totals-member : (deductibles : List ℕ) (pocket deductible : ℕ) → AreTotals b deductibles pocket deductible
      → AreTotals (book_with_member b m) (deductibles ++ 0 ∷ []) pocket deductible
  totals-member deductibles pocket deductible totals =
      let f : Member → ℕ = λ n. deductible_in b.period b.rows n.key.person in
      record {
        of_members = ap (λ l. l ++ 0 ∷ []) totals.of_members
            ∙ ap (λ n. map f b.members ++ n ∷ []) (sym nothing_yet)
            ∙ sym (map-append f b.members (m ∷ []))
            ∙ ap (map f) (sym (put-past member_cmp member_total member_key b.members m past));
        of_pocket = totals.of_pocket;
        of_family = totals.of_family;
      }

  pub own-member : IsOwn (book_with_member b m)
  own-member = record {
    in_order = IsLedger-with_member (own_ledger b) m own.in_order;
    members_own = All-put member_cmp member_total member_key (λ n. n.key.family ≡ b.family) b.members m own.members_own of_family;
    small = own.small;
    few = own.few;
  }
