-- Figures added up, row by row.
use Rattle.std.proofs.Common.{◌≡◌, ℕ, ◌+◌, ◌^◌, ◌<◌, ◌≤◌, List, [], ◌∷◌, ◌++◌, length, get_or, map, replicate}
use Rattle.std.proofs.Common.{set, Bool, true, false, Some, refl, sym, subst, ap, ◌∙◌, append_assoc, arith}
use Rattle.std.specs.Prelude.{slice_get}
use Rattle.std.specs.List.{All, list_all}
use Rattle.std.specs.Ordering.{is_lt}
use Rattle.std.specs.declared.cmp.Ordering.TheVariants.{Less}
use Rattle.std.proofs.lemmas.Bool.{and_parts}
use Rattle.std.proofs.lemmas.List.{append-nil, length-append, length-map}
use Rattle.std.proofs.lemmas.List.Elements.{All-append, All-cons, All-nil}
use Rattle.rx_fields.specs.Numbered.{Span}
use Rattle.rx_fields.specs.Order.{id_cmp, key_cmp}
use Rattle.rx_fields.specs.declared.key.Key.{Key}
use Rattle.rx_sorted.specs.Ascending.{IsAscending, IsAt, IsBelow, contains_key, is_past}
use Rattle.rx_sorted.proofs.Edits.{put-past}
use Rattle.rx_sorted.proofs.Keys.{Less-from_is_lt}
use Rattle.rx_ledger.specs.declared.member.Member.{Member}
use Rattle.rx_ledger.specs.declared.row.Row.{Row}
use Rattle.rx_ledger.specs.Ledger.{Ledger, IsLedger, is_whole, with_row}
use Rattle.rx_ledger.specs.Members.{member_cmp, member_key}
use Rattle.rx_ledger.specs.Rows.{member_of_row, row_key}
use Rattle.rx_ledger.specs.Sums.{counted, deductible, deductible_paid, family_deductible, out_of_pocket, paid_by_patient}
use Rattle.rx_ledger.proofs.Orders.{id_total, key_total}
use Rattle.rx_books_store.specs.BooksText.{families_of}
use Rattle.rx_books_store.specs.Store.{AreFigures}
use Rattle.rx_books_store.proofs.Columns.{deductibles-added, deductibles-room, families-added, family_deductibles-room, pockets-room}
use Rattle.rx_books_store.proofs.FamilyOrder.{itself}
use Rattle.rx_ledger.proofs.CountedRows.{counted-small, counted_deductible-small, no_member}
use Rattle.rx_books_store.proofs.Stored.{IsAt-get}

-- these rows, claimed by these members
abbrev pub claimed : List Member → List Row → Ledger
claimed ms rows = record { members = ms; rows = rows }

-- the figures are those of the rows that were counted, and the others are still to come
pub record IsCounted (period : Span) (ms : List Member) (all rest done : List Row) (ds os fs : List ℕ) : Type 0 where
  pub parts : done ++ rest ≡ all
  pub figures : AreFigures period (claimed ms done) ds os fs
  pub small : All (λ r. paid_by_patient r ≤ 99_999_999) done

-- the places are within the columns, and no figure nears the end of its type
pub record HasRoom (ds os fs : List ℕ) (member family deductible pocket : ℕ) : Type 0 where
  pub in_members : member < length ds
  pub in_pockets : family < length os
  pub in_families : family < length fs
  pub member_room : get_or ds member 0 + deductible < 2 ^ 128
  pub pocket_room : get_or os family 0 + pocket < 2 ^ 128
  pub family_room : get_or fs family 0 + deductible < 2 ^ 128

-- ---- nothing counted

abbrev no_sum : {X : Type 0} → X → ℕ
no_sum x = 0

nothing : {X : Type 0} (xs : List X) → map no_sum xs ≡ replicate (length xs) 0
nothing [] = refl
nothing (x ∷ xs) = ap (λ ns. 0 ∷ ns) (nothing xs)

pub counted_none : (period : Span) (ms : List Member) (all rest : List Row) (ds os fs : List ℕ) (n f : ℕ) → rest ≡ all
    → ds ≡ replicate n 0 → n ≡ length ms → os ≡ replicate f 0 → fs ≡ replicate f 0 → f ≡ length (families_of ms)
    → IsCounted period ms all rest [] ds os fs
counted_none period ms all rest ds os fs n f same d members o g families = record {
  parts = same;
  figures = record {
    of_members = d ∙ ap (λ k. replicate k 0) members ∙ sym (nothing ms);
    of_pockets = o ∙ ap (λ k. replicate k 0) families ∙ sym (nothing (families_of ms));
    of_families = g ∙ ap (λ k. replicate k 0) families ∙ sym (nothing (families_of ms));
  };
  small = All-nil (λ r. paid_by_patient r ≤ 99_999_999);
}

-- ---- all counted

pub all_counted : (period : Span) (ms : List Member) (all rest done : List Row) (ds os fs : List ℕ)
    → IsCounted period ms all rest done ds os fs → rest ≡ []
    → AreFigures period (claimed ms all) ds os fs × All (λ r. paid_by_patient r ≤ 99_999_999) all
all_counted period ms all rest done ds os fs so_far none =
    let same : done ≡ all = sym (append-nil done) ∙ ap (λ xs. done ++ xs) (sym none) ∙ so_far.parts in (
      subst (λ xs. AreFigures period (claimed ms xs) ds os fs) same so_far.figures,
      subst (λ xs. All (λ r. paid_by_patient r ≤ 99_999_999) xs) same so_far.small,
    )

-- ---- one row more

-- the rows in front of others
pub front_rises : (xs ys : List Row) → IsAscending key_cmp row_key (xs ++ ys) → IsAscending key_cmp row_key xs
front_rises [] ys rise = tt
front_rises (x ∷ xs) ys rise = (below xs rise.0, front_rises xs ys rise.1)
  where
    below : (zs : List Row) → IsBelow key_cmp row_key x.key (zs ++ ys) → IsBelow key_cmp row_key x.key zs
    below [] h = tt
    below (z ∷ zs) h = (h.0, below zs h.1)

all_past : (xs : List Row) (r : Row) (ys : List Row) → IsAscending key_cmp row_key (xs ++ r ∷ ys)
    → is_past key_cmp row_key xs r.key ≡ true
all_past [] r ys rise = refl
all_past (x ∷ xs) r ys rise = rw (before xs rise.0) (all_past xs r ys rise.1)
  where
    before : (zs : List Row) → IsBelow key_cmp row_key x.key (zs ++ r ∷ ys) → key_cmp x.key r.key ≡ Less
    before [] h = h.0
    before (z ∷ zs) h = before zs h.1

none_past : (xs : List Row) (k : Key) → is_past key_cmp row_key xs k ≡ true → contains_key key_cmp row_key xs k ≡ false
none_past [] k past = refl
none_past (x ∷ xs) k past =
    let parts = and_parts (is_lt (key_cmp x.key k)) (is_past key_cmp row_key xs k) past in
    rw (Less-from_is_lt (key_cmp x.key k) parts.0) (none_past xs k parts.1)

front_passes : {X : Type 0} (p : X → Bool) (xs ys : List X) → list_all p (xs ++ ys) ≡ true → list_all p xs ≡ true
front_passes p [] ys h = refl
front_passes p (x ∷ xs) ys h =
    let parts = and_parts (p x) (list_all p (xs ++ ys)) h in
    rw parts.0 (front_passes p xs ys parts.1)

module _ (period : Span) (ms : List Member) (all rest done : List Row) (r : Row) (ds os fs : List ℕ)
    (is : IsLedger (claimed ms all)) (so_far : IsCounted period ms all (r ∷ rest) done ds os fs) where
  whole_rise : IsAscending key_cmp row_key (done ++ r ∷ rest)
  whole_rise = subst (IsAscending key_cmp row_key) (sym so_far.parts) is.rows_rise

  done_ledger : IsLedger (claimed ms done)
  done_ledger = record {
    members_rise = is.members_rise;
    rows_rise = front_rises done (r ∷ rest) whole_rise;
    whole = front_passes (λ x. contains_key member_cmp member_key ms (member_of_row x)) done (r ∷ rest)
        (ap (λ xs. is_whole (claimed ms xs)) so_far.parts ∙ is.whole);
  }

  past : is_past key_cmp row_key done r.key ≡ true
  past = all_past done r rest whole_rise

  grown : with_row (claimed ms done) r ≡ claimed ms (done ++ r ∷ [])
  grown = ap (claimed ms) (put-past key_cmp key_total row_key done r past)

  pub few_done : length all < 2 ^ 64 → length done < 2 ^ 64
  few_done few = omega (arith, few, ap length so_far.parts, length-append done (r ∷ rest))

  long_deductibles : length ds ≡ length ms
  long_deductibles = ap length so_far.figures.of_members ∙ length-map ms
      (λ (m : Member). deductible period (claimed ms done) m.key.family m.key.person)

  long_pockets : length os ≡ length (families_of ms)
  long_pockets = ap length so_far.figures.of_pockets ∙ length-map (families_of ms) (out_of_pocket period (claimed ms done))

  long_families : length fs ≡ length (families_of ms)
  long_families = ap length so_far.figures.of_families ∙ length-map (families_of ms) (family_deductible period (claimed ms done))

  module _ (member family : ℕ) (is_at : IsAt member_cmp member_key ms (member_of_row r) member)
      (home : slice_get (families_of ms) family ≡ Some r.family) (small : paid_by_patient r ≤ 99_999_999) where
    at_home : IsAt id_cmp itself (families_of ms) r.family family
    at_home = IsAt-get id_cmp id_total itself (families_of ms) family r.family home

    pub one_more : IsCounted period ms all rest (done ++ r ∷ [])
        (set ds member (get_or ds member 0 + counted period deductible_paid r))
        (set os family (get_or os family 0 + counted period paid_by_patient r))
        (set fs family (get_or fs family 0 + counted period deductible_paid r))
    one_more = record {
      parts = append_assoc done (r ∷ []) rest ∙ so_far.parts;
      figures = subst (λ L. AreFigures period L
          (set ds member (get_or ds member 0 + counted period deductible_paid r))
          (set os family (get_or os family 0 + counted period paid_by_patient r))
          (set fs family (get_or fs family 0 + counted period deductible_paid r))) grown (record {
            of_members = ap (λ l. set l member (get_or l member 0 + counted period deductible_paid r)) so_far.figures.of_members
                ∙ deductibles-added period (claimed ms done) done_ledger r member is_at (none_past done r.key past);
            of_pockets = ap (λ l. set l family (get_or l family 0 + counted period paid_by_patient r)) so_far.figures.of_pockets
                ∙ families-added period (claimed ms done) done_ledger paid_by_patient r family at_home (none_past done r.key past);
            of_families = ap (λ l. set l family (get_or l family 0 + counted period deductible_paid r)) so_far.figures.of_families
                ∙ families-added period (claimed ms done) done_ledger deductible_paid r family at_home (none_past done r.key past);
          });
      small = All-append (λ x. paid_by_patient x ≤ 99_999_999) done (r ∷ []) so_far.small
          (All-cons (λ x. paid_by_patient x ≤ 99_999_999) r [] small (All-nil (λ x. paid_by_patient x ≤ 99_999_999)));
    }

    pub has_room : length all < 2 ^ 64 → HasRoom ds os fs member family (counted period deductible_paid r)
        (counted period paid_by_patient r)
    has_room few =
        let done_few = few_done few in
        let lt : member < length ms = is_at.in_range in
        let at : family < length (families_of ms) = at_home.in_range in
        let one = counted_deductible-small period r small in
        let two = counted-small period r small in
        let low : get_or ds member 0 ≤ 2 ^ 100 = rw so_far.figures.of_members
        (deductibles-room period (claimed ms done) so_far.small done_few member no_member lt) in
        let paid : get_or os family 0 ≤ 2 ^ 100 = rw so_far.figures.of_pockets
        (pockets-room period (claimed ms done) so_far.small done_few family at) in
        let theirs : get_or fs family 0 ≤ 2 ^ 100 = rw so_far.figures.of_families
        (family_deductibles-room period (claimed ms done) so_far.small done_few family at) in
        record {
          in_members = omega (arith, lt, long_deductibles);
          in_pockets = omega (arith, at, long_pockets);
          in_families = omega (arith, at, long_families);
          member_room = omega (arith, low, one);
          pocket_room = omega (arith, paid, two);
          family_room = omega (arith, theirs, one);
        }
