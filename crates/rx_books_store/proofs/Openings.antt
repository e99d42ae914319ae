-- The lists that books are made from: the families in order, and the places of families and members.
use Rattle.std.proofs.Common.{◌≡◌, ℕ, zero, suc, ◌+◌, ◌-◌, ◌<◌, ◌≤◌, List, [], ◌∷◌, ◌++◌, length, get_or, take}
use Rattle.std.proofs.Common.{Bool, true, false, cond, not, Some, refl, sym, subst, ap, ◌∙◌, inl, inr, arith}
use Rattle.std.specs.Prelude.{◌⊎◌, ◌&&◌, ◌==◌, ◌^◌, slice_get, slice_index}
use Rattle.std.specs.List.{All, AllZip, Contains, filter, flat_map, list_any}
use Rattle.std.specs.Ordering.{is_eq, is_lt, ordering_then}
use Rattle.std.specs.declared.cmp.Ordering.{Ordering}
use Rattle.std.specs.declared.cmp.Ordering.TheVariants.{Less, Equal, Greater}
use Rattle.std.proofs.lemmas.Bool.{cases_Bool, cases_lt, lt-ltb}
use Rattle.std.proofs.lemmas.Cmp.{tied_back, tied_itself}
use Rattle.std.proofs.lemmas.Grind.{flat_map-append}
use Rattle.std.proofs.lemmas.List.{append-nil, length-append, map-append, take_more}
use Rattle.std.specs.Vec.{vec_items}
use Rattle.std.specs.declared.vec.Vec.{Vec}
use Rattle.std.proofs.lemmas.List.Sums.{AllPass-from_list_all}
use Rattle.std.proofs.lemmas.List.Elements.{All-cons, All-contains, All-nil, filter-append}
use Rattle.std.proofs.lemmas.Option.{get_or_from_slice_get, slice_get-get_or, slice_get_within}
use Rattle.rx_fields.specs.Order.{id_cmp, key_cmp}
use Rattle.rx_sorted.specs.Ascending.{IsAscending, IsAt, IsBelow, IsGap, contains_key, is_past}
use Rattle.rx_sorted.specs.Runs.{are_runs, items_of}
use Rattle.rx_sorted.proofs.Filters.{Contains-filter}
use Rattle.rx_sorted.proofs.Kept.{is_ascending-from_fact, is_past-last}
use Rattle.rx_sorted.proofs.InRuns.{get-behind}
use Rattle.rx_sorted.proofs.Places.{contains_key-at, contains_key-gap}
use Rattle.rx_sorted.proofs.Keys.{Equal-from_is_eq, is_eq-turned}
use Rattle.rx_ledger.specs.declared.member.Member.{Member}
use Rattle.rx_ledger.specs.declared.member.MemberKey.{MemberKey}
use Rattle.rx_ledger.specs.declared.row.Row.{Row}
use Rattle.rx_ledger.specs.Ledger.{IsLedger, Ledger, is_whole}
use Rattle.rx_ledger.specs.Members.{is_same, member_cmp, member_key, of_family}
use Rattle.rx_ledger.specs.Rows.{member_of_row, row_key}
use Rattle.rx_ledger.proofs.Orders.{id_exact, id_total, key_total, member_total}
use Rattle.rx_books_store.specs.declared.opening.FamilyName.{FamilyName}
use Rattle.rx_books_store.specs.BooksText.{families_of}
use Rattle.rx_books_store.specs.LedgerBooks.{has_members}
use Rattle.rx_books_store.specs.Opening.{name_of, names_of}
use Rattle.rx_books_store.specs.Store.{AreHolders, AreHomes}
use Rattle.rx_books_store.proofs.FamilyOrder.{all_families, families_rise, family_among, itself}

-- ---- places in a list that grows

slice_get-front : {X : Type 0} (xs : List X) (y : X) (i : ℕ) (x : X) → slice_get xs i ≡ Some x
    → slice_get (xs ++ y ∷ []) i ≡ Some x
slice_get-front [] y i x is = absurd cc
slice_get-front (z ∷ xs) y zero x is = is
slice_get-front (z ∷ xs) y (suc i) x is = slice_get-front xs y i x is

pub slice_get-end : {X : Type 0} (xs : List X) (y : X) → slice_get (xs ++ y ∷ []) (length xs) ≡ Some y
slice_get-end [] y = refl
slice_get-end (x ∷ xs) y = slice_get-end xs y

-- what is found in the longer list is the last, or one of the others
slice_get-cases : {X : Type 0} (xs : List X) (y : X) (i : ℕ) (x : X) → slice_get (xs ++ y ∷ []) i ≡ Some x
    → (slice_get xs i ≡ Some x) ⊎ ((i ≡ length xs) × (x ≡ y))
slice_get-cases [] y zero x is = inr (refl, cc)
slice_get-cases [] y (suc i) x is = absurd cc
slice_get-cases (z ∷ xs) y zero x is = inl is
slice_get-cases (z ∷ xs) y (suc i) x is = elim (slice_get-cases xs y i x is) [
  | inl front ↦ inl front
  | inr (at, same) ↦ inr (omega arith, same)
]

index-front : (ns : List ℕ) (n i : ℕ) → i < length ns → slice_index (ns ++ n ∷ []) i ≡ slice_index ns i
index-front [] n i lt = absurd (omega arith)
index-front (m ∷ ns) n zero lt = refl
index-front (m ∷ ns) n (suc i) lt = index-front ns n i (omega arith)

index-end : (ns : List ℕ) (n : ℕ) → slice_index (ns ++ n ∷ []) (length ns) ≡ n
index-end [] n = refl
index-end (m ∷ ns) n = index-end ns n

-- ---- one more row

pub AreHolders-push : (ms : List Member) (rs : List Row) (hs : List ℕ) (r : Row) (h : ℕ) → AreHolders ms rs hs
    → IsAt member_cmp member_key ms (member_of_row r) h → AreHolders ms (rs ++ r ∷ []) (hs ++ h ∷ [])
AreHolders-push ms rs hs r h are at = record {
  one_each = omega (arith, are.one_each, length-append hs (h ∷ []), length-append rs (r ∷ []));
  each = λ i x is. elim (slice_get-cases rs r i x is) [
    | inl front ↦ let lt = slice_get_within rs i x front in
        rw (index-front hs h i (omega (arith, lt, are.one_each))) (are.each i x front)
    | inr (end, same) ↦
        let place : slice_index (hs ++ h ∷ []) i ≡ h = ap (λ j. slice_index (hs ++ h ∷ []) j) (end ∙ sym are.one_each) ∙ index-end hs h in
        rw (place, same) at
  ];
}

-- ---- the rows of another run

pub get-left : {X : Type 0} (xs ys : List X) (i : ℕ) → i < length xs → slice_get (xs ++ ys) i ≡ slice_get xs i
get-left [] ys i lt = absurd (omega arith)
get-left (x ∷ xs) ys zero lt = refl
get-left (x ∷ xs) ys (suc i) lt = get-left xs ys i (omega arith)

index-left : (ns ks : List ℕ) (i : ℕ) → i < length ns → slice_index (ns ++ ks) i ≡ slice_index ns i
index-left [] ks i lt = absurd (omega arith)
index-left (n ∷ ns) ks zero lt = refl
index-left (n ∷ ns) ks (suc i) lt = index-left ns ks i (omega arith)

index-right : (ns ks : List ℕ) (i : ℕ) → length ns ≤ i → slice_index (ns ++ ks) i ≡ slice_index ks (i - length ns)
index-right [] ks i le = let same : i - 0 ≡ i = omega arith in rw same refl
index-right (n ∷ ns) ks zero le = absurd (omega arith)
index-right (n ∷ ns) ks (suc i) le =
    let same : suc i - suc (length ns) ≡ i - length ns = omega arith in
    rw same (index-right ns ks i (omega arith))

pub AreHolders-append : (ms : List Member) (rs qs : List Row) (hs ks : List ℕ) → AreHolders ms rs hs → AreHolders ms qs ks
    → AreHolders ms (rs ++ qs) (hs ++ ks)
AreHolders-append ms rs qs hs ks first second = record {
  one_each = omega (arith, first.one_each, second.one_each, length-append rs qs, length-append hs ks);
  each = λ i r is. elim (cases_lt i (length rs)) [
    | inl lt ↦ rw (index-left hs ks i (omega (arith, first.one_each))) (first.each i r (sym (get-left rs qs i lt) ∙ is))
    | inr ge ↦
        let same : i - length hs ≡ i - length rs = omega (arith, first.one_each) in
        rw (index-right hs ks i (omega (arith, first.one_each)), same)
        (second.each (i - length rs) r (sym (get-behind rs qs i ge) ∙ is))
  ];
}

pub AreHolders-none : (ms : List Member) → AreHolders ms [] []
AreHolders-none ms = record { one_each = refl; each = λ i r is. absurd cc }

-- a run that has items in order
pub one-run : {Z : Type 0} (run : Vec Row Z) → (length run.items == 0) ≡ false → IsAscending key_cmp row_key run.items
    → length run.items < 2 ^ 63 → are_runs key_cmp row_key (run ∷ []) ≡ true
one-run run some rise small =
    rw (
      append-nil run.items,
      is_ascending-from_fact key_cmp key_total row_key run.items rise,
      lt-ltb (length run.items) (2 ^ 63) small,
      lt-ltb 0 (length run.items) (nonzero (length run.items) some),
    ) refl
  where
    nonzero : (n : ℕ) → (n == 0) ≡ false → 0 < n
    nonzero zero e = cc
    nonzero (suc n) e = omega arith

-- the rows of one more run
pub AreHolders-run : {Z : Type 0} (ms : List Member) (runs : List (Vec Row Z)) (i : ℕ) (run : Vec Row Z) (hs ks : List ℕ)
    → i < length runs → run ≡ get_or runs i run → AreHolders ms (items_of (take i runs)) hs → AreHolders ms run.items ks
    → AreHolders ms (items_of (take (i + 1) runs)) (hs ++ ks)
AreHolders-run ms runs i run hs ks lt is so_far more =
    let whole : items_of (take (i + 1) runs) ≡ items_of (take i runs) ++ run.items =
    ap items_of (take_more runs i run lt ∙ ap (λ r. take i runs ++ r ∷ []) (sym is))
    ∙ flat_map-append vec_items (take i runs) (run ∷ [])
    ∙ ap (λ rs. items_of (take i runs) ++ rs) (append-nil run.items) in
    rw whole (AreHolders-append ms (items_of (take i runs)) run.items hs ks so_far more)

-- the rows of all runs
pub AreHolders-runs : {Z : Type 0} (ms : List Member) (runs : List (Vec Row Z)) (found : List (Vec ℕ Z))
    → AllZip (λ run holders. AreHolders ms run.items holders.items) runs found
    → AreHolders ms (items_of runs) (flat_map vec_items found)
AreHolders-runs ms [] [] all = AreHolders-none ms
AreHolders-runs ms [] (hs ∷ found) all = absurd all
AreHolders-runs ms (run ∷ runs) [] all = absurd all
AreHolders-runs ms (run ∷ runs) (hs ∷ found) all =
    AreHolders-append ms run.items (items_of runs) hs.items (flat_map vec_items found) all.0
    (AreHolders-runs ms runs found all.1)

-- rows with places are of listed members
pub whole-held : (ms : List Member) (rs : List Row) (hs : List ℕ) → AreHolders ms rs hs
    → is_whole (record { members = ms; rows = rs }) ≡ true
whole-held ms [] hs are = refl
whole-held ms (r ∷ rs) [] are = absurd (omega (arith, are.one_each))
whole-held ms (r ∷ rs) (h ∷ hs) are =
    let here = contains_key-at member_cmp member_total member_key ms (member_of_row r) h (are.each 0 r refl) in
    let rest : AreHolders ms rs hs = record { one_each = omega (arith, are.one_each); each = λ i s is. are.each (suc i) s is } in
    rw here (whole-held ms rs hs rest)

pub held-ledger : (ms : List Member) (rs : List Row) (hs : List ℕ) → IsAscending member_cmp member_key ms
    → IsAscending key_cmp row_key rs → AreHolders ms rs hs → IsLedger (record { members = ms; rows = rs })
held-ledger ms rs hs members_rise rows_rise are =
    record { members_rise = members_rise; rows_rise = rows_rise; whole = whole-held ms rs hs are }

-- ---- one more member

pub AreHomes-push : (ms : List Member) (fs gs : List (List ℕ)) (hs : List ℕ) (m : Member) (h : ℕ) → AreHomes ms fs hs
    → ((i : ℕ) (f : List ℕ) → slice_get fs i ≡ Some f → slice_get gs i ≡ Some f) → slice_get gs h ≡ Some m.key.family
    → AreHomes (ms ++ m ∷ []) gs (hs ++ h ∷ [])
AreHomes-push ms fs gs hs m h are more here = record {
  one_each = omega (arith, are.one_each, length-append hs (h ∷ []), length-append ms (m ∷ []));
  each = λ i x is. elim (slice_get-cases ms m i x is) [
    | inl front ↦ let lt = slice_get_within ms i x front in
        rw (index-front hs h i (omega (arith, lt, are.one_each))) (more _ _ (are.each i x front))
    | inr (end, same) ↦
        let place : slice_index (hs ++ h ∷ []) i ≡ h = ap (λ j. slice_index (hs ++ h ∷ []) j) (end ∙ sym are.one_each) ∙ index-end hs h in
        rw (place, same) here
  ];
}

pub more_families : (fs : List (List ℕ)) (g : List ℕ) (i : ℕ) (f : List ℕ) → slice_get fs i ≡ Some f
    → slice_get (fs ++ g ∷ []) i ≡ Some f
more_families fs g i f is = slice_get-front fs g i f is

-- the families with one more member
families_more : (ms : List Member) (m : Member)
    → families_of (ms ++ m ∷ []) ≡ cond (list_any (of_family m.key.family) ms) (families_of ms) (families_of ms ++ m.key.family ∷ [])
families_more [] m = refl
families_more (x ∷ xs) m =
    by_test (families_more xs m) (is_same x.key.family m.key.family) (list_any (of_family m.key.family) xs) refl refl
  where
    others : List ℕ → Bool
    others f = not (is_same f x.key.family)

    alone : is_same m.key.family x.key.family ≡ false
        → filter others (families_of xs ++ m.key.family ∷ []) ≡ filter others (families_of xs) ++ m.key.family ∷ []
    alone apart = filter-append others (families_of xs) (m.key.family ∷ [])
        ∙ ap (λ fs. filter others (families_of xs) ++ fs) (rw apart refl)

    again : is_same m.key.family x.key.family ≡ true
        → filter others (families_of xs ++ m.key.family ∷ []) ≡ filter others (families_of xs)
    again alike = filter-append others (families_of xs) (m.key.family ∷ [])
        ∙ ap (λ fs. filter others (families_of xs) ++ fs) (rw alike refl) ∙ append-nil (filter others (families_of xs))

    by_test : families_of (xs ++ m ∷ []) ≡ cond (list_any (of_family m.key.family) xs) (families_of xs)
        (families_of xs ++ m.key.family ∷ [])
        → (same any : Bool) → is_same x.key.family m.key.family ≡ same → list_any (of_family m.key.family) xs ≡ any
        → families_of (x ∷ xs ++ m ∷ []) ≡ cond (list_any (of_family m.key.family) (x ∷ xs)) (families_of (x ∷ xs))
        (families_of (x ∷ xs) ++ m.key.family ∷ [])
    by_test more true true alike is_any = rw alike (ap (λ fs. x.key.family ∷ filter others fs) (more ∙ rw is_any refl))
    by_test more true false alike is_any =
        let turned = ap is_eq (tied_back id_total x.key.family m.key.family (Equal-from_is_eq _ alike)) in
        rw alike (ap (λ fs. x.key.family ∷ filter others fs) (more ∙ rw is_any refl)
        ∙ ap (λ fs. x.key.family ∷ fs) (again turned))
    by_test more false true alike is_any =
        rw (alike, is_any) (ap (λ fs. x.key.family ∷ filter others fs) (more ∙ rw is_any refl))
    by_test more false false alike is_any =
        let apart = is_eq-turned (id_cmp x.key.family m.key.family) (id_cmp m.key.family x.key.family)
        (id_total.antisymm m.key.family x.key.family) alike in
        rw (alike, is_any) (ap (λ fs. x.key.family ∷ filter others fs) (more ∙ rw is_any refl)
        ∙ ap (λ fs. x.key.family ∷ fs) (alone apart))

fewer : (p : List ℕ → Bool) (fs : List (List ℕ)) → length (filter p fs) ≤ length fs
fewer p [] = omega arith
fewer p (f ∷ fs) = elim (cases_Bool (p f)) [ inl t ↦ rw t (omega (arith, fewer p fs)) | inr n ↦ rw n (omega (arith, fewer p fs)) ]

-- no longer than the members
pub families_few : (ms : List Member) → length (families_of ms) ≤ length ms
families_few [] = omega arith
families_few (m ∷ ms) =
    let rest : length (filter (λ f. not (is_same f m.key.family)) (families_of ms)) ≤ length (families_of ms) =
    fewer (λ f. not (is_same f m.key.family)) (families_of ms) in
    omega (arith, rest, families_few ms)

-- ---- a family that has a member

pub among_has : (ms : List Member) (f : List ℕ) → Contains (families_of ms) f → list_any (of_family f) ms ≡ true
among_has [] f has = absurd (omega (arith, has.1))
among_has (m ∷ ms) f has = elim (cases_Bool (is_same m.key.family f)) [
  | inl same ↦ rw same refl
  | inr other ↦ rw other (among_has ms f (behind has other))
]
  where
    behind : Contains (families_of (m ∷ ms)) f → is_same m.key.family f ≡ false → Contains (families_of ms) f
    behind (zero, lt, is) other =
        absurd (let e : true ≡ false = sym (ap is_eq (tied_itself id_total f)) ∙ ap (λ g. is_same g f) (sym is) ∙ other in cc)
    behind (suc i, lt, is) other =
        (Contains-filter (λ g. not (is_same g m.key.family)) (families_of ms) f (i, omega arith, is)).0

-- ---- the names of the families

pub length-names : (ns : List FamilyName) → length (names_of ns) ≡ length ns
length-names [] = refl
length-names (n ∷ ns) = ap suc (length-names ns)

pub name_at : (ns : List FamilyName) (f : List ℕ) (at : ℕ) → IsAt id_cmp name_of ns f at → slice_get (names_of ns) at ≡ Some f
name_at [] f at is = absurd (omega (arith, is.in_range))
name_at (n ∷ ns) f zero is = ap Some (id_exact n.family f (is.has_it n))
name_at (n ∷ ns) f (suc i) is = name_at ns f i (record { in_range = omega (arith, is.in_range); has_it = is.has_it })

pub is_past-names : (ns : List FamilyName) (f : List ℕ) → is_past id_cmp name_of ns f ≡ is_past id_cmp itself (names_of ns) f
is_past-names [] f = refl
is_past-names (n ∷ ns) f = ap (λ b. is_lt (id_cmp n.family f) && b) (is_past-names ns f)

contains-names : (ns : List FamilyName) (f : List ℕ) → Contains (names_of ns) f → contains_key id_cmp name_of ns f ≡ true
contains-names [] f has = absurd (omega (arith, has.1))
contains-names (n ∷ ns) f (zero, lt, is) = rw is (rw (tied_itself id_total f) refl)
contains-names (n ∷ ns) f (suc i, lt, is) = elim (cases_Bool (is_same n.family f)) [
  | inl same ↦ rw same refl
  | inr other ↦ rw other (contains-names ns f (i, omega arith, is))
]

-- a family is found where it has a member
pub found-has : (L : Ledger) (ns : List FamilyName) (f : List ℕ) (at : ℕ) → names_of ns ≡ families_of L.members
    → IsAt id_cmp name_of ns f at → has_members L f ≡ true
found-has L ns f at all is =
    let here = name_at ns f at is in
    let found : slice_get (families_of L.members) at ≡ Some f = ap (λ fs. slice_get fs at) (sym all) ∙ here in
    among_has L.members f (
      at,
      slice_get_within (families_of L.members) at f found,
      get_or_from_slice_get (families_of L.members) at f f found,
    )

pub absent-has : (L : Ledger) (ns : List FamilyName) (f : List ℕ) (at : ℕ) → names_of ns ≡ families_of L.members
    → IsGap id_cmp name_of ns f at → has_members L f ≡ false
absent-has L ns f at all gap = elim (cases_Bool (has_members L f)) [
  | inl has ↦
      let P : List (List ℕ) → Type 0 = λ fs. Contains fs f in
      let among = subst P (sym all) (family_among L.members f has) in
      absurd (let e : true ≡ false = sym (contains-names ns f among)
      ∙ contains_key-gap id_cmp id_total name_of ns f at gap in cc)
  | inr none ↦ none
]

-- ---- one more member, in order

abbrev NotBehind : List ℕ → List ℕ → Type 0
NotBehind f g = (id_cmp g f ≡ Less) ⊎ (id_cmp g f ≡ Equal)

then_less : (o q : Ordering) → ordering_then o q ≡ Less → (o ≡ Less) ⊎ (o ≡ Equal)
then_less Less q is = inl refl
then_less Equal q is = inr refl
then_less Greater q is = absurd cc

below_end : (k : MemberKey) (xs : List Member) (m : Member) → IsBelow member_cmp member_key k (xs ++ m ∷ []) → member_cmp k m.key ≡ Less
below_end k [] m below = below.0
below_end k (x ∷ xs) m below = below_end k xs m below.1

not_behind : (ms : List Member) (m : Member) → IsAscending member_cmp member_key (ms ++ m ∷ [])
    → All (λ x. NotBehind m.key.family x.key.family) ms
not_behind [] m rise = All-nil (λ (x : Member). NotBehind m.key.family x.key.family)
not_behind (x ∷ xs) m rise = All-cons (λ (y : Member). NotBehind m.key.family y.key.family) x xs
    (then_less (id_cmp x.key.family m.key.family) (id_cmp x.key.person m.key.person) (below_end x.key xs m rise.0))
    (not_behind xs m rise.1)

front_rises : (ms : List Member) (m : Member) → IsAscending member_cmp member_key (ms ++ m ∷ [])
    → IsAscending member_cmp member_key ms
front_rises [] m rise = tt
front_rises (x ∷ xs) m rise = (below_front x.key xs m rise.0, front_rises xs m rise.1)
  where
    below_front : (k : MemberKey) (ys : List Member) (n : Member) → IsBelow member_cmp member_key k (ys ++ n ∷ [])
        → IsBelow member_cmp member_key k ys
    below_front k [] n below = tt
    below_front k (y ∷ ys) n below = (below.0, below_front k ys n below.1)

module _ (ms : List Member) (m : Member) (rise : IsAscending member_cmp member_key (ms ++ m ∷ [])) where
  abbrev fams : List (List ℕ)
  fams = families_of ms

  past-new : is_past id_cmp itself fams m.key.family ≡ true → list_any (of_family m.key.family) ms ≡ false
  past-new past = elim (cases_Bool (list_any (of_family m.key.family) ms)) [
    | inl any ↦
        let less : is_lt (id_cmp m.key.family m.key.family) ≡ true = All-contains
        (λ g. is_lt (id_cmp g m.key.family) ≡ true) fams m.key.family
        (AllPass-from_list_all (λ g. is_lt (id_cmp g m.key.family)) fams past) (family_among ms m.key.family any) in
        absurd (let e : true ≡ false = sym less ∙ ap is_lt (tied_itself id_total m.key.family) in cc)
    | inr none ↦ none
  ]

  last-same : is_past id_cmp itself fams m.key.family ≡ false → slice_get fams (length fams - 1) ≡ Some m.key.family
  last-same none = by_length fams refl
    where
      by_length : (fs : List (List ℕ)) → fs ≡ fams → slice_get fams (length fams - 1) ≡ Some m.key.family
      by_length [] is = absurd (let e : true ≡ false = ap (λ gs. is_past id_cmp itself gs m.key.family) is ∙ none in cc)
      by_length (g ∷ gs) is =
          let some : 0 < length fams = omega (arith, ap length is) in
          let last : List ℕ = get_or fams (length fams - 1) [] in
          let not_less : is_lt (id_cmp last m.key.family) ≡ false =
          sym (is_past-last id_cmp id_total itself fams m.key.family [] (families_rise ms (front_rises ms m rise)) some) ∙ none in
          let behind : NotBehind m.key.family last = all_families (NotBehind m.key.family) ms (not_behind ms m rise)
          (length fams - 1) [] (omega arith) in
          let same : last ≡ m.key.family = elim behind [
            | inl less ↦ absurd (let e : true ≡ false = sym (ap is_lt less) ∙ not_less in cc)
            | inr tied ↦ id_exact last m.key.family tied
          ] in
          slice_get-get_or fams (length fams - 1) [] (omega arith) ∙ ap Some same

  module _ (ns : List FamilyName) (all : names_of ns ≡ families_of ms) where
    pub homes-more : (gs : List FamilyName)
        → gs ≡ cond (is_past id_cmp name_of ns m.key.family) (ns ++ record { family = m.key.family } ∷ []) ns
        → (names_of gs ≡ families_of (ms ++ m ∷ []))
        × ((i : ℕ) (f : List ℕ) → slice_get (families_of ms) i ≡ Some f → slice_get (families_of (ms ++ m ∷ [])) i ≡ Some f)
        × (slice_get (families_of (ms ++ m ∷ [])) (length gs - 1) ≡ Some m.key.family)
    homes-more gs is = elim (cases_Bool (is_past id_cmp name_of ns m.key.family)) [
      | inl past ↦
          let fresh = past-new (ap (λ fs. is_past id_cmp itself fs m.key.family) (sym all) ∙ sym (is_past-names ns m.key.family) ∙ past) in
          let more : families_of (ms ++ m ∷ []) ≡ families_of ms ++ m.key.family ∷ [] = families_more ms m ∙ rw fresh refl in
          let here : gs ≡ ns ++ record { family = m.key.family } ∷ [] = is ∙ rw past refl in
          let long : length gs - 1 ≡ length (families_of ms) =
          omega (arith, ap length here, length-append ns (record { family = m.key.family } ∷ []), ap length all, length-names ns) in (
            ap names_of here ∙ map-append name_of ns (record { family = m.key.family } ∷ [])
                ∙ ap (λ fs. fs ++ m.key.family ∷ []) all ∙ sym more,
            λ i f at. rw more (more_families (families_of ms) m.key.family i f at),
            rw (more, long) (slice_get-end (families_of ms) m.key.family),
          )
      | inr none ↦
          let none_past = ap (λ fs. is_past id_cmp itself fs m.key.family) (sym all) ∙ sym (is_past-names ns m.key.family) ∙ none in
          let last = last-same none_past in
          let any = among_has ms m.key.family (
            length fams - 1,
            slice_get_within fams (length fams - 1) m.key.family last,
            get_or_from_slice_get fams (length fams - 1) m.key.family m.key.family last,
          ) in
          let same : families_of (ms ++ m ∷ []) ≡ families_of ms = families_more ms m ∙ rw any refl in
          let here : gs ≡ ns = is ∙ rw none refl in
          let long : length gs ≡ length fams = ap length here ∙ sym (length-names ns) ∙ ap length all in
          (ap names_of here ∙ all ∙ sym same, λ i f at. rw same at, rw (same, long) last)
    ]
