-- Books of families while members and rows are put into them, in order: at the end each has all of its family.
use Rattle.std.proofs.Common.{◌≡◌, ℕ, List, [], ◌∷◌, ◌++◌, map, set, get_or, cond, true, false}
use Rattle.std.proofs.Common.{Option, Some, None, Result, Ok, Err, refl, sym, ap, subst, ◌∙◌, inl, inr}
use Rattle.std.specs.Prelude.{OnOk}
use Rattle.std.specs.Cmp.{eq_by_cmp_equiv}
use Rattle.std.specs.List.{All, filter}
use Rattle.std.specs.Option.{is_some}
use Rattle.std.specs.Ordering.{is_eq}
use Rattle.std.specs.declared.cmp.Ordering.{Ordering}
use Rattle.std.specs.declared.cmp.Ordering.TheVariants.{Less}
use Rattle.std.proofs.lemmas.Bool.{and_from, and_parts, cases_Bool}
use Rattle.std.proofs.lemmas.Cmp.{tied_itself}
use Rattle.std.proofs.lemmas.List.Elements.{All-cons, All-head, All-nil, All-tail, All-weaker}
use Rattle.rx_fields.specs.Order.{id_cmp, key_cmp}
use Rattle.rx_sorted.specs.Ascending.{IsAscending, IsAt, IsBelow, contains_key, is_past, item_at, put_all}
use Rattle.rx_sorted.proofs.Edits.{put-past, put_all-nil}
use Rattle.rx_sorted.proofs.Kept.{IsAscending-filter}
use Rattle.rx_sorted.proofs.LookUps.{item_at-filter_kept, item_at-found}
use Rattle.rx_ledger.specs.declared.member.Member.{Member}
use Rattle.rx_ledger.specs.declared.member.MemberKey.{MemberKey}
use Rattle.rx_ledger.specs.declared.row.Row.{Row}
use Rattle.rx_ledger.specs.Ledger.{Ledger, is_listed, members_of, rows_of}
use Rattle.rx_ledger.specs.Members.{is_same, member_cmp, member_key, of_family}
use Rattle.rx_ledger.specs.Rows.{claimed_by, member_of_row, row_key}
use Rattle.rx_ledger.proofs.Orders.{id_exact, id_total, key_total, member_exact, member_total}
use Rattle.rx_books_family.specs.FamilyBook.{FamilyBook, book_with_member, book_with_row, family_of, own_ledger}
use Rattle.rx_books_shelf.specs.Gathered.{with_members, with_own_member, with_own_row, with_rows}
use Rattle.rx_sorted.specs.Slots.{one_at}
use Rattle.rx_sorted.proofs.OneSlot.{over_absent, over_at}
use Rattle.rx_sorted.proofs.AllSlots.{map_map, map_same}
use Rattle.rx_books_shelf.proofs.ShelfKept.{ascending_changed}

map_itself : {A : Type 0} (xs : List A) → map (λ x. x) xs ≡ xs
map_itself [] = refl
map_itself (x ∷ xs) = ap (λ ys. x ∷ ys) (map_itself xs)

All-mapped : {A B : Type 0} (P : A → Type 0) (Q : B → Type 0) (f : A → B) → ((x : A) → P x → Q (f x)) → (xs : List A) → All P xs
    → All Q (map f xs)
All-mapped P Q f h [] all = All-nil Q
All-mapped P Q f h (x ∷ xs) all =
    All-cons Q (f x) (map f xs) (h x (All-head P x xs all)) (All-mapped P Q f h xs (All-tail P x xs all))

pub all_map : {A B : Type 0} (P : B → Type 0) (f : A → B) → ((x : A) → P (f x)) → (xs : List A) → All P (map f xs)
all_map P f h [] = All-nil P
all_map P f h (x ∷ xs) = All-cons P (f x) (map f xs) (h x) (all_map P f h xs)

-- ---- members

turned_family : (f g : List ℕ) → is_same f g ≡ is_same g f
turned_family f g = (eq_by_cmp_equiv id_total).symm f g

own_member : (m : Member) (b : FamilyBook) → one_at id_cmp family_of (λ c. book_with_member c m) m.key.family b ≡ with_own_member m b
own_member m b = ap (λ t. cond t (book_with_member b m) b) (turned_family b.family m.key.family)

own_row : (r : Row) (b : FamilyBook) → one_at id_cmp family_of (λ c. book_with_row c r) r.family b ≡ with_own_row r b
own_row r b = ap (λ t. cond t (book_with_row b r) b) (turned_family b.family r.family)

-- the book at its place gets the member, or none does
pub member_at_place : (m : Member) (bs : List FamilyBook) (i : ℕ) (b : FamilyBook) → IsAscending id_cmp family_of bs
    → IsAt id_cmp family_of bs m.key.family i → b ≡ get_or bs i b → set bs i (book_with_member b m) ≡ map (with_own_member m) bs
member_at_place m bs i b rise is_at is =
    ap (λ c. set bs i (book_with_member c m)) is
    ∙ over_at id_cmp id_total family_of (λ c. book_with_member c m) m.key.family bs i b rise is_at
    ∙ map_same (one_at id_cmp family_of (λ c. book_with_member c m) m.key.family) (with_own_member m) (own_member m) bs

pub member_nowhere : (m : Member) (bs : List FamilyBook) → item_at id_cmp family_of bs m.key.family ≡ None
    → bs ≡ map (with_own_member m) bs
member_nowhere m bs none =
    sym (over_absent id_cmp id_total family_of (λ c. book_with_member c m) m.key.family bs none)
    ∙ map_same (one_at id_cmp family_of (λ c. book_with_member c m) m.key.family) (with_own_member m) (own_member m) bs

pub row_at_place : (r : Row) (bs : List FamilyBook) (i : ℕ) (b : FamilyBook) → IsAscending id_cmp family_of bs
    → IsAt id_cmp family_of bs r.family i → b ≡ get_or bs i b → set bs i (book_with_row b r) ≡ map (with_own_row r) bs
row_at_place r bs i b rise is_at is =
    ap (λ c. set bs i (book_with_row c r)) is
    ∙ over_at id_cmp id_total family_of (λ c. book_with_row c r) r.family bs i b rise is_at
    ∙ map_same (one_at id_cmp family_of (λ c. book_with_row c r) r.family) (with_own_row r) (own_row r) bs

pub row_nowhere : (r : Row) (bs : List FamilyBook) → item_at id_cmp family_of bs r.family ≡ None → bs ≡ map (with_own_row r) bs
row_nowhere r bs none =
    sym (over_absent id_cmp id_total family_of (λ c. book_with_row c r) r.family bs none)
    ∙ map_same (one_at id_cmp family_of (λ c. book_with_row c r) r.family) (with_own_row r) (own_row r) bs

-- the book at the place of a family is the family's
pub family_at_place : (bs : List FamilyBook) (f : List ℕ) (i : ℕ) (b : FamilyBook) → IsAt id_cmp family_of bs f i → b ≡ get_or bs i b
    → b.family ≡ f
family_at_place bs f i b is_at is = ap family_of is ∙ id_exact (family_of (get_or bs i b)) f (is_at.has_it b)

-- a fact of each book is one of this
pub of_book : (P : FamilyBook → Type 0) (bs : List FamilyBook) (f : List ℕ) (i : ℕ) (b : FamilyBook) → All P bs
    → IsAt id_cmp family_of bs f i
    → b ≡ get_or bs i b → P b
of_book P bs f i b all is_at is = subst P (sym is) (all i b is_at.in_range)

pub on_ok : {A E P Q : Type 0} (r : Result A E) → (P → Q) → OnOk r P → OnOk r Q
on_ok (Ok x) f h = f h
on_ok (Err e) f h = tt

-- the books with many members, one after another
abbrev pub members_put : List Member → List FamilyBook → List FamilyBook
members_put [] bs = bs
members_put (m ∷ ms) bs = members_put ms (map (with_own_member m) bs)

abbrev with_all : List Member → FamilyBook → FamilyBook
with_all ms b = record b { members = put_all member_cmp member_key b.members (filter (of_family b.family) ms) }

members_put_are : (ms : List Member) (bs : List FamilyBook) → members_put ms bs ≡ map (with_all ms) bs
members_put_are [] bs = sym (map_itself bs)
members_put_are (m ∷ ms) bs = members_put_are ms (map (with_own_member m) bs) ∙ map_map (with_all ms) (with_own_member m) bs
    ∙ map_same _ _ one bs
  where
    one : (b : FamilyBook) → with_all ms (with_own_member m b) ≡ with_all (m ∷ ms) b
    one b = elim (cases_Bool (of_family b.family m)) [ inl t ↦ rw t refl | inr n ↦ rw n refl ]

-- each of these items is past those that are there
module _ {X K : Type 0} (cmp : K → K → Ordering) (key : X → K) where
  abbrev pub ArePast : List X → List X → Type 0
  ArePast xs rest = All (λ y. is_past cmp key xs (key y) ≡ true) rest

  past_more : (xs : List X) (x y : X) → is_past cmp key xs (key y) ≡ true → cmp (key x) (key y) ≡ Less
      → is_past cmp key (xs ++ x ∷ []) (key y) ≡ true
  past_more [] x y h less = rw less refl
  past_more (z ∷ xs) x y h less = let parts = and_parts _ _ h in and_from _ _ parts.0 (past_more xs x y parts.1 less)

  past_all : (xs : List X) (x : X) (rest : List X) → IsBelow cmp key (key x) rest → ArePast xs rest → ArePast (xs ++ x ∷ []) rest
  past_all xs x [] below all = All-nil _
  past_all xs x (y ∷ rest) below all =
      let P : X → Type 0 = λ z. is_past cmp key xs (key z) ≡ true in
      let Q : X → Type 0 = λ z. is_past cmp key (xs ++ x ∷ []) (key z) ≡ true in
      All-cons Q y rest (past_more xs x y (All-head P y rest all) below.0) (past_all xs x rest below.1 (All-tail P y rest all))

  past_nothing : (rest : List X) → ArePast [] rest
  past_nothing [] = All-nil _
  past_nothing (y ∷ rest) = All-cons (λ z. is_past cmp key [] (key z) ≡ true) y rest refl (past_nothing rest)

-- each member is past those of its family's book
abbrev pub Past : List Member → FamilyBook → Type 0
Past ms b = ArePast member_cmp member_key b.members ms

past_kept : (m : Member) (rest : List Member) → IsBelow member_cmp member_key m.key rest → (b : FamilyBook) → Past (m ∷ rest) b
    → Past rest (with_own_member m b)
past_kept m rest below b past =
    let P : Member → Type 0 = λ x. is_past member_cmp member_key b.members x.key ≡ true in
    elim (cases_Bool (of_family b.family m)) [
      | inl t ↦
          let behind = put-past member_cmp member_total member_key b.members m (All-head P m rest past) in
          rw (t, behind) (past_all member_cmp member_key b.members m rest below (All-tail P m rest past))
      | inr n ↦ rw n (All-tail P m rest past)
    ]

past_none : (ms : List Member) (b : FamilyBook) → b.members ≡ [] → Past ms b
past_none ms b none = rw none (past_nothing member_cmp member_key ms)

pub all_past : (ms : List Member) (bs : List FamilyBook) → All (λ (b : FamilyBook). b.members ≡ []) bs → All (Past ms) bs
all_past ms bs none = All-weaker (λ (b : FamilyBook). b.members ≡ []) (Past ms) (past_none ms) bs none

pub all_past_kept : (m : Member) (rest : List Member) → IsBelow member_cmp member_key m.key rest → (bs : List FamilyBook)
    → All (Past (m ∷ rest)) bs → All (Past rest) (map (with_own_member m) bs)
all_past_kept m rest below bs all = All-mapped (Past (m ∷ rest)) (Past rest) (with_own_member m) (past_kept m rest below) bs all

pub past_first : (m : Member) (rest : List Member) (bs : List FamilyBook) → All (Past (m ∷ rest)) bs
    → All (λ (b : FamilyBook). is_past member_cmp member_key b.members m.key ≡ true) bs
past_first m rest bs all = All-weaker (Past (m ∷ rest)) (λ (b : FamilyBook). is_past member_cmp member_key b.members m.key ≡ true)
    (λ b past. All-head (λ (x : Member). is_past member_cmp member_key b.members x.key ≡ true) m rest past) bs all

pub rise_with_member : (m : Member) (bs : List FamilyBook) → IsAscending id_cmp family_of bs
    → IsAscending id_cmp family_of (map (with_own_member m) bs)
rise_with_member m bs rise = ascending_changed id_cmp family_of family_of (with_own_member m) same bs rise
  where
    same : (b : FamilyBook) → family_of (with_own_member m b) ≡ family_of b
    same b = elim (cases_Bool (of_family b.family m)) [ inl t ↦ rw t refl | inr n ↦ rw n refl ]

-- at the end each has all of its family
pub members_put_all : (L : Ledger) → IsAscending member_cmp member_key L.members → (bs : List FamilyBook)
    → All (λ (b : FamilyBook). b.members ≡ []) bs → members_put L.members bs ≡ map (with_members L) bs
members_put_all L rise bs none = members_put_are L.members bs ∙ each bs none
  where
    one : (b : FamilyBook) → b.members ≡ [] → with_all L.members b ≡ with_members L b
    one b e = ap (λ ms. record b { members = put_all member_cmp member_key ms (members_of L b.family) }) e
        ∙ ap (λ ms. record b { members = ms }) (put_all-nil member_cmp member_total member_key (members_of L b.family)
        (IsAscending-filter member_cmp member_total member_key (of_family b.family) L.members rise))

    each : (cs : List FamilyBook) → All (λ (b : FamilyBook). b.members ≡ []) cs → map (with_all L.members) cs ≡ map (with_members L) cs
    each [] all = refl
    each (b ∷ cs) all =
        let P : FamilyBook → Type 0 = λ d. d.members ≡ [] in
        let first = one b (All-head P b cs all) in
        let rest = each cs (All-tail P b cs all) in
        cc

-- ---- rows

abbrev pub rows_put : List Row → List FamilyBook → List FamilyBook
rows_put [] bs = bs
rows_put (r ∷ rs) bs = rows_put rs (map (with_own_row r) bs)

abbrev with_all_rows : List Row → FamilyBook → FamilyBook
with_all_rows rs b = record b { rows = put_all key_cmp row_key b.rows (filter (claimed_by b.family) rs) }

rows_put_are : (rs : List Row) (bs : List FamilyBook) → rows_put rs bs ≡ map (with_all_rows rs) bs
rows_put_are [] bs = sym (map_itself bs)
rows_put_are (r ∷ rs) bs = rows_put_are rs (map (with_own_row r) bs) ∙ map_map (with_all_rows rs) (with_own_row r) bs
    ∙ map_same _ _ one bs
  where
    one : (b : FamilyBook) → with_all_rows rs (with_own_row r b) ≡ with_all_rows (r ∷ rs) b
    one b = elim (cases_Bool (claimed_by b.family r)) [ inl t ↦ rw t refl | inr n ↦ rw n refl ]

-- each row is past those of its family's book
abbrev pub PastRows : List Row → FamilyBook → Type 0
PastRows rs b = ArePast key_cmp row_key b.rows rs

past_row_kept : (r : Row) (rest : List Row) → IsBelow key_cmp row_key r.key rest → (b : FamilyBook) → PastRows (r ∷ rest) b
    → PastRows rest (with_own_row r b)
past_row_kept r rest below b past =
    let P : Row → Type 0 = λ x. is_past key_cmp row_key b.rows x.key ≡ true in
    elim (cases_Bool (claimed_by b.family r)) [
      | inl t ↦
          let behind = put-past key_cmp key_total row_key b.rows r (All-head P r rest past) in
          rw (t, behind) (past_all key_cmp row_key b.rows r rest below (All-tail P r rest past))
      | inr n ↦ rw n (All-tail P r rest past)
    ]

no_rows_past : (rs : List Row) (b : FamilyBook) → b.rows ≡ [] → PastRows rs b
no_rows_past rs b none = rw none (past_nothing key_cmp row_key rs)

pub all_rows_past : (rs : List Row) (bs : List FamilyBook) → All (λ (b : FamilyBook). b.rows ≡ []) bs → All (PastRows rs) bs
all_rows_past rs bs none = All-weaker (λ (b : FamilyBook). b.rows ≡ []) (PastRows rs) (no_rows_past rs) bs none

pub all_rows_past_kept : (r : Row) (rest : List Row) → IsBelow key_cmp row_key r.key rest → (bs : List FamilyBook)
    → All (PastRows (r ∷ rest)) bs → All (PastRows rest) (map (with_own_row r) bs)
all_rows_past_kept r rest below bs all =
    All-mapped (PastRows (r ∷ rest)) (PastRows rest) (with_own_row r) (past_row_kept r rest below) bs all

pub row_past_first : (r : Row) (rest : List Row) (bs : List FamilyBook) → All (PastRows (r ∷ rest)) bs
    → All (λ (b : FamilyBook). is_past key_cmp row_key b.rows r.key ≡ true) bs
row_past_first r rest bs all = All-weaker (PastRows (r ∷ rest)) (λ (b : FamilyBook). is_past key_cmp row_key b.rows r.key ≡ true)
    (λ b past. All-head (λ (x : Row). is_past key_cmp row_key b.rows x.key ≡ true) r rest past) bs all

same_family : (r : Row) (b : FamilyBook) → family_of (with_own_row r b) ≡ family_of b
same_family r b = elim (cases_Bool (claimed_by b.family r)) [ inl t ↦ rw t refl | inr n ↦ rw n refl ]

pub rise_with_row : (r : Row) (bs : List FamilyBook) → IsAscending id_cmp family_of bs
    → IsAscending id_cmp family_of (map (with_own_row r) bs)
rise_with_row r bs rise = ascending_changed id_cmp family_of family_of (with_own_row r) (same_family r) bs rise

-- each book has all members of its family
abbrev pub HasMembers : Ledger → FamilyBook → Type 0
HasMembers L b = b.members ≡ members_of L b.family

pub members_stay : (L : Ledger) (r : Row) (bs : List FamilyBook) → All (HasMembers L) bs → All (HasMembers L) (map (with_own_row r) bs)
members_stay L r bs all = All-mapped (HasMembers L) (HasMembers L) (with_own_row r) one bs all
  where
    one : (b : FamilyBook) → HasMembers L b → HasMembers L (with_own_row r b)
    one b has = elim (cases_Bool (claimed_by b.family r)) [ inl t ↦ rw t has | inr n ↦ rw n has ]

-- so the member of a row is listed in its family's book
pub listed_first : (L : Ledger) → IsAscending member_cmp member_key L.members → (r : Row) → is_listed L (member_of_row r) ≡ true
    → (bs : List FamilyBook) → All (HasMembers L) bs
    → All (λ (b : FamilyBook). b.family ≡ r.family → is_listed (own_ledger b) (member_of_row r) ≡ true) bs
listed_first L rise r listed bs all = All-weaker (HasMembers L)
    (λ (b : FamilyBook). b.family ≡ r.family → is_listed (own_ledger b) (member_of_row r) ≡ true) one bs all
  where
    by_member : (f : List ℕ) → f ≡ r.family → (o : Option Member) → item_at member_cmp member_key L.members (member_of_row r) ≡ o
        → is_some o ≡ true → contains_key member_cmp member_key (members_of L f) (member_of_row r) ≡ true
    by_member f same None e h = absurd (let w : false ≡ true = h in cc)
    by_member f same (Some m) e h =
        let found = item_at-found member_cmp member_total member_key L.members (member_of_row r) m e in
        let key : m.key ≡ member_of_row r = member_exact m.key (member_of_row r) found.1 in
        let own : of_family f m ≡ true = ap is_eq (ap (λ (k : MemberKey). id_cmp k.family f) key ∙ ap (id_cmp r.family) same
        ∙ tied_itself id_total r.family) in
        ap is_some (item_at-filter_kept member_cmp member_total member_key (of_family f) L.members (member_of_row r) m rise e own)

    one : (b : FamilyBook) → HasMembers L b → b.family ≡ r.family → is_listed (own_ledger b) (member_of_row r) ≡ true
    one b has same = ap (λ ms. contains_key member_cmp member_key ms (member_of_row r)) has
        ∙ by_member b.family same (item_at member_cmp member_key L.members (member_of_row r)) refl listed

pub rows_put_all : (L : Ledger) → IsAscending key_cmp row_key L.rows → (bs : List FamilyBook)
    → All (λ (b : FamilyBook). b.rows ≡ []) bs → rows_put L.rows bs ≡ map (with_rows L) bs
rows_put_all L rise bs none = rows_put_are L.rows bs ∙ each bs none
  where
    one : (b : FamilyBook) → b.rows ≡ [] → with_all_rows L.rows b ≡ with_rows L b
    one b e = ap (λ rs. record b { rows = put_all key_cmp row_key rs (rows_of L b.family) }) e
        ∙ ap (λ rs. record b { rows = rs }) (put_all-nil key_cmp key_total row_key (rows_of L b.family)
        (IsAscending-filter key_cmp key_total row_key (claimed_by b.family) L.rows rise))

    each : (cs : List FamilyBook) → All (λ (b : FamilyBook). b.rows ≡ []) cs → map (with_all_rows L.rows) cs ≡ map (with_rows L) cs
    each [] all = refl
    each (b ∷ cs) all =
        let P : FamilyBook → Type 0 = λ d. d.rows ≡ [] in
        let first = one b (All-head P b cs all) in
        let rest = each cs (All-tail P b cs all) in
        cc
