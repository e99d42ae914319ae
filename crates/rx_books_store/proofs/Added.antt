-- Figures over parts of the rows, added place by place.
use Rattle.std.proofs.Common.{◌≡◌, ℕ, zero, suc, ◌+◌, ◌<◌, ◌≤◌, ◌^◌, List, [], ◌∷◌, ◌++◌, length, get_or, map, set, take, drop}
use Rattle.std.proofs.Common.{Bool, true, Some, refl, sym, subst, ap, ◌∙◌, inl, inr, arith}
use Rattle.std.specs.Prelude.{◌==◌, IfOk, Result, Ok, Err, slice_get}
use Rattle.std.specs.List.{All, AllZip, filter, flat_map, sum_by}
use Rattle.std.proofs.lemmas.Bool.{cases_lt, eqb-true}
use Rattle.std.proofs.lemmas.Grind.{flat_map-append}
use Rattle.std.proofs.lemmas.List.{append-nil, drop_more, get_or-set_other, get_or-set_same, get_or-take, get_or_past, length-append}
use Rattle.std.proofs.lemmas.List.{length-map, length-set, length-take, take-append-drop, take_all, take_more}
use Rattle.std.proofs.lemmas.List.Elements.{All-append, All-nil, filter-append}
use Rattle.std.proofs.lemmas.List.Sums.{sum_by-append}
use Rattle.std.proofs.lemmas.Option.{slice_get-get_or}
use Rattle.rx_fields.specs.Numbered.{Span}
use Rattle.rx_sorted.specs.Ascending.{IsAt}
use Rattle.rx_ledger.specs.declared.member.Member.{Member}
use Rattle.rx_ledger.specs.declared.row.Row.{Row}
use Rattle.rx_ledger.specs.Ledger.{Ledger}
use Rattle.rx_ledger.specs.Members.{member_cmp, member_key}
use Rattle.rx_ledger.specs.Rows.{claimed_by, member_of_row}
use Rattle.rx_ledger.specs.Sums.{counted, deductible, deductible_paid, family_deductible, out_of_pocket, paid_by_patient}
use Rattle.rx_ledger.specs.Sums.{persons_deductible_paid}
use Rattle.rx_books_store.specs.declared.sums.Figures.{Figures}
use Rattle.rx_books_store.specs.BooksText.{families_of}
use Rattle.rx_books_store.specs.Parts.{AreAdded, IsSummed, MayBeAdded}
use Rattle.rx_books_store.specs.Store.{AreHolders, standing}
use Rattle.rx_books_store.specs.declared.slot.KeySlot.{KeySlot}
use Rattle.rx_books_store.proofs.Adding.{IsCounted, claimed}
use Rattle.rx_books_store.proofs.Columns.{deductible-room, family_deductible-room, pocket-room}

-- ---- columns of numbers

pub added-none : (xs : List ℕ) → AreAdded xs [] xs
added-none xs = record { one_each = refl; each = λ place. omega arith }

module _ (xs ys zs : List ℕ) (i : ℕ) (lt : i < length xs) (within : i < length ys) (so_far : AreAdded xs (take i ys) zs) where
  none_yet : get_or (take i ys) i 0 ≡ 0
  none_yet = get_or_past (take i ys) i 0 (omega (arith, length-take i ys))

  pub added-more : AreAdded xs (take (i + 1) ys) (set zs i (get_or zs i 0 + get_or ys i 0))
  added-more = record {
    one_each = length-set zs i (get_or zs i 0 + get_or ys i 0) ∙ so_far.one_each;
    each = λ place. elim (cases_lt place i) [
      | inl before ↦ get_or-set_other zs i place (get_or zs i 0 + get_or ys i 0) 0 (λ e. omega (arith, before, e))
          ∙ so_far.each place
          ∙ ap (λ n. get_or xs place 0 + n) (get_or-take i ys place 0 before ∙ sym (get_or-take (i + 1) ys place 0 (omega (arith, before))))
      | inr ge ↦ elim (cases_lt i place) [
        | inl behind ↦ get_or-set_other zs i place (get_or zs i 0 + get_or ys i 0) 0 (λ e. omega (arith, behind, e))
            ∙ so_far.each place
            ∙ ap (λ n. get_or xs place 0 + n) (get_or_past (take i ys) place 0 (omega (arith, length-take i ys, behind))
            ∙ sym (get_or_past (take (i + 1) ys) place 0 (omega (arith, length-take (i + 1) ys, behind))))
        | inr le ↦ let same : place ≡ i = omega (arith, ge, le) in
            rw same (get_or-set_same zs i (get_or zs i 0 + get_or ys i 0) 0 (omega (arith, lt, so_far.one_each))
            ∙ omega (arith, so_far.each i, none_yet, get_or-take (i + 1) ys i 0 (omega arith)))
      ]
    ];
  }

  pub added-room : MayBeAdded xs ys → get_or zs i 0 + get_or ys i 0 < 2 ^ 128
  added-room may = omega (arith, may.room i, so_far.each i, none_yet)

moved : (us vs xs ys zs : List ℕ) → us ≡ xs → vs ≡ ys → AreAdded us vs zs → AreAdded xs ys zs
moved us vs xs ys zs first second added =
    subst (λ (ns : List ℕ). AreAdded ns ys zs) first (subst (λ (ns : List ℕ). AreAdded us ns zs) second added)

column : {Y : Type 0} (f g h : Y → ℕ) → ((y : Y) → h y ≡ f y + g y) → (keys : List Y) (zs : List ℕ)
    → AreAdded (map f keys) (map g keys) zs → zs ≡ map h keys
column f g h joined [] [] added = refl
column f g h joined [] (z ∷ zs) added = absurd (omega (arith, added.one_each))
column f g h joined (k ∷ keys) [] added = absurd (omega (arith, added.one_each))
column f g h joined (k ∷ keys) (z ∷ zs) added =
    let here : z ≡ h k = added.each 0 ∙ sym (joined k) in
    let rest : zs ≡ map h keys = column f g h joined keys zs
    (record { one_each = omega (arith, added.one_each); each = λ place. added.each (suc place) }) in
    ap (λ y. y ∷ zs) here ∙ ap (λ ys. h k ∷ ys) rest

column-low : {Y : Type 0} (f : Y → ℕ) → ((y : Y) → f y ≤ 2 ^ 100) → (keys : List Y) (i : ℕ) → get_or (map f keys) i 0 ≤ 2 ^ 100
column-low f low [] i = omega arith
column-low f low (k ∷ keys) zero = low k
column-low f low (k ∷ keys) (suc i) = column-low f low keys i

may : {Y : Type 0} (f g : Y → ℕ) (keys : List Y) (xs ys : List ℕ) → xs ≡ map f keys → ys ≡ map g keys
    → ((y : Y) → f y ≤ 2 ^ 100) → ((y : Y) → g y ≤ 2 ^ 100) → MayBeAdded xs ys
may f g keys xs ys first second low below = rw (first, second) (record {
  one_each = length-map keys g ∙ sym (length-map keys f);
  room = λ place. omega (arith, column-low f low keys place, column-low g below keys place);
})

-- ---- the figures over rows, and over the rows after them

sum-joined : (p : Row → Bool) (f : Row → ℕ) (xs ys : List Row)
    → sum_by f (filter p (xs ++ ys)) ≡ sum_by f (filter p xs) + sum_by f (filter p ys)
sum-joined p f xs ys = ap (sum_by f) (filter-append p xs ys) ∙ sum_by-append f (filter p xs) (filter p ys)

-- figures that may be added, and those that were
pub record MayAdd (F G : Figures) : Type 0 where
  pub members : MayBeAdded F.deductibles.items G.deductibles.items
  pub pockets : MayBeAdded F.out_of_pockets.items G.out_of_pockets.items
  pub families : MayBeAdded F.family_deductibles.items G.family_deductibles.items

pub record WereAdded (F G H : Figures) : Type 0 where
  pub members : AreAdded F.deductibles.items G.deductibles.items H.deductibles.items
  pub pockets : AreAdded F.out_of_pockets.items G.out_of_pockets.items H.out_of_pockets.items
  pub families : AreAdded F.family_deductibles.items G.family_deductibles.items H.family_deductibles.items

module _ (period : Span) (ms : List Member) (xs ys : List Row) (F G : Figures) (first : IsSummed period (claimed ms xs) F)
    (second : IsSummed period (claimed ms ys) G) where
  abbrev persons : List Row → Member → ℕ
  persons rows m = deductible period (claimed ms rows) m.key.family m.key.person

  abbrev pockets : List Row → List ℕ → ℕ
  pockets rows family = out_of_pocket period (claimed ms rows) family

  abbrev theirs : List Row → List ℕ → ℕ
  theirs rows family = family_deductible period (claimed ms rows) family

  pub may_add : length xs < 2 ^ 64 → length ys < 2 ^ 64 → MayAdd F G
  may_add few less = record {
    members = may (persons xs) (persons ys) ms F.deductibles.items G.deductibles.items first.figures.of_members
        second.figures.of_members
        (λ m. deductible-room period (claimed ms xs) first.small few m.key.family m.key.person)
        (λ m. deductible-room period (claimed ms ys) second.small less m.key.family m.key.person);
    pockets = may (pockets xs) (pockets ys) (families_of ms) F.out_of_pockets.items G.out_of_pockets.items
        first.figures.of_pockets second.figures.of_pockets
        (pocket-room period (claimed ms xs) first.small few) (pocket-room period (claimed ms ys) second.small less);
    families = may (theirs xs) (theirs ys) (families_of ms) F.family_deductibles.items G.family_deductibles.items
        first.figures.of_families second.figures.of_families
        (family_deductible-room period (claimed ms xs) first.small few)
        (family_deductible-room period (claimed ms ys) second.small less);
  }

  pub summed-added : (H : Figures) → WereAdded F G H → IsSummed period (claimed ms (xs ++ ys)) H
  summed-added H added = record {
    figures = record {
      of_members = column (persons xs) (persons ys) (persons (xs ++ ys))
          (λ m. sum-joined (claimed_by m.key.family) (counted period (persons_deductible_paid m.key.person)) xs ys)
          ms H.deductibles.items
          (moved F.deductibles.items G.deductibles.items (map (persons xs) ms) (map (persons ys) ms) H.deductibles.items
          first.figures.of_members second.figures.of_members added.members);
      of_pockets = column (pockets xs) (pockets ys) (pockets (xs ++ ys))
          (λ family. sum-joined (claimed_by family) (counted period paid_by_patient) xs ys)
          (families_of ms) H.out_of_pockets.items
          (moved F.out_of_pockets.items G.out_of_pockets.items (map (pockets xs) (families_of ms))
          (map (pockets ys) (families_of ms)) H.out_of_pockets.items
          first.figures.of_pockets second.figures.of_pockets added.pockets);
      of_families = column (theirs xs) (theirs ys) (theirs (xs ++ ys))
          (λ family. sum-joined (claimed_by family) (counted period deductible_paid) xs ys)
          (families_of ms) H.family_deductibles.items
          (moved F.family_deductibles.items G.family_deductibles.items (map (theirs xs) (families_of ms))
          (map (theirs ys) (families_of ms)) H.family_deductibles.items
          first.figures.of_families second.figures.of_families added.families);
    };
    small = All-append (λ r. paid_by_patient r ≤ 99_999_999) xs ys first.small second.small;
  }

-- ---- one row after those that were counted

pub so_far-counted : (period : Span) (ms : List Member) (rows : List Row) (i : ℕ) (r : Row) (F : Figures) → i < length rows
    → r ≡ get_or rows i r → IsSummed period (claimed ms (take i rows)) F
    → IsCounted period ms rows (r ∷ drop (i + 1) rows) (take i rows) F.deductibles.items F.out_of_pockets.items
    F.family_deductibles.items
so_far-counted period ms rows i r F lt is so_far = record {
  parts = ap (λ x. take i rows ++ x ∷ drop (i + 1) rows) is ∙ ap (λ l. take i rows ++ l) (sym (drop_more rows i r lt))
      ∙ take-append-drop i rows;
  figures = so_far.figures;
  small = so_far.small;
}

pub held-at : (ms : List Member) (rows : List Row) (hs : List ℕ) (i : ℕ) (r : Row) → AreHolders ms rows hs → i < length rows
    → r ≡ get_or rows i r → IsAt member_cmp member_key ms (member_of_row r) (get_or hs i 0)
held-at ms rows hs i r are lt is = are.each i r (slice_get-get_or rows i r lt ∙ ap Some (sym is))

-- ---- one part after those that were added up

abbrev pub rows_in : Ledger → List Row
rows_in part = part.rows

pub record IsNext (R : Ledger → Figures → Type 0) (parts : List Ledger) (i : ℕ) (f : Figures) : Type 0 where
  pub part : Ledger
  pub within : i < length parts
  pub is : part ≡ get_or parts i part
  pub holds : R part f

pub next-of : (R : Ledger → Figures → Type 0) (parts : List Ledger) (found : List Figures) (i : ℕ) (f : Figures)
    → AllZip R parts found → i < length found → f ≡ get_or found i f → IsNext R parts i f
next-of R [] [] i f all lt is = absurd (omega (arith, lt))
next-of R [] (g ∷ found) i f all lt is = absurd all
next-of R (p ∷ parts) [] i f all lt is = absurd all
next-of R (p ∷ parts) (g ∷ found) zero f all lt is =
    record { part = p; within = omega arith; is = refl; holds = subst (R p) (sym is) all.0 }
next-of R (p ∷ parts) (g ∷ found) (suc i) f all lt is =
    let rest = next-of R parts found i f all.1 (omega (arith, lt)) is in
    record { part = rest.part; within = omega (arith, rest.within); is = rest.is; holds = rest.holds }

module _ (period : Span) (ms : List Member) (all : List Row) (parts : List Ledger)
    (theirs : All (λ (p : Ledger). p.members ≡ ms) parts) (rows : flat_map rows_in parts ≡ all) (few : length all < 2 ^ 64)
    (i : ℕ) (F G : Figures) (so_far : IsSummed period (claimed ms (flat_map rows_in (take i parts))) F)
    (next : IsNext (IsSummed period) parts i G) where
  abbrev part : Ledger
  part = next.part

  same : part.members ≡ ms
  same = subst (λ (p : Ledger). p.members ≡ ms) (sym next.is) (theirs i part next.within)

  own : IsSummed period (claimed ms part.rows) G
  own = subst (λ (xs : List Member). IsSummed period (claimed xs part.rows) G) same next.holds

  whole : flat_map rows_in (take (i + 1) parts) ≡ flat_map rows_in (take i parts) ++ part.rows
  whole = ap (flat_map rows_in) (take_more parts i part next.within ∙ ap (λ p. take i parts ++ p ∷ []) (sym next.is))
      ∙ flat_map-append rows_in (take i parts) (part ∷ [])
      ∙ ap (λ rs. flat_map rows_in (take i parts) ++ rs) (append-nil part.rows)

  fit : length (flat_map rows_in (take i parts)) + length part.rows ≤ length all
  fit = omega (
    arith,
    ap length whole,
    length-append (flat_map rows_in (take i parts)) part.rows,
    ap length (ap (flat_map rows_in) (take-append-drop (i + 1) parts) ∙ rows),
    ap length (flat_map-append rows_in (take (i + 1) parts) (drop (i + 1) parts)),
    length-append (flat_map rows_in (take (i + 1) parts)) (flat_map rows_in (drop (i + 1) parts)),
  )

  pub next-room : MayAdd F G
  next-room = may_add period ms (flat_map rows_in (take i parts)) part.rows F G so_far own (omega (arith, fit, few))
      (omega (arith, fit, few))

  pub next-added : (H : Figures) → WereAdded F G H → IsSummed period (claimed ms (flat_map rows_in (take (i + 1) parts))) H
  next-added H added = rw whole (summed-added period ms (flat_map rows_in (take i parts)) part.rows F G so_far own H added)

-- figures were found for parts of all rows
pub record AreSums (period : Span) (L : Ledger) (parts : List Ledger) (found : List Figures) : Type 0 where
  pub members : All (λ (p : Ledger). p.members ≡ L.members) parts
  pub rows : flat_map rows_in parts ≡ L.rows
  pub each : AllZip (IsSummed period) parts found

as_many : {X Y : Type 0} (R : X → Y → Type 0) (xs : List X) (ys : List Y) → AllZip R xs ys → length xs ≡ length ys
as_many R [] [] all = refl
as_many R [] (y ∷ ys) all = absurd all
as_many R (x ∷ xs) [] all = absurd all
as_many R (x ∷ xs) (y ∷ ys) all = ap suc (as_many R xs ys all.1)

-- the figures over all parts are those over all rows
pub all-added : (period : Span) (L : Ledger) (parts : List Ledger) (n : ℕ) (F : Figures) → flat_map rows_in parts ≡ L.rows
    → length parts ≤ n → IsSummed period (claimed L.members (flat_map rows_in (take n parts))) F → IsSummed period L F
all-added period L parts n F rows all so_far =
    subst (λ (rs : List Row). IsSummed period (claimed L.members rs) F) (ap (flat_map rows_in) (take_all n parts all) ∙ rows) so_far

pub all-found : (period : Span) (L : Ledger) (parts : List Ledger) (found : List Figures) (n : ℕ) (F : Figures)
    → AreSums period L parts found → length found ≤ n → IsSummed period (claimed L.members (flat_map rows_in (take n parts))) F
    → IsSummed period L F
all-found period L parts found n F are all so_far = all-added period L parts n F are.rows
    (omega (arith, all, as_many (IsSummed period) parts found are.each)) so_far

-- ---- no slots

pub none-stand : (L : Ledger) (slots : List KeySlot) → (length slots == 0) ≡ true → standing L slots ≡ L
none-stand L [] none = refl
none-stand L (s ∷ slots) none = absurd (let e = eqb-true (length (s ∷ slots)) 0 none in omega (arith, e))

pub if_ok : {X Y : Type 0} (r : Result X Y) (P Q : X → Type 0) → ((x : X) → P x → Q x) → IfOk r P → IfOk r Q
if_ok (Ok x) P Q f p = f x p
if_ok (Err y) P Q f p = tt
