-- A printed file of which no figure is wrong is that of its ledger with its sums, and such a file has no wrong figure.
use Rattle.std.proofs.Common.{◌≡◌, ℕ, zero, suc, ◌+◌, List, [], ◌∷◌, ◌++◌, length, map, Bool, true, false, not}
use Rattle.std.proofs.Common.{cond, eqb, eq-eqb, Option, Some, None, refl, sym, ap, inl, inr, arith}
use Rattle.std.specs.List.{All, Contains, list_all, position_from}
use Rattle.std.specs.Option.{is_some}
use Rattle.std.proofs.lemmas.Bool.{and_parts, cases_Bool, eqb-true}
use Rattle.std.proofs.lemmas.List.Elements.{All-cons, All-contains_itself, All-head, All-nil, All-tail, All-weaker}
use Rattle.rx_fields.specs.Numbered.{Span}
use Rattle.rx_sorted.proofs.LookUps.{item_at-from_contains}
use Rattle.rx_ledger.specs.declared.member.Member.{Member}
use Rattle.rx_ledger.specs.declared.row.Row.{Row}
use Rattle.rx_ledger.specs.Ledger.{IsLedger, Ledger, is_listed}
use Rattle.rx_ledger.specs.Members.{member_cmp, member_key}
use Rattle.rx_ledger.specs.Sums.{deductible, family_deductible, out_of_pocket}
use Rattle.rx_ledger.proofs.Orders.{member_total}
use Rattle.rx_books_text.specs.declared.line.Line.{Line}
use Rattle.rx_books_text.specs.declared.line.Line.TheVariants as line
use Rattle.rx_books_text.specs.declared.line.TotalLine.{TotalLine}
use Rattle.rx_books_text.specs.declared.version.Version.{Version}
use Rattle.rx_books_text.specs.declared.version.Version.TheVariants.{One, Two, Three}
use Rattle.rx_books_text.specs.LineFits.{PrintsDeductible}
use Rattle.rx_books_text.specs.Printed.{member_lines, total_family}
use Rattle.rx_books_store.specs.BooksText.{families_of, from_three, total_of}
use Rattle.rx_books_store.specs.Figures.{are_sums, is_figure, is_if_printed}
use Rattle.rx_books_store.specs.LedgerBooks.{LedgerBooks, has_members}
use Rattle.rx_books_store.proofs.FamilyOrder.{all_families}
use Rattle.rx_books_store.proofs.Split.{listed-has_members}

-- ---- lists

-- each item passes
abbrev pub AllPassing : {X : Type 0} → (X → Bool) → List X → Type 0
AllPassing p xs = All (λ x. p x ≡ true) xs

module _ {X : Type 0} (p : X → Bool) where
  pub all_right : (n : ℕ) (xs : List X) → position_from (λ x. not (p x)) n xs ≡ None → AllPassing p xs
  all_right n [] none = All-nil (λ x. p x ≡ true)
  all_right n (x ∷ xs) none = elim (cases_Bool (p x)) [
    | inl t ↦ All-cons (λ y. p y ≡ true) x xs t (all_right (n + 1) xs (rw t at none))
    | inr f ↦ absurd (let e : Some n ≡ None = rw f at none in cc)
  ]

  pub nothing_wrong : (n : ℕ) (xs : List X) → AllPassing p xs → position_from (λ x. not (p x)) n xs ≡ None
  nothing_wrong n [] all = refl
  nothing_wrong n (x ∷ xs) all =
      rw (All-head (λ y. p y ≡ true) x xs all) (nothing_wrong (n + 1) xs (All-tail (λ y. p y ≡ true) x xs all))

  pub passing : (xs : List X) → list_all p xs ≡ true → AllPassing p xs
  passing [] all = All-nil (λ x. p x ≡ true)
  passing (x ∷ xs) all = let parts = and_parts (p x) (list_all p xs) all in
      All-cons (λ y. p y ≡ true) x xs parts.0 (passing xs parts.1)

  pub passes : (xs : List X) → AllPassing p xs → list_all p xs ≡ true
  passes [] all = refl
  passes (x ∷ xs) all = rw (All-head (λ y. p y ≡ true) x xs all) (passes xs (All-tail (λ y. p y ≡ true) x xs all))

module _ {X : Type 0} (P : X → Type 0) where
  pub all_front : (xs ys : List X) → All P (xs ++ ys) → All P xs
  all_front [] ys all = All-nil P
  all_front (x ∷ xs) ys all =
      All-cons P x xs (All-head P x (xs ++ ys) all) (all_front xs ys (All-tail P x (xs ++ ys) all))

  pub all_back : (xs ys : List X) → All P (xs ++ ys) → All P ys
  all_back [] ys all = all
  all_back (x ∷ xs) ys all = all_back xs ys (All-tail P x (xs ++ ys) all)

  pub all_behind : {Y : Type 0} (f : Y → X) (ys : List Y) → All P (map f ys) → All (λ y. P (f y)) ys
  all_behind f [] all = All-nil (λ y. P (f y))
  all_behind f (y ∷ ys) all = All-cons (λ z. P (f z)) y ys (All-head P (f y) (map f ys) all)
      (all_behind f ys (All-tail P (f y) (map f ys) all))

pub contains_map : {X Y : Type 0} (f : X → Y) (xs : List X) (x : X) → Contains xs x → Contains (map f xs) (f x)
contains_map f [] x among = absurd (omega (arith, among.1))
contains_map f (y ∷ ys) x (zero, in_range, is) = (0, omega arith, ap f is)
contains_map f (y ∷ ys) x (suc i, in_range, is) =
    let rest = contains_map f ys x (i, omega arith, is) in
    (suc rest.0, omega (arith, rest.1), rest.2)

-- ---- a ledger

-- each member is listed, and each family has a member
pub all_listed : (L : Ledger) → IsLedger L → All (λ m. is_listed L m.key ≡ true) L.members
all_listed L is = All-weaker (Contains L.members) (λ m. is_listed L m.key ≡ true)
    (λ m among. ap is_some (item_at-from_contains member_cmp member_total member_key L.members m is.members_rise among))
    L.members (All-contains_itself L.members)

pub all_inhabited : (L : Ledger) → IsLedger L → All (λ f. has_members L f ≡ true) (families_of L.members)
all_inhabited L is = all_families (λ f. has_members L f ≡ true) L.members
    (All-weaker (λ m. is_listed L m.key ≡ true) (λ m. has_members L m.key.family ≡ true)
    (λ m listed. listed-has_members L m.key listed) L.members (all_listed L is))

-- ---- figures

pub same_number : (n : ℕ) → eqb n n ≡ true
same_number n = eq-eqb n n refl

pub figure_is : (b : Bool) (x d : ℕ) → is_figure (cond b (Some x) None) d ≡ true → d ≡ x
figure_is true x d is = sym (eqb-true x d is)
figure_is false x d is = absurd cc

printed_is : (v : Version) (o : Option ℕ) (b : Bool) (x : ℕ) → PrintsDeductible v o
    → is_if_printed (cond b (Some x) None) o ≡ true → o ≡ from_three v x
printed_is One o b x prints is = prints
printed_is Two o b x prints is = prints
printed_is Three None b x prints is = absurd prints
printed_is Three (Some n) b x prints is = ap Some (figure_is b x n is)

module _ (p : Span) (L : Ledger) where
  abbrev pub books : LedgerBooks
  books = record { period = p; ledger = L }

  abbrev pub figure : Member → ℕ
  figure m = deductible p L m.key.family m.key.person

  abbrev pub IsRight : Line → Type 0
  IsRight l = are_sums books l ≡ true

  pub deductibles_are : (ms : List Member) (ds : List ℕ) → length ds ≡ length ms → All IsRight (member_lines ms ds)
      → ds ≡ map figure ms
  deductibles_are [] [] same all = refl
  deductibles_are [] (d ∷ ds) same all = absurd (omega arith)
  deductibles_are (m ∷ ms) [] same all = absurd (omega arith)
  deductibles_are (m ∷ ms) (d ∷ ds) same all =
      let l = line.Member (record { member = m; deductible = d }) in
      let here : d ≡ figure m = figure_is (is_listed L (record { family = m.key.family; person = m.key.person })) (figure m) d
      (All-head IsRight l (member_lines ms ds) all) in
      let rest : ds ≡ map figure ms = deductibles_are ms ds (omega arith) (All-tail IsRight l (member_lines ms ds) all) in
      λ i. here i ∷ rest i

  pub members_right : (ms : List Member) → All (λ m. is_listed L m.key ≡ true) ms
      → All IsRight (member_lines ms (map figure ms))
  members_right [] listed = All-nil IsRight
  members_right (m ∷ ms) listed =
      let here : is_listed L (record { family = m.key.family; person = m.key.person }) ≡ true =
      All-head (λ (n : Member). is_listed L n.key ≡ true) m ms listed in
      All-cons IsRight (line.Member (record { member = m; deductible = figure m })) (member_lines ms (map figure ms))
      (rw here (same_number (figure m)))
      (members_right ms (All-tail (λ (n : Member). is_listed L n.key ≡ true) m ms listed))

  pub claims_right : (rows : List Row) → All IsRight (map (λ r. line.Claim r) rows)
  claims_right [] = All-nil IsRight
  claims_right (r ∷ rows) = All-cons IsRight (line.Claim r) (map (λ s. line.Claim s) rows) refl (claims_right rows)

  module _ (v : Version) where
    total_is : (t : TotalLine) → IsRight (line.Total t) → PrintsDeductible v t.deductible → t ≡ total_of v p L t.family
    total_is t right prints =
        let b = has_members L t.family in
        let parts = and_parts (is_figure (cond b (Some (out_of_pocket p L t.family)) None) t.out_of_pocket)
        (is_if_printed (cond b (Some (family_deductible p L t.family)) None) t.deductible) right in
        let paid = figure_is b (out_of_pocket p L t.family) t.out_of_pocket parts.0 in
        let applied = printed_is v t.deductible b (family_deductible p L t.family) prints parts.1 in
        λ i. record { family = t.family; out_of_pocket = paid i; deductible = applied i }

    pub totals_are : (ts : List TotalLine) → All (λ t. IsRight (line.Total t)) ts
        → All (λ t. PrintsDeductible v t.deductible) ts → ts ≡ map (total_of v p L) (map total_family ts)
    totals_are [] right prints = refl
    totals_are (t ∷ ts) right prints =
        let here = total_is t (All-head (λ s. IsRight (line.Total s)) t ts right)
        (All-head (λ (s : TotalLine). PrintsDeductible v s.deductible) t ts prints) in
        let rest = totals_are ts (All-tail (λ s. IsRight (line.Total s)) t ts right)
        (All-tail (λ (s : TotalLine). PrintsDeductible v s.deductible) t ts prints) in
        λ i. here i ∷ rest i

  printed_right : (v : Version) (x : ℕ) → is_if_printed (Some x) (from_three v x) ≡ true
  printed_right One x = refl
  printed_right Two x = refl
  printed_right Three x = same_number x

  pub totals_right : (v : Version) (fs : List (List ℕ)) → All (λ f. has_members L f ≡ true) fs
      → All IsRight (map (λ t. line.Total t) (map (total_of v p L) fs))
  totals_right v [] all = All-nil IsRight
  totals_right v (f ∷ fs) all =
      let here = All-head (λ g. has_members L g ≡ true) f fs all in
      let paid = same_number (out_of_pocket p L f) in
      let applied = printed_right v (family_deductible p L f) in
      All-cons IsRight (line.Total (total_of v p L f)) (map (λ t. line.Total t) (map (total_of v p L) fs))
      (rw (here, paid, applied) refl)
      (totals_right v fs (All-tail (λ g. has_members L g ≡ true) f fs all))
