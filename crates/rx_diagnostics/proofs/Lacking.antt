-- The first member whose family has no total line, where members and totals are gone along once.
use Rattle.std.proofs.Common.{◌≡◌, ℕ, ◌+◌, ◌<◌, Bool, true, false, List, [], ◌∷◌, Some, drop, get_or, length}
use Rattle.std.proofs.Common.{refl, sym, ap, ◌∙◌, inl, inr, subst}
use Rattle.std.specs.Prelude.{find}
use Rattle.std.specs.List.{All}
use Rattle.std.specs.Option.{is_some}
use Rattle.std.specs.Ordering.{is_eq, is_le, is_lt, ordering_then}
use Rattle.std.specs.declared.cmp.Ordering.{Ordering}
use Rattle.std.specs.declared.cmp.Ordering.TheVariants.{Less, Equal, Greater}
use Rattle.std.proofs.lemmas.Bool.{cases_Bool}
use Rattle.std.proofs.lemmas.Cmp.{alike_right, tied_itself}
use Rattle.std.proofs.lemmas.List.{drop_more}
use Rattle.std.proofs.lemmas.List.Elements.{All-cons, All-head, All-nil, All-tail}
use Rattle.rx_books_text.specs.Printed.{total_family}
use Rattle.rx_books_text.specs.declared.line.TotalLine.{TotalLine}
use Rattle.rx_fields.specs.Order.{id_cmp}
use Rattle.rx_ledger.proofs.Orders.{id_total, member_total}
use Rattle.rx_ledger.specs.Members.{member_cmp, member_key}
use Rattle.rx_ledger.specs.declared.member.Member.{Member}
use Rattle.rx_ledger.specs.declared.member.MemberKey.{MemberKey}
use Rattle.rx_sorted.proofs.Keys.{IsBelow-through, Less-from_Greater, Less-from_is_lt, cases_Ordering, item_at-below}
use Rattle.rx_sorted.proofs.Kept.{IsAscending-drop}
use Rattle.rx_sorted.specs.Ascending.{IsAscending, IsBelow, contains_key, has_key}
use Rattle.rx_diagnostics.specs.BooksTotals.{from_family, is_before, is_first, lacks_total}

abbrev has : List TotalLine → List ℕ → Bool
has totals family = contains_key id_cmp total_family totals family

abbrev Rise : List TotalLine → Type 0
Rise totals = IsAscending id_cmp total_family totals

-- ---- orders

not_same : (t f g : List ℕ) → is_lt (id_cmp t f) ≡ true → is_le (id_cmp f g) ≡ true → is_eq (id_cmp t g) ≡ false
not_same t f g before until =
    let less = Less-from_is_lt (id_cmp t f) before in
    elim (cases_Ordering (id_cmp f g)) [
      | inl more ↦ ap is_eq (id_total.trans t f g less more)
      | inr (inl tied) ↦ ap is_eq (sym (alike_right id_total f g t tied) ∙ less)
      | inr (inr above) ↦ absurd (let h : false ≡ true = sym (ap is_le above) ∙ until in cc)
    ]

is_le-itself : (f : List ℕ) → is_le (id_cmp f f) ≡ true
is_le-itself f = ap is_le (tied_itself id_total f)

greater : (o : Ordering) → is_lt o ≡ false → is_eq o ≡ false → o ≡ Greater
greater Less a b = absurd (let h : true ≡ false = a in cc)
greater Equal a b = absurd (let h : true ≡ false = b in cc)
greater Greater a b = refl

family_first : (o p : Ordering) → ordering_then o p ≡ Less → is_le o ≡ true
family_first Less p e = refl
family_first Equal p e = refl
family_first Greater p e = absurd (let h : Greater ≡ Less = e in cc)

-- ---- total lines

-- those of later families are all left
kept : (f g : List ℕ) (ts : List TotalLine) → is_le (id_cmp f g) ≡ true → has (from_family f ts) g ≡ has ts g
kept f g [] until = refl
kept f g (t ∷ ts) until = elim (cases_Bool (is_before f t)) [
  | inl before ↦
      let other : has_key id_cmp total_family g t ≡ false = not_same t.family f g before until in
      rw before (rw other (kept f g ts until))
  | inr from ↦ rw from refl
]

pub still_rise : (f : List ℕ) (ts : List TotalLine) → Rise ts → Rise (from_family f ts)
still_rise f [] rise = rise
still_rise f (t ∷ ts) rise = elim (cases_Bool (is_before f t)) [
  | inl before ↦ rw before (still_rise f ts rise.1)
  | inr from ↦ rw from rise
]

-- the family's is the first of those left, or there is none
first_or_none : (f : List ℕ) (ts : List TotalLine) → Rise ts → has (from_family f ts) f ≡ is_first f (from_family f ts)
first_or_none f [] rise = refl
first_or_none f (t ∷ ts) rise = elim (cases_Bool (is_before f t)) [
  | inl before ↦ rw before (first_or_none f ts rise.1)
  | inr from ↦ rw from (elim (cases_Bool (is_eq (id_cmp t.family f))) [
    | inl own ↦ rw own refl
    | inr other ↦
        let is_above : id_cmp f t.family ≡ Less =
        Less-from_Greater id_cmp id_total total_family t.family f (greater (id_cmp t.family f) from other) in
        let none = item_at-below id_cmp id_total total_family f ts
        (IsBelow-through id_cmp id_total total_family f t.family ts is_above rise.0) in
        rw other (ap is_some none)
  ])
]

-- ---- members

abbrev families_from : List ℕ → List Member → Type 0
families_from f ms = All (λ m. is_le (id_cmp f m.key.family) ≡ true) ms

later : (k : MemberKey) (ms : List Member) → IsBelow member_cmp member_key k ms → families_from k.family ms
later k [] below = All-nil (λ (n : Member). is_le (id_cmp k.family n.key.family) ≡ true)
later k (m ∷ ms) below =
    All-cons (λ (n : Member). is_le (id_cmp k.family n.key.family) ≡ true) m ms
    (family_first (id_cmp k.family m.key.family) (id_cmp k.person m.key.person) below.0) (later k ms below.1)

same_search : (f : List ℕ) (ts : List TotalLine) (ms : List Member) → families_from f ms
    → find (lacks_total (from_family f ts)) ms ≡ find (lacks_total ts) ms
same_search f ts [] all = refl
same_search f ts (m ∷ ms) all =
    let IsLater : Member → Type 0 = λ n. is_le (id_cmp f n.key.family) ≡ true in
    let same = kept f m.key.family ts (All-head IsLater m ms all) in
    let more = same_search f ts ms (All-tail IsLater m ms all) in
    elim (cases_Bool (has ts m.key.family)) [
      | inl listed ↦ let left = same ∙ listed in rw (left, listed) more
      | inr none ↦ let left = same ∙ none in rw (left, none) refl
    ]

module _ (ts : List TotalLine) (m : Member) (ms : List Member) (rise : Rise ts) where
  abbrev family : List ℕ
  family = m.key.family

  has_is : has ts family ≡ is_first family (from_family family ts)
  has_is = sym (kept family family ts (is_le-itself family)) ∙ first_or_none family ts rise

  here : is_first family (from_family family ts) ≡ false → find (lacks_total ts) (m ∷ ms) ≡ Some m
  here none = let lacks : has ts family ≡ false = has_is ∙ none in rw lacks refl

  past : IsBelow member_cmp member_key m.key ms → is_first family (from_family family ts) ≡ true
      → find (lacks_total (from_family family ts)) ms ≡ find (lacks_total ts) (m ∷ ms)
  past below own =
      let listed : has ts family ≡ true = has_is ∙ own in
      rw listed (same_search family ts ms (later m.key ms below))

-- ---- members one after another

module _ (ts : List TotalLine) (members : List Member) (i : ℕ) (m : Member) (within : i < length members)
    (is : m ≡ get_or members i m) (rise : Rise ts) where
  split : drop i members ≡ m ∷ drop (i + 1) members
  split = drop_more members i m within ∙ ap (λ (n : Member). n ∷ drop (i + 1) members) (sym is)

  pub found : is_first m.key.family (from_family m.key.family ts) ≡ false → find (lacks_total ts) (drop i members) ≡ Some m
  found none = ap (find (lacks_total ts)) split ∙ here ts m (drop (i + 1) members) rise none

  pub goes_on : IsAscending member_cmp member_key members → is_first m.key.family (from_family m.key.family ts) ≡ true
      → find (lacks_total (from_family m.key.family ts)) (drop (i + 1) members) ≡ find (lacks_total ts) (drop i members)
  goes_on ascend own =
      let front : IsAscending member_cmp member_key (m ∷ drop (i + 1) members) =
      subst (IsAscending member_cmp member_key) split (IsAscending-drop member_cmp member_total member_key i members ascend) in
      past ts m (drop (i + 1) members) rise front.0 own ∙ sym (ap (find (lacks_total ts)) split)
