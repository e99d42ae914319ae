-- What a record asks of a parcel that fits it, and what the parcel answers.
use Rattle.std.proofs.Common.{◌≡◌, ℕ, List, [], ◌∷◌, length, Bool, true, false, not, Option, Some}
use Rattle.std.proofs.Common.{None, IsSome, refl, sym, ap, subst, ◌∙◌, inl, inr, arith}
use Rattle.std.specs.Prelude.{◌==◌, IfSome}
use Rattle.std.specs.List.{filter, find, list_any}
use Rattle.std.specs.Option.{is_some, option_and_then}
use Rattle.std.specs.Ordering.{is_eq, ordering_then}
use Rattle.std.specs.declared.cmp.Ordering.{Ordering}
use Rattle.std.specs.declared.cmp.Ordering.TheVariants.{Less, Equal, Greater}
use Rattle.std.proofs.lemmas.Bool.{and_parts, cases_Bool}
use Rattle.std.proofs.lemmas.Bool.Decides.{nat_tests}
use Rattle.std.proofs.lemmas.List.Elements.{All-weaker}
use Rattle.std.proofs.lemmas.List.Sums.{AllPass-from_list_all}
use Rattle.rx_fields.specs.Order.{id_cmp}
use Rattle.rx_sorted.specs.Ascending.{has_key}
use Rattle.rx_d0_values.specs.declared.transaction.Transaction.{Transaction}
use Rattle.rx_d0_values.specs.declared.transaction.Transaction.TheVariants.{Bill, Reverse, Faulty}
use Rattle.rx_d0_values.specs.declared.transmission.Body.{Body}
use Rattle.rx_d0_values.specs.declared.transmission.Body.TheVariants.{Rejected, Heard}
use Rattle.rx_d0_values.specs.declared.transmission.Heard.{Heard as HeardRecord}
use Rattle.rx_ledger.specs.declared.member.MemberKey.{MemberKey}
use Rattle.rx_ledger.specs.declared.row.Row.{Row}
use Rattle.rx_ledger.specs.Basis.{Holds, HoldsRecord}
use Rattle.rx_ledger.specs.Ledger.{Ledger, is_listed, members_of, row_under, rows_of}
use Rattle.rx_ledger.specs.Members.{member_cmp, member_key, of_family, person_in}
use Rattle.rx_ledger.specs.Named.{key_in}
use Rattle.rx_books_family.specs.Books.{OfFamily, OfKey}
use Rattle.rx_books_family.specs.FamilyBook.{FamilyBook, has_person, ledger_of_family, own_ledger}
use Rattle.rx_books_parcel.specs.Footprints.{fits_body, fits_one, names, names_holder}
use Rattle.rx_books_parcel.specs.Parcels.{ParcelParts, family_at, ledger_in, member_at, named_in, rows_at}
use Rattle.rx_books_parcel.proofs.Held.{family_found, members_read, period_found, rows_read}
use Rattle.rx_books_family.proofs.Families.{persons_found}
use Rattle.rx_sorted.proofs.Filters.{find_filter}
use Rattle.rx_adjudicate.specs.Scopes.{IsAgreed, scope_in, used_over}

-- ---- what a record asks

module _ (p : ParcelParts) (L : Ledger) (h : HeardRecord) where
  holder : (o : Option Row) → names_holder (named_in p) o ≡ true
      → IfSome o (λ r. names (named_in p) (OfFamily r.family) ≡ true)
  holder None n = tt
  holder (Some r) n = n

  holds_one : (t : Transaction) → fits_one (named_in p) h L t ≡ true → Holds (scope_in p) (key_in h) L t
  holds_one (Bill b) f = let named = and_parts _ _ f in record { key = named.0; member = named.1; family = named.1 }
  holds_one (Reverse v) f =
      let named = and_parts _ _ f in
      record { key = named.0; family = holder (row_under L (key_in h v.reference)) named.1 }
  holds_one (Faulty x) f = tt

-- a parcel that fits a record holds what it asks for
pub holds_record : (p : ParcelParts) (L : Ledger) (body : Body) → fits_body (named_in p) L body ≡ true
    → HoldsRecord (scope_in p) L body
holds_record p L (Rejected r) f = tt
holds_record p L (Heard h) f =
    All-weaker (λ t. fits_one (named_in p) h L t ≡ true) (Holds (scope_in p) (key_in h) L) (holds_one p L h) h.list
    (AllPass-from_list_all (fits_one (named_in p) h L) h.list f)

-- ---- what it answers

any_some : {A : Type 0} (q : A → Bool) (xs : List A) → list_any q xs ≡ not (length (filter q xs) == 0)
any_some q [] = refl
any_some q (x ∷ xs) = elim (cases_Bool (q x)) [
  | inl t ↦ rw t (grind (arith, nat_tests))
  | inr f ↦ rw f (any_some q xs)
]

-- a listed member is listed among the family's members
tied_first : (o p : Ordering) → is_eq (ordering_then o p) ≡ true → is_eq o ≡ true
tied_first Less p h = h
tied_first Equal p h = refl
tied_first Greater p h = h

listed_of : (L : Ledger) (k : MemberKey) → is_listed L k
    ≡ is_some (find (has_key member_cmp member_key k) (members_of L k.family))
listed_of L k = ap is_some (sym (find_filter (has_key member_cmp member_key k) (of_family k.family) L.members
    (λ m h. tied_first (id_cmp m.key.family k.family) (id_cmp m.key.person k.person) h)))

module _ (p : ParcelParts) (is : IsAgreed p) (family : List ℕ) (n : names (named_in p) (OfFamily family) ≡ true) where
  pub members_here : members_of (ledger_in p) family ≡ (ledger_of_family (family_at p family)).members
  members_here = members_read p is.parcel is.agrees family n

  pub rows_here : rows_of (ledger_in p) family ≡ rows_at p family
  rows_here = rows_read p is.parcel is.agrees family n

  pub has_members_in : (b : FamilyBook) → family_at p family ≡ Some b
      → list_any (of_family family) (ledger_in p).members ≡ not (length b.members == 0)
  has_members_in b there = any_some (of_family family) (ledger_in p).members
      ∙ ap (λ ms. not (length ms == 0)) (members_here ∙ ap (λ o. (ledger_of_family o).members) there)

  pub no_members_in : family_at p family ≡ None → list_any (of_family family) (ledger_in p).members ≡ false
  no_members_in none = any_some (of_family family) (ledger_in p).members
      ∙ ap (λ ms. not (length ms == 0)) (members_here ∙ ap (λ o. (ledger_of_family o).members) none)

  pub person_here : (person : List ℕ) → person_in (members_of (ledger_in p) family) person ≡ member_at p family person
  person_here person = ap (λ ms. person_in ms person) members_here ∙ by_book (family_at p family)
    where
      by_book : (o : Option FamilyBook) → person_in (ledger_of_family o).members person
          ≡ option_and_then (λ (b : FamilyBook). person_in b.members person) o
      by_book None = refl
      by_book (Some b) = refl

  -- who is listed in the parcel's ledger is listed in the family's book, which is there
  module _ (person : List ℕ) (listed : is_listed (ledger_in p) (record { family = family; person = person }) ≡ true) where
    abbrev k : MemberKey
    k = record { family = family; person = person }

    listed_here : is_some (find (has_key member_cmp member_key k) (ledger_of_family (family_at p family)).members) ≡ true
    listed_here = ap (λ ms. is_some (find (has_key member_cmp member_key k) ms)) (sym members_here)
        ∙ sym (listed_of (ledger_in p) k) ∙ listed

    pub person_of : (b : FamilyBook) → family_at p family ≡ Some b → has_person b person ≡ true
    person_of b there =
        let here : is_listed (own_ledger b) k ≡ true =
        subst (λ o. is_some (find (has_key member_cmp member_key k) (ledger_of_family o).members) ≡ true) there listed_here in
        let found = family_found p is.parcel family b there in
        subst (λ f. is_listed (own_ledger b) (record { family = f; person = person }) ≡ true) (sym found.0) here

    pub nobody_of : family_at p family ≡ None → ⊥
    nobody_of none =
        let here : false ≡ true =
        subst (λ o. is_some (find (has_key member_cmp member_key k) (ledger_of_family o).members) ≡ true) none listed_here in
        cc

    pub member_of : IsSome (member_at p family person)
    member_of = by_book (family_at p family) refl
      where
        by_book : (o : Option FamilyBook) → family_at p family ≡ o
            → IsSome (option_and_then (λ (b : FamilyBook). person_in b.members person) o)
        by_book None e = absurd (nobody_of e)
        by_book (Some b) e =
            let found = family_found p is.parcel family b e in
            ap is_some (sym (persons_found b.family b.members found.1.members_own person)) ∙ person_of b e

  pub used_here : (b : FamilyBook) → family_at p family ≡ Some b → (person : List ℕ)
      → used_over p.period (rows_of (ledger_in p) family) person ≡ used_over b.period b.rows person
  used_here b there person =
      let rows : rows_of (ledger_in p) family ≡ b.rows = rows_here ∙ ap (λ o. (ledger_of_family o).rows) there in
      let period = period_found p is.parcel family b there in
      ap (λ rs. used_over p.period rs person) rows ∙ ap (λ s. used_over s b.rows person) (sym period)

-- ---- after a change

-- a parcel of the same period and names answers for the same
pub scope_same : (p q : ParcelParts) → q.period ≡ p.period → named_in q ≡ named_in p → scope_in q ≡ scope_in p
scope_same p q period same = λ i. record {
  period = Some (period i);
  has_key = λ key. names (same i) (OfKey key);
  has_member = λ member. names (same i) (OfFamily member.family);
  has_family = λ f. names (same i) (OfFamily f);
}

pub some_row : (o : Option Row) → is_some o ≡ true → (r : Row) × (o ≡ Some r)
some_row None h = absurd (let w : false ≡ true = h in cc)
some_row (Some r) h = (r, refl)
