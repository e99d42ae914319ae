-- The totals of a family's book are the stored figures of the books that it is of.
use Rattle.std.proofs.Common.{◌≡◌, ℕ, List, [], ◌∷◌, map, true, false, refl, sym, ap, ◌∙◌, inl, inr}
use Rattle.std.specs.List.{All, Contains, filter, list_all, list_any}
use Rattle.std.proofs.lemmas.Bool.{cases_Bool}
use Rattle.std.proofs.lemmas.List.Elements.{All-contains_itself, All-head, All-tail, All-weaker, filter_passes}
use Rattle.rx_sorted.proofs.Filters.{Contains-filter}
use Rattle.rx_sorted.proofs.Keys.{Equal-from_is_eq}
use Rattle.rx_ledger.specs.declared.member.Member.{Member}
use Rattle.rx_ledger.specs.declared.row.Row.{Row}
use Rattle.rx_ledger.specs.Ledger.{Ledger, is_listed, members_of, rows_of}
use Rattle.rx_ledger.specs.Members.{of_family}
use Rattle.rx_ledger.specs.Rows.{member_of_row}
use Rattle.rx_ledger.specs.Sums.{deductible, deductible_in, family_deductible, family_deductible_in, out_of_pocket, out_of_pocket_in}
use Rattle.rx_ledger.proofs.Orders.{id_exact}
use Rattle.rx_books_family.specs.FamilyBook.{AreTotals, FamilyBook, IsOwn, deductibles_over, own_ledger}
use Rattle.rx_books_store.specs.LedgerBooks.{LedgerBooks, has_members}
use Rattle.rx_books_shelf.specs.Gathered.{own_deductible}
use Rattle.rx_books_shelf.specs.Opened.{opened_book}

-- the members of a family are among all
pub all_among : (L : Ledger) (f : List ℕ) → All (Contains L.members) (members_of L f)
all_among L f = All-weaker (Contains (members_of L f)) (Contains L.members)
    (λ m among. let parts = Contains-filter (of_family f) L.members m among in parts.0) (members_of L f)
    (All-contains_itself (members_of L f))

-- their deductibles
pub deductibles_own : (d : LedgerBooks) (f : List ℕ)
    → map (own_deductible d) (members_of d.ledger f) ≡ deductibles_over d.period (rows_of d.ledger f) (members_of d.ledger f)
deductibles_own d f = each (members_of d.ledger f) (filter_passes (of_family f) d.ledger.members)
  where
    each : (ms : List Member) → All (λ m. of_family f m ≡ true) ms
        → map (own_deductible d) ms ≡ deductibles_over d.period (rows_of d.ledger f) ms
    each [] all = refl
    each (m ∷ ms) all =
        let P : Member → Type 0 = λ n. of_family f n ≡ true in
        let same : m.key.family ≡ f = id_exact m.key.family f (Equal-from_is_eq _ (All-head P m ms all)) in
        let first : own_deductible d m ≡ deductible_in d.period (rows_of d.ledger f) m.key.person =
        ap (λ g. deductible d.period d.ledger g m.key.person) same in
        let rest = each ms (All-tail P m ms all) in
        cc

-- a family without members has none
pub no_members : (L : Ledger) (f : List ℕ) → has_members L f ≡ false → members_of L f ≡ []
no_members L f none = each L.members none
  where
    each : (ms : List Member) → list_any (of_family f) ms ≡ false → filter (of_family f) ms ≡ []
    each [] h = refl
    each (m ∷ ms) h = elim (cases_Bool (of_family f m)) [
      | inl t ↦ absurd (let e = rw t at h in cc)
      | inr n ↦ rw n (each ms (rw n at h))
    ]

-- nor rows
pub no_rows : (b : FamilyBook) → IsOwn b → b.members ≡ [] → b.rows ≡ []
no_rows b own none = each b.rows own.in_order.whole
  where
    each : (rs : List Row) → list_all (λ r. is_listed (own_ledger b) (member_of_row r)) rs ≡ true → rs ≡ []
    each [] h = refl
    each (r ∷ rs) h = absurd (let e = rw none at h in cc)

pub no_claims : (d : LedgerBooks) (b : FamilyBook) → b ≡ opened_book d b.family → IsOwn b → has_members d.ledger b.family ≡ false
    → rows_of d.ledger b.family ≡ []
no_claims d b is own none =
    sym (ap (λ (x : FamilyBook). x.rows) is)
    ∙ no_rows b own (ap (λ (x : FamilyBook). x.members) is ∙ no_members d.ledger b.family none)

-- so these are the totals of a family's book
pub totals_stored : (d : LedgerBooks) (b : FamilyBook) → b ≡ opened_book d b.family → (ds : List ℕ) → ds ≡ map (own_deductible d) b.members
    → (p q : ℕ) → p ≡ out_of_pocket d.period d.ledger b.family → q ≡ family_deductible d.period d.ledger b.family
    → AreTotals b ds p q
totals_stored d b is ds each p q pocket deductibles = record {
  of_members = each ∙ ap (λ (x : FamilyBook). map (own_deductible d) x.members) is ∙ deductibles_own d b.family
      ∙ ap (λ (x : FamilyBook). deductibles_over x.period x.rows x.members) (sym is);
  of_pocket = pocket ∙ ap (λ (x : FamilyBook). out_of_pocket_in x.period x.rows) (sym is);
  of_family = deductibles ∙ ap (λ (x : FamilyBook). family_deductible_in x.period x.rows) (sym is);
}
