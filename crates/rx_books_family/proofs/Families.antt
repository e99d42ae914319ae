-- What the book of a family says of its members and rows: all are of the family.
use Rattle.std.proofs.Common.{◌≡◌, List, ℕ, [], ◌∷◌, true, false, refl, ap, ◌∙◌, inl, inr}
use Rattle.std.specs.List.{All}
use Rattle.std.specs.Ordering.{is_eq}
use Rattle.std.proofs.lemmas.Bool.{cases_Bool}
use Rattle.std.proofs.lemmas.Cmp.{tied_itself}
use Rattle.std.proofs.lemmas.List.Elements.{All-head, All-tail, All-weaker}
use Rattle.std.proofs.lemmas.List.Sums.{AllPass-from_list_all}
use Rattle.rx_sorted.specs.Ascending.{has_key, item_at}
use Rattle.rx_ledger.specs.declared.member.Member.{Member}
use Rattle.rx_ledger.specs.declared.member.MemberKey.{MemberKey}
use Rattle.rx_ledger.specs.Ledger.{is_listed}
use Rattle.rx_ledger.specs.Members.{is_same, member_cmp, member_key, of_family, person_in}
use Rattle.rx_ledger.specs.Rows.{claimed_by, member_of_row}
use Rattle.rx_ledger.proofs.Orders.{id_total}
use Rattle.rx_books_family.specs.FamilyBook.{FamilyBook, IsOwn, own_ledger}
use Rattle.rx_books_family.proofs.Owned.{listed_own}

-- among members of one family, the person code finds what the whole key finds
pub persons_found : (family : List ℕ) (ms : List Member) → All (λ m. m.key.family ≡ family) ms → (person : List ℕ)
    → item_at member_cmp member_key ms (record { family = family; person = person }) ≡ person_in ms person
persons_found family [] own person = refl
persons_found family (m ∷ ms) own person =
    let P : Member → Type 0 = λ n. n.key.family ≡ family in
    let k : MemberKey = record { family = family; person = person } in
    let theirs : m.key.family ≡ family = All-head P m ms own in
    let same : has_key member_cmp member_key k m ≡ is_same m.key.person person =
    rw theirs (rw (tied_itself id_total family)) in
    let rest : item_at member_cmp member_key ms k ≡ person_in ms person =
    persons_found family ms (All-tail P m ms own) person in
    elim (cases_Bool (is_same m.key.person person)) [
      | inl t ↦ let here : has_key member_cmp member_key k m ≡ true = same ∙ t in rw (here, t)
      | inr f ↦ let apart : has_key member_cmp member_key k m ≡ false = same ∙ f in rw (apart, f) rest
    ]

same_text : (f g : List ℕ) → f ≡ g → is_same f g ≡ true
same_text f g e = rw e (ap is_eq (tied_itself id_total g))

-- the members and rows of a family's book are the family's
pub members_theirs : (b : FamilyBook) → IsOwn b → All (λ m. of_family b.family m ≡ true) b.members
members_theirs b own =
    All-weaker (λ m. m.key.family ≡ b.family) (λ m. of_family b.family m ≡ true)
    (λ m e. same_text m.key.family b.family e) b.members own.members_own

pub rows_theirs : (b : FamilyBook) → IsOwn b → All (λ r. claimed_by b.family r ≡ true) b.rows
rows_theirs b own =
    All-weaker (λ r. is_listed (own_ledger b) (member_of_row r) ≡ true) (λ r. claimed_by b.family r ≡ true)
    (λ r listed. same_text r.family b.family (listed_own b own (member_of_row r) listed)) b.rows
    (AllPass-from_list_all (λ r. is_listed (own_ledger b) (member_of_row r)) b.rows own.in_order.whole)
