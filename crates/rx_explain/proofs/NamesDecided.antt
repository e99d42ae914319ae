-- A transaction with other names is decided alike on a ledger with these names.
use Rattle.std.proofs.Common.{◌≡◌, ℕ, ◌+◌, List, [], ◌∷◌, Bool, true, false, cond, Some, None, refl, sym, ap}
use Rattle.std.proofs.Common.{◌∙◌, inl, inr, arith}
use Rattle.std.specs.Prelude.{◌&&◌, ◌==◌}
use Rattle.std.specs.Option.{option_map}
use Rattle.std.specs.List.{All, filter, list_any, sum_by}
use Rattle.std.specs.Cmp.{IsTotalOrder}
use Rattle.std.specs.Ordering.{is_eq}
use Rattle.std.specs.declared.cmp.Ordering.{Ordering}
use Rattle.std.proofs.lemmas.Bool.{cases_Bool}
use Rattle.std.proofs.lemmas.Cmp.{tied_itself}
use Rattle.std.proofs.lemmas.Map.Lookups.{CmpEqualImpliesEq}
use Rattle.std.proofs.lemmas.Bool.Decides.{Decides-eqb}
use Rattle.std.proofs.lemmas.List.Elements.{All-contains}
use Rattle.std.proofs.lemmas.List.Sums.{sum_by-cons}
use Rattle.rx_fields.specs.Calendar.{Civil}
use Rattle.rx_fields.specs.Numbered.{LotParts}
use Rattle.rx_fields.specs.Order.{id_cmp, key_cmp}
use Rattle.rx_fields.specs.declared.key.Key.{Key}
use Rattle.rx_d0_values.specs.declared.bill.BillParts.{BillParts}
use Rattle.rx_d0_values.specs.declared.reply.Answer.{Answer}
use Rattle.rx_d0_values.specs.declared.reply.Answer.TheVariants.{Paid, Twice, Approved, Refused}
use Rattle.rx_d0_values.specs.declared.transaction.Reversal.{Reversal}
use Rattle.rx_d0_values.specs.declared.transaction.Transaction.{Transaction}
use Rattle.rx_d0_values.specs.declared.transaction.Transaction.TheVariants.{Bill, Reverse, Faulty}
use Rattle.rx_sorted.specs.Ascending.{IsAscending, item_at}
use Rattle.rx_sorted.proofs.Keys.{Equal-from_is_eq}
use Rattle.rx_ledger.specs.Answers.{after, answer, answer_by, paid_row}
use Rattle.rx_ledger.proofs.OfMember.{paid-free}
use Rattle.rx_sorted.proofs.LookUps.{item_at-found, item_at-free}
use Rattle.rx_ledger.specs.Decisions.{Asked, billing, decision_of, is_same_claim, is_too_soon, key_of, reversal}
use Rattle.rx_ledger.specs.Decisions.{used_by}
use Rattle.rx_ledger.specs.Ledger.{Ledger, members_of, row_under, rows_of}
use Rattle.rx_ledger.specs.Members.{is_same, member_cmp, member_key, of_family, person_in}
use Rattle.rx_ledger.specs.Plan.{Plan}
use Rattle.rx_ledger.specs.Rows.{claimed_by, row_key}
use Rattle.rx_ledger.specs.Sums.{counted, deductible_paid, paid_by_patient, persons_deductible_paid}
use Rattle.rx_ledger.specs.declared.decision.Decision.{Decision}
use Rattle.rx_ledger.specs.declared.decision.Decision.TheVariants as decision
use Rattle.rx_ledger.specs.declared.member.MemberKey.{MemberKey}
use Rattle.rx_ledger.specs.declared.row.Row.{Row}
use Rattle.rx_ledger.proofs.Found.{any_of_passed, person_found}
use Rattle.rx_ledger.proofs.Mapped.{billing-mapped, decision_mapped, reversal-mapped}
use Rattle.rx_ledger.proofs.Orders.{id_exact, id_total, key_exact, key_total, member_exact, member_total}
use Rattle.rx_explain.specs.Names.{AgreesRow, AreNames, IsOneDrug, Names, bill_named, key_named, ledger_named, member_named, person_named}
use Rattle.rx_explain.specs.Names.{faulty_named, reversal_named, row_named, transaction_named}
use Rattle.rx_explain.proofs.NamesOrdered.{any-named, found-named, put-named, sum-named, without-named}

-- ---- two names stay two

pub one-text : (a b : List ℕ) → is_same a b ≡ true → a ≡ b
one-text a b same = id_exact a b (Equal-from_is_eq _ same)

module _ {J K : Type 0} (one : J → J → Ordering) (one_total : IsTotalOrder one) (one_exact : CmpEqualImpliesEq one)
    (other : K → K → Ordering) (other_total : IsTotalOrder other) (other_exact : CmpEqualImpliesEq other)
    (name : J → K) (two : (a b : J) → name a ≡ name b → a ≡ b) where
  pub tied-named : (a b : J) → is_eq (other (name a) (name b)) ≡ is_eq (one a b)
  tied-named a b = elim (cases_Bool (is_eq (one a b))) [
    | inl same ↦
        let e : a ≡ b = one_exact a b (Equal-from_is_eq _ same) in
        rw same (ap (λ c. is_eq (other (name a) (name c))) (sym e) ∙ ap is_eq (tied_itself other_total (name a)))
    | inr apart ↦ elim (cases_Bool (is_eq (other (name a) (name b)))) [
      | inl tied ↦
          let e : a ≡ b = two a b (other_exact (name a) (name b) (Equal-from_is_eq _ tied)) in
          let same : is_eq (one a b) ≡ true = ap (λ c. is_eq (one a c)) (sym e) ∙ ap is_eq (tied_itself one_total a) in
          absurd (let no : true ≡ false = sym same ∙ apart in cc)
      | inr neither ↦ neither ∙ sym apart
    ]
  ]

equal-numbers : (a b : ℕ) → (a == b) ≡ true → a ≡ b
equal-numbers a b same = (Decides-eqb a b).0 same

number-itself : (a : ℕ) → (a == a) ≡ true
number-itself a = (Decides-eqb a a).1 refl

pub numbers-named : (name : ℕ → ℕ) → ((a b : ℕ) → name a ≡ name b → a ≡ b) → (a b : ℕ) → (name a == name b) ≡ (a == b)
numbers-named name two a b = elim (cases_Bool (a == b)) [
  | inl same ↦ rw same (ap (λ c. name a == name c) (sym (equal-numbers a b same)) ∙ number-itself (name a))
  | inr apart ↦ elim (cases_Bool (name a == name b)) [
    | inl tied ↦
        let e : a ≡ b = two a b (equal-numbers (name a) (name b) tied) in
        let same : (a == b) ≡ true = ap (λ c. a == c) (sym e) ∙ number-itself a in
        absurd (let no : true ≡ false = sym same ∙ apart in cc)
    | inr neither ↦ neither ∙ sym apart
  ]
]

pub numbers-agree : (a b c d : ℕ) → (a ≡ b → c ≡ d) → (c ≡ d → a ≡ b) → (a == b) ≡ (c == d)
numbers-agree a b c d here there = elim (cases_Bool (c == d)) [
  | inl same ↦ rw same (ap (λ e. a == e) (sym (there (equal-numbers c d same))) ∙ number-itself a)
  | inr apart ↦ elim (cases_Bool (a == b)) [
    | inl tied ↦
        let same : (c == d) ≡ true = ap (λ e. c == e) (sym (here (equal-numbers a b tied))) ∙ number-itself c in
        absurd (let no : true ≡ false = sym same ∙ apart in cc)
    | inr neither ↦ neither ∙ sym apart
  ]
]

-- ---- tests that are short

pub both-if : (p q r : Bool) → (p ≡ true → q ≡ r) → (p && q) ≡ (p && r)
both-if true q r same = same refl
both-if false q r same = refl

only-if : (p : Bool) (m n : ℕ) → (p ≡ true → m ≡ n) → cond p m 0 ≡ cond p n 0
only-if true m n same = same refl
only-if false m n same = refl

nothing-more : (m : ℕ) → m ≡ 0 + m
nothing-more m = omega arith

sum-filter : {X : Type 0} (p : X → Bool) (f : X → ℕ) (xs : List X) → sum_by f (filter p xs) ≡ sum_by (λ x. cond (p x) (f x) 0) xs
sum-filter p f [] = refl
sum-filter {X} p f (x ∷ xs) = one (p x) (sum-filter p f xs) ∙ sym (sum_by-cons (λ y. cond (p y) (f y) 0) x xs)
  where
    one : (b : Bool) → sum_by f (filter p xs) ≡ sum_by (λ y. cond (p y) (f y) 0) xs
        → sum_by f (cond b (x ∷ filter p xs) (filter p xs)) ≡ cond b (f x) 0 + sum_by (λ y. cond (p y) (f y) 0) xs
    one true rest = sum_by-cons f x (filter p xs) ∙ ap (λ n. f x + n) rest
    one false rest = rest ∙ nothing-more (sum_by (λ y. cond (p y) (f y) 0) xs)

-- ---- decisions and answers

abbrev pub answer_named : Names → List ℕ → Answer → Answer
answer_named n pharmacy (Paid p) = Paid (record p { reference = n.prescription pharmacy p.reference })
answer_named n pharmacy (Twice p) = Twice (record p { reference = n.prescription pharmacy p.reference })
answer_named n pharmacy (Approved p) = Approved (record p { reference = n.prescription pharmacy p.reference })
answer_named n pharmacy (Refused p) = Refused (record p { reference = option_map (n.prescription pharmacy) p.reference })

abbrev pub decision_named : Names → List ℕ → Decision → Decision
decision_named n pharmacy = decision_mapped (row_named n) (member_named n) (faulty_named n pharmacy)

-- ---- two names stay two

module _ (plan : Plan) (n : Names) (are : AreNames n) where
  pub pharmacy-same : (p q : List ℕ) → is_same (n.pharmacy p) (n.pharmacy q) ≡ is_same p q
  pharmacy-same = tied-named id_cmp id_total id_exact id_cmp id_total id_exact n.pharmacy are.pharmacies

  pub family-same : (f g : List ℕ) → is_same (n.family f) (n.family g) ≡ is_same f g
  family-same = tied-named id_cmp id_total id_exact id_cmp id_total id_exact n.family are.families

  pub person-same : (f p q : List ℕ) → is_same (n.person f p) (n.person f q) ≡ is_same p q
  person-same f = tied-named id_cmp id_total id_exact id_cmp id_total id_exact (n.person f) (are.persons f)

  -- of one family
  pub person-in-same : (f g p q : List ℕ) → is_same f g ≡ true → is_same (n.person f p) (n.person g q) ≡ is_same p q
  person-in-same f g p q same =
      ap (λ h. is_same (n.person f p) (n.person h q)) (sym (one-text f g same)) ∙ person-same f p q

  two-keys : (j k : Key) → key_named n j ≡ key_named n k → j ≡ k
  two-keys j k same =
      let provider : j.provider ≡ k.provider = are.pharmacies j.provider k.provider (ap (λ l. l.provider) same) in
      let there : n.prescription k.provider j.reference ≡ n.prescription k.provider k.reference =
      ap (λ p. n.prescription p j.reference) (sym provider) ∙ ap (λ l. l.reference) same in
      let reference : j.reference ≡ k.reference = are.prescriptions k.provider j.reference k.reference there in
      let date : j.date ≡ k.date = ap (λ l. l.date) same in
      λ i. record { provider = provider i; reference = reference i; date = date i }

  pub key-same : (j k : Key) → is_eq (key_cmp (key_named n j) (key_named n k)) ≡ is_eq (key_cmp j k)
  key-same = tied-named key_cmp key_total key_exact key_cmp key_total key_exact (key_named n) two-keys

  two-persons : (j k : MemberKey) → person_named n j ≡ person_named n k → j ≡ k
  two-persons j k same =
      let family : j.family ≡ k.family = are.families j.family k.family (ap (λ l. l.family) same) in
      let there : n.person k.family j.person ≡ n.person k.family k.person =
      ap (λ f. n.person f j.person) (sym family) ∙ ap (λ l. l.person) same in
      let person : j.person ≡ k.person = are.persons k.family j.person k.person there in
      λ i. record { family = family i; person = person i }

  pub member-same : (j k : MemberKey) → is_eq (member_cmp (person_named n j) (person_named n k)) ≡ is_eq (member_cmp j k)
  member-same = tied-named member_cmp member_total member_exact member_cmp member_total member_exact (person_named n) two-persons

  -- of one person
  pub product-same : (f g p q : List ℕ) (c d : ℕ) → is_same f g ≡ true → is_same p q ≡ true
      → (n.product f p c == n.product g q d) ≡ (c == d)
  product-same f g p q c d family person =
      ap (λ h. n.product f p c == n.product h q d) (sym (one-text f g family))
      ∙ ap (λ r. n.product f p c == n.product f r d) (sym (one-text p q person))
      ∙ numbers-named (n.product f p) (are.products f p) c d

  -- ---- a ledger

  module _ (L : Ledger) (members_rise : IsAscending member_cmp member_key L.members) (rows_rise : IsAscending key_cmp row_key L.rows)
      (agreed : All (AgreesRow n) L.rows) where
    pub row-under : (k : Key) → row_under (ledger_named n L) (key_named n k) ≡ option_map (row_named n) (row_under L k)
    row-under k = found-named key_cmp key_total row_key (row_named n) (key_named n) (λ r. refl) key-same L.rows k

    person-found : (family person : List ℕ)
        → person_in (members_of (ledger_named n L) (n.family family)) (n.person family person)
        ≡ option_map (member_named n) (person_in (members_of L family) person)
    person-found family person =
        sym (person_found (ledger_named n L).members (n.family family) (n.person family person))
        ∙ found-named member_cmp member_total member_key (member_named n) (person_named n) (λ m. refl) member-same L.members
        (record { family = family; person = person })
        ∙ ap (option_map (member_named n)) (person_found L.members family person)

    any-member : (family : List ℕ) → list_any (of_family (n.family family)) (ledger_named n L).members
        ≡ list_any (of_family family) L.members
    any-member family =
        any-named member_cmp member_total member_key (member_named n) (person_named n) (λ m. refl) member-same
        (of_family (n.family family)) (of_family family) (λ m. family-same m.key.family family) L.members members_rise

    -- a sum over the rows of a family
    sum-of-family : (family : List ℕ) (f g : Row → ℕ) → ((r : Row) → is_same r.family family ≡ true → f (row_named n r) ≡ g r)
        → sum_by f (rows_of (ledger_named n L) (n.family family)) ≡ sum_by g (rows_of L family)
    sum-of-family family f g alike =
        sum-filter (claimed_by (n.family family)) f (ledger_named n L).rows
        ∙ sum-named key_cmp key_total row_key (row_named n) (key_named n) (λ r. refl) key-same
        (λ r. cond (claimed_by (n.family family) r) (f r) 0) (λ r. cond (claimed_by family r) (g r) 0)
        (λ r. ap (λ b. cond b (f (row_named n r)) 0) (family-same r.family family)
        ∙ only-if (is_same r.family family) (f (row_named n r)) (g r) (alike r)) L.rows rows_rise
        ∙ sym (sum-filter (claimed_by family) g L.rows)

    -- some row of a family passes
    pub any-of-family : (family : List ℕ) (p q : Row → Bool) → ((r : Row) → is_same r.family family ≡ true → p (row_named n r) ≡ q r)
        → list_any (λ r. claimed_by (n.family family) r && p r) (ledger_named n L).rows
        ≡ list_any (λ r. claimed_by family r && q r) L.rows
    any-of-family family p q alike =
        any-named key_cmp key_total row_key (row_named n) (key_named n) (λ r. refl) key-same
        (λ r. claimed_by (n.family family) r && p r) (λ r. claimed_by family r && q r)
        (λ r. ap (λ b. b && p (row_named n r)) (family-same r.family family)
        ∙ both-if (is_same r.family family) (p (row_named n r)) (q r) (alike r)) L.rows rows_rise

    -- ---- one transaction on it

    module _ (lot : LotParts) (provider : List ℕ) (date : Civil) (number : ℕ) where
      abbrev a : Asked
      a = record { lot = lot; plan = plan; provider = provider; date = date; number = number }

      abbrev z : Asked
      z = record { lot = lot; plan = plan; provider = n.pharmacy provider; date = date; number = number }

      module _ (b : BillParts) where
        abbrev c : BillParts
        c = bill_named n provider b

        same-claim : (r : Row) → is_same_claim c (row_named n r) ≡ is_same_claim b r
        same-claim r = elim (cases_Bool (is_same r.family b.family)) [
          | inl same ↦ elim (cases_Bool (is_same r.person b.person)) [
            | inl person ↦
                rw (
                  family-same r.family b.family,
                  same,
                  person-in-same r.family b.family r.person b.person same,
                  person,
                  product-same r.family b.family r.person b.person r.product b.product same person,
                ) refl
            | inr another ↦
                rw (family-same r.family b.family, same, person-in-same r.family b.family r.person b.person same, another) refl
          ]
          | inr other ↦ rw (family-same r.family b.family, other) refl
        ]

        pub too-soon : (day : Civil) (r : Row) → is_same r.family b.family ≡ true
            → is_too_soon plan.figures day c (row_named n r) ≡ is_too_soon plan.figures day b r
        too-soon day r same = elim (cases_Bool (is_same r.person b.person)) [
          | inl person ↦
              rw (
                person-in-same r.family b.family r.person b.person same,
                person,
                product-same r.family b.family r.person b.person r.product b.product same person,
              ) refl
          | inr another ↦ rw (person-in-same r.family b.family r.person b.person same, another) refl
        ]

        used-same : used_by plan.figures c.person (rows_of (ledger_named n L) c.family)
            ≡ used_by plan.figures b.person (rows_of L b.family)
        used-same =
            let period = plan.figures.period in
            let own = sum-of-family b.family (counted period (persons_deductible_paid c.person))
            (counted period (persons_deductible_paid b.person))
            (λ r same. rw (person-in-same r.family b.family r.person b.person same) refl) in
            let paid = sum-of-family b.family (counted period paid_by_patient) (counted period paid_by_patient) (λ r same. refl) in
            let whole = sum-of-family b.family (counted period deductible_paid) (counted period deductible_paid) (λ r same. refl) in
            λ i. record { deductible = own i; out_of_pocket = paid i; family_deductible = whole i }

        billing-named : IsOneDrug n plan (Bill b) → billing z (ledger_named n L) c ≡ decision_named n provider (billing a L b)
        billing-named drug =
            let M : Ledger = ledger_named n L in
            let soon : list_any (is_too_soon plan.figures date c) (rows_of M c.family)
            ≡ list_any (is_too_soon plan.figures date b) (rows_of L b.family) =
            sym (any_of_passed (claimed_by c.family) (is_too_soon plan.figures date c) M.rows)
            ∙ any-of-family b.family (is_too_soon plan.figures date c) (is_too_soon plan.figures date b) (too-soon date)
            ∙ any_of_passed (claimed_by b.family) (is_too_soon plan.figures date b) L.rows in
            billing-mapped (row_named n) (member_named n) (faulty_named n provider) a (n.pharmacy provider) L M b c.family c.person
            c.reference c.product (record {
              some = any-member b.family;
              member = person-found b.family b.person;
              coverage = λ m is. refl;
              standing = row-under (key_of a b.reference);
              claim = λ r is. same-claim r;
              drug = drug;
              soon = soon;
              used = used-same;
            })

      reversal-named : (v : Reversal) → reversal z (ledger_named n L) (reversal_named n provider date v)
          ≡ decision_named n provider (reversal a L v)
      reversal-named v =
          reversal-mapped (row_named n) (member_named n) (faulty_named n provider) a (n.pharmacy provider) L (ledger_named n L) v
          (reversal_named n provider date v) (row-under (key_of a v.reference)) product-is
        where
          -- what the reversal names is what the claim under its key has
          product-is : (r : Row) → row_under L (key_of a v.reference) ≡ Some r
              → (n.product r.family r.person r.product == n.reversed (key_of a v.reference) v.product) ≡ (r.product == v.product)
          product-is r found =
              let there = item_at-found key_cmp key_total row_key L.rows (key_of a v.reference) r found in
              let key : r.key ≡ key_of a v.reference = key_exact r.key (key_of a v.reference) there.1 in
              let one = All-contains (AgreesRow n) L.rows r agreed there.0 v.product in
              let name : n.reversed (key_of a v.reference) v.product ≡ n.reversed r.key v.product =
              ap (λ k. n.reversed k v.product) (sym key) in
              numbers-agree (n.product r.family r.person r.product) (n.reversed (key_of a v.reference) v.product) r.product v.product
              (λ same. sym (one.0 (sym name ∙ sym same))) (λ same. sym (name ∙ one.1 (sym same)))

      pub decided-named : (t : Transaction) → IsOneDrug n plan t → decision_of z (ledger_named n L) (transaction_named n provider date t)
          ≡ decision_named n provider (decision_of a L t)
      decided-named (Bill b) drug = billing-named b drug
      decided-named (Reverse v) drug = reversal-named v
      decided-named (Faulty f) drug = refl

      -- ---- its answer

      answers-by : (reference : ℕ) (d : Decision)
          → answer_by number (n.prescription provider reference) (decision_named n provider d)
          ≡ answer_named n provider (answer_by number reference d)
      answers-by reference decision.NoFamily = refl
      answers-by reference other = refl

      pub answered-named : (t : Transaction) → IsOneDrug n plan t → answer z (ledger_named n L) (transaction_named n provider date t)
          ≡ answer_named n provider (answer a L t)
      answered-named (Bill b) drug =
          ap (answer_by number (n.prescription provider b.reference)) (decided-named (Bill b) drug)
          ∙ answers-by b.reference (decision_of a L (Bill b))
      answered-named (Reverse v) drug =
          ap (answer_by number (n.prescription provider v.reference)) (decided-named (Reverse v) drug)
          ∙ answers-by v.reference (decision_of a L (Reverse v))
      answered-named (Faulty f) drug = refl

      -- ---- the ledger after it

      after-given : (t : Transaction) (given : Answer) → answer a L t ≡ given
          → after z (ledger_named n L) (transaction_named n provider date t) (answer_named n provider given)
          ≡ ledger_named n (after a L t given)
      after-given (Bill b) (Paid p) is =
          let row : Row = paid_row a b p.number p.pricing in
          let free : item_at key_cmp row_key L.rows row.key ≡ None =
          item_at-free key_cmp key_total row_key L.rows row.key (paid-free a L b p is) in
          let rows = put-named key_cmp key_total row_key (row_named n) (key_named n) (λ r. refl) key-same L.rows row free in
          λ i. record { members = (ledger_named n L).members; rows = sym rows i }
      after-given (Bill b) (Twice p) is = refl
      after-given (Bill b) (Approved p) is = refl
      after-given (Bill b) (Refused p) is = refl
      after-given (Reverse v) (Paid p) is = refl
      after-given (Reverse v) (Twice p) is = refl
      after-given (Reverse v) (Approved p) is =
          let rows = without-named key_cmp key_total row_key (row_named n) (key_named n) (λ r. refl) key-same L.rows
          (key_of a v.reference) rows_rise in
          λ i. record { members = (ledger_named n L).members; rows = rows i }
      after-given (Reverse v) (Refused p) is = refl
      after-given (Faulty f) given is = refl

      pub after-named : (t : Transaction) → IsOneDrug n plan t
          → after z (ledger_named n L) (transaction_named n provider date t)
          (answer z (ledger_named n L) (transaction_named n provider date t))
          ≡ ledger_named n (after a L t (answer a L t))
      after-named t drug =
          ap (after z (ledger_named n L) (transaction_named n provider date t)) (answered-named t drug)
          ∙ after-given t (answer a L t) refl
