-- No accumulator passes its limit by adjudication: what a paid claim counts is at most what is left.
use Rattle.std.proofs.Common.{◌≡◌, ℕ, ◌+◌, ◌-◌, ◌≤◌, true, List, [], ◌∷◌, Option, Some, None, refl, sym, subst, ◌∙◌, inl, inr, arith}
use Rattle.std.specs.Prelude.{Bool, max, min, filter, not}
use Rattle.std.specs.List.{sum_by}
use Rattle.std.proofs.lemmas.Bool.{cases_Bool}
use Rattle.std.proofs.lemmas.List.Sums.{sum_by-cons}
use Rattle.rx_fields.specs.Numbered.{LotParts, Span, is_within}
use Rattle.rx_fields.specs.Order.{key_cmp}
use Rattle.rx_d0_values.specs.Priced.{patient_pay}
use Rattle.rx_d0_values.specs.declared.bill.BillParts.{BillParts}
use Rattle.rx_d0_values.specs.declared.reply.Answer.{Answer}
use Rattle.rx_d0_values.specs.declared.reply.Answer.TheVariants.{Paid, Twice, Approved, Refused}
use Rattle.rx_d0_values.specs.declared.reply.Paid.{Paid as PaidParts}
use Rattle.rx_d0_values.specs.declared.transaction.Transaction.{Transaction}
use Rattle.rx_d0_values.specs.declared.transaction.Transaction.TheVariants.{Bill, Reverse, Faulty}
use Rattle.rx_d0_values.specs.declared.transmission.Body.{Body}
use Rattle.rx_d0_values.specs.declared.transmission.Body.TheVariants.{Rejected, Heard}
use Rattle.rx_d0_values.specs.declared.transmission.Heard.{Heard as HeardRecord}
use Rattle.rx_d0_values.specs.declared.transmission.Transmission.{Transmission}
use Rattle.rx_sorted.specs.Ascending.{IsAscending, has_key}
use Rattle.rx_sorted.proofs.FilteredPuts.{filter-put, filter-put_free}
use Rattle.rx_sorted.proofs.Kept.{IsAscending-put, IsAscending-without}
use Rattle.rx_sorted.proofs.Keys.{Equal-from_is_eq}
use Rattle.rx_sorted.proofs.LookUps.{item_at-filter_none}
use Rattle.rx_sorted.proofs.Totals.{sum_by-put_free}
use Rattle.rx_ledger.specs.declared.drug.Drug.{Drug}
use Rattle.rx_ledger.specs.declared.drug.Share.{Share}
use Rattle.rx_ledger.specs.declared.drug.Share.TheVariants.{Copay, Percent}
use Rattle.rx_ledger.specs.declared.figures.Figures.{Figures}
use Rattle.rx_ledger.specs.declared.row.Row.{Row}
use Rattle.rx_ledger.specs.declared.share.Used.{Used}
use Rattle.rx_ledger.specs.Answers.{Asked, after, answer, key_of, paid_row, priced, used_by}
use Rattle.rx_ledger.specs.Fold.{asked, fold_ledger, ledger_after, ledger_from, ledger_of_body}
use Rattle.rx_ledger.specs.Ledger.{Ledger, rows_of}
use Rattle.rx_ledger.specs.Members.{is_same}
use Rattle.rx_ledger.specs.Plan.{Plan}
use Rattle.rx_ledger.specs.Price.{Allowance, allowance}
use Rattle.rx_ledger.specs.Rows.{claimed_by, row_key}
use Rattle.rx_ledger.specs.Share.{copay_of, coinsurance_of, left, shared, under_deductible}
use Rattle.rx_ledger.specs.Sums.{counted, deductible_in, deductible_paid, paid_by_patient, persons_deductible_paid}
use Rattle.rx_ledger.proofs.Orders.{id_exact, key_total}
use Rattle.rx_ledger.proofs.PaidShape.{IsPaidNew, paid_new}

-- ---- the share of one claim

-- copay and coinsurance together are within the room
share_within : (share : Share) (rest room : ℕ) → copay_of share rest room + coinsurance_of share rest room ≤ room
share_within (Copay cents) rest room = omega arith
share_within (Percent percent) rest room = omega arith

-- the patient pays at most what is left of the family's maximum
patient_within : (f : Figures) (share : Share) (used : Used) (a : Allowance)
    → patient_pay (shared f share used a) ≤ f.family_maximum - used.out_of_pocket
patient_within f share used a =
    let under = under_deductible f used (a.ingredient_cost + a.dispensing_fee) in
    let room = left f.family_maximum used.out_of_pocket in
    let paid = share_within share (a.ingredient_cost + a.dispensing_fee - under) (room - min under room) in
    omega (arith, paid)

-- what falls under the deductible is at most what is left of it, the member's and the family's
under_within : (f : Figures) (used : Used) (allowed : ℕ) (family : Option ℕ) → f.family_deductible ≡ family
    → under_deductible f used allowed ≤ f.member_deductible - used.deductible
under_within f used allowed None is = rw is (omega arith)
under_within f used allowed (Some figure) is = rw is (omega arith)

under_family : (f : Figures) (used : Used) (allowed limit : ℕ) → f.family_deductible ≡ Some limit
    → under_deductible f used allowed ≤ limit - used.family_deductible
under_family f used allowed limit is = rw is (omega arith)

-- ---- what a paid claim counts

-- what a billing is allowed under a drug
abbrev allowed_by : Figures → Drug → BillParts → ℕ
allowed_by f drug b =
    (allowance drug.price f.fee b).ingredient_cost + (allowance drug.price f.fee b).dispensing_fee

-- the same person
same_person : (p q : List ℕ) → is_same p q ≡ true → p ≡ q
same_person p q same = id_exact p q (Equal-from_is_eq _ same)

-- whatever drug is billed, and on whatever rows: what the claim counts is at most what they leave of the limit
pub record IsBounded (f : Figures) (figure : Row → ℕ) (limit : ℕ) : Type 0 where
  pub claim : (drug : Drug) (b : BillParts) (r : Row) (rows : List Row) → r.person ≡ b.person
      → r.pricing ≡ priced f drug b rows → figure r ≤ limit - sum_by (counted f.period figure) rows

pub pocket_bounded : (f : Figures) → IsBounded f paid_by_patient f.family_maximum
pocket_bounded f = record {
  claim = λ drug b r rows person is. rw is (patient_within f drug.share _ _);
}

pub family_bounded : (f : Figures) (limit : ℕ) → f.family_deductible ≡ Some limit → IsBounded f deductible_paid limit
family_bounded f limit there = record {
  claim = λ drug b r rows person is. rw is (omega (arith, under_family f (used_by f b.person rows) (allowed_by f drug b) limit there));
}

member_claim : (f : Figures) (person : List ℕ) (drug : Drug) (b : BillParts) (r : Row) (rows : List Row)
    → r.person ≡ b.person → r.pricing ≡ priced f drug b rows
    → persons_deductible_paid person r ≤ f.member_deductible - sum_by (counted f.period (persons_deductible_paid person)) rows
member_claim f person drug b r rows own is = elim (cases_Bool (is_same r.person person)) [
  | inl same ↦
      let one : b.person ≡ person = sym own ∙ same_person r.person person same in
      let under = under_within f (used_by f b.person rows) (allowed_by f drug b) f.family_deductible refl in
      let within : deductible_paid r ≤ f.member_deductible - deductible_in f.period rows b.person = rw is (omega (arith, under)) in
      rw same (subst (λ q. deductible_paid r ≤ f.member_deductible - deductible_in f.period rows q) one within)
  | inr other ↦ rw other (omega arith)
]

pub member_bounded : (f : Figures) (person : List ℕ) → IsBounded f (persons_deductible_paid person) f.member_deductible
member_bounded f person = record { claim = member_claim f person }

-- ---- one row more, rows less

-- fewer rows sum to no more
sum_by-fewer : (g : Row → ℕ) (p q : Row → Bool) (rows : List Row)
    → sum_by g (filter p (filter q rows)) ≤ sum_by g (filter p rows)
sum_by-fewer g p q [] = omega arith
sum_by-fewer g p q (r ∷ rs) =
    let rest = sum_by-fewer g p q rs in
    elim (cases_Bool (q r)) [
      | inl kept ↦ elim (cases_Bool (p r)) [
        | inl own ↦ rw (kept, own) (omega (arith, rest, sum_by-cons g r (filter p (filter q rs)), sum_by-cons g r (filter p rs)))
        | inr other ↦ rw (kept, other) rest
      ]
      | inr dropped ↦ elim (cases_Bool (p r)) [
        | inl own ↦ rw (dropped, own) (omega (arith, rest, sum_by-cons g r (filter p rs)))
        | inr other ↦ rw (dropped, other) rest
      ]
    ]

counted-most : (period : Span) (g : Row → ℕ) (r : Row) → counted period g r ≤ g r
counted-most period g r = elim (cases_Bool (is_within period r.key.date)) [ inl t ↦ rw t (omega arith) | inr f ↦ rw f (omega arith) ]

-- what a family's rows count
abbrev pub total : Span → (Row → ℕ) → List ℕ → Ledger → ℕ
total period g family L = sum_by (counted period g) (rows_of L family)

module _ (lot : LotParts) (plan : Plan) (g : Row → ℕ) (limit : ℕ) (bounded : IsBounded plan.figures g limit) (family : List ℕ) where
  abbrev counts : Row → ℕ
  counts = counted plan.figures.period g

  abbrev sum_of : Ledger → ℕ
  sum_of L = total plan.figures.period g family L

  abbrev Rises : Ledger → Type 0
  Rises L = IsAscending key_cmp row_key L.rows

  -- a paid claim of the family, or of another
  after-paid : (a : Asked) → a.plan ≡ plan → (L : Ledger) (b : BillParts) (p : PaidParts) → Rises L
      → IsPaidNew a L b p
      → sum_of (after a L (Bill b) (Paid p)) ≤ max limit (sum_of L)
  after-paid a same L b p rise new =
      let r : Row = paid_row a b p.number p.pricing in
      elim (cases_Bool (claimed_by family r)) [
        | inl own ↦
            let one : b.family ≡ family = same_person b.family family own in
            let free = item_at-filter_none key_cmp key_total row_key (claimed_by family) L.rows r.key rise new.free in
            let put_in = filter-put key_cmp key_total row_key (claimed_by family) L.rows r own rise in
            let more = sum_by-put_free key_cmp key_total row_key counts (rows_of L family) r free in
            let amounts : p.pricing ≡ priced plan.figures new.drug b (rows_of L family) =
            subst (λ f. p.pricing ≡ priced plan.figures new.drug b (rows_of L f)) one
            (subst (λ (q : Plan). p.pricing ≡ priced q.figures new.drug b (rows_of L b.family)) same new.amounts) in
            let claim = bounded.claim new.drug b r (rows_of L family) refl amounts in
            rw put_in (omega (arith, more, claim, counted-most plan.figures.period g r))
        | inr other ↦
            let unseen = filter-put_free key_cmp key_total row_key (claimed_by family) L.rows r other new.free in
            rw unseen (omega arith)
      ]

  after-one : (a : Asked) → a.plan ≡ plan → (L : Ledger) (t : Transaction) (given : Answer) → Rises L → answer a L t ≡ given
      → sum_of (after a L t given) ≤ max limit (sum_of L)
  after-one a same L (Bill b) (Paid p) rise is = after-paid a same L b p rise (paid_new a L b p is)
  after-one a same L (Bill b) (Twice p) rise is = omega arith
  after-one a same L (Bill b) (Approved p) rise is = omega arith
  after-one a same L (Bill b) (Refused p) rise is = omega arith
  after-one a same L (Reverse v) (Paid p) rise is = omega arith
  after-one a same L (Reverse v) (Twice p) rise is = omega arith
  after-one a same L (Reverse v) (Approved p) rise is =
      let fewer = sum_by-fewer counts (claimed_by family) (λ r. not (has_key key_cmp row_key (key_of a v.reference) r)) L.rows in
      omega (arith, fewer)
  after-one a same L (Reverse v) (Refused p) rise is = omega arith
  after-one a same L (Faulty f) given rise is = omega arith

  rises-after : (a : Asked) (L : Ledger) (t : Transaction) (given : Answer) → Rises L → Rises (after a L t given)
  rises-after a L (Bill b) (Paid p) rise =
      IsAscending-put key_cmp key_total row_key L.rows (paid_row a b p.number p.pricing) rise
  rises-after a L (Bill b) (Twice p) rise = rise
  rises-after a L (Bill b) (Approved p) rise = rise
  rises-after a L (Bill b) (Refused p) rise = rise
  rises-after a L (Reverse v) (Paid p) rise = rise
  rises-after a L (Reverse v) (Twice p) rise = rise
  rises-after a L (Reverse v) (Approved p) rise =
      IsAscending-without key_cmp key_total row_key L.rows (key_of a v.reference) rise
  rises-after a L (Reverse v) (Refused p) rise = rise
  rises-after a L (Faulty f) given rise = rise

  -- the sum stays within, and the rows in order
  record StaysWithin (before after : Ledger) : Type 0 where
    within : sum_of after ≤ max limit (sum_of before)
    rises : Rises after

  stays-from : (place : ℕ) (h : HeardRecord) (nth : ℕ) (ts : List Transaction) (L : Ledger) → Rises L
      → StaysWithin L (ledger_from lot plan place h nth ts L)
  stays-from place h nth [] L rise = record { within = omega arith; rises = rise }
  stays-from place h nth (t ∷ ts) L rise =
      let a = asked lot plan place h nth in
      let M = after a L t (answer a L t) in
      let one = after-one a refl L t (answer a L t) rise refl in
      let rest = stays-from place h (nth + 1) ts M (rises-after a L t (answer a L t) rise) in
      record { within = omega (arith, one, rest.within); rises = rest.rises }

  stays-record : (place : ℕ) (L : Ledger) (body : Body) → Rises L → StaysWithin L (ledger_of_body lot plan place L body)
  stays-record place L (Rejected r) rise = record { within = omega arith; rises = rise }
  stays-record place L (Heard h) rise = stays-from place h 1 h.list L rise

  pub stays_within : (place : ℕ) (ts : List Transmission) (L : Ledger) → Rises L
      → sum_of (fold_ledger lot plan place ts L) ≤ max limit (sum_of L)
  stays_within place [] L rise = omega arith
  stays_within place (t ∷ ts) L rise =
      let one = stays-record place L t.body rise in
      let rest = stays_within (place + 1) ts (ledger_after lot plan place t L) one.rises in
      omega (arith, one.within, rest)
