-- No batch shows a difference without a claim that was over before its dates, where the plan's period begins after the claim.
use Rattle.std.proofs.Common.{◌≡◌, ℕ, ◌*◌, ◌≤◌, List, Bool, true, false, not, refl, ap, sym, subst, ◌∙◌, inl, inr, Option, Some, None}
use Rattle.std.specs.Prelude.{◌&&◌, ◌==◌, if◌then◌else◌, ◌-ℤ◌, ◌*ℤ◌, int_lt, pos, sum_by}
use Rattle.std.specs.List.{All, filter, list_all, list_any}
use Rattle.std.specs.Ordering.{is_le, is_lt, ordering_reverse}
use Rattle.std.specs.declared.cmp.Ordering.{Ordering}
use Rattle.std.specs.declared.cmp.Ordering.TheVariants.{Less, Equal, Greater}
use Rattle.std.proofs.lemmas.Bool.{and_parts, both_ways, cases_Bool}
use Rattle.std.proofs.lemmas.List.Elements.{All-filter, All-weaker}
use Rattle.std.proofs.Math.Nat.{mul-le-mul_left}
use Rattle.rx_fields.specs.Calendar.{Civil, day_cmp, day_number}
use Rattle.rx_fields.specs.Numbered.{LotParts, Span, is_within}
use Rattle.rx_fields.specs.Order.{key_cmp}
use Rattle.rx_fields.specs.declared.key.Key.{Key}
use Rattle.rx_d0_values.specs.declared.bill.BillParts.{BillParts}
use Rattle.rx_d0_values.specs.declared.reply.Answer.{Answer}
use Rattle.rx_d0_values.specs.declared.reply.Answer.TheVariants.{Paid, Twice, Approved, Refused}
use Rattle.rx_d0_values.specs.declared.reply.Paid.{Paid as PaidParts}
use Rattle.rx_d0_values.specs.declared.transaction.Transaction.{Transaction}
use Rattle.rx_d0_values.specs.declared.transaction.Transaction.TheVariants.{Bill, Reverse, Faulty}
use Rattle.rx_d0_values.specs.declared.transmission.Heard.{Heard as HeardRecord}
use Rattle.rx_sorted.specs.Ascending.{IsAscending, has_key}
use Rattle.rx_sorted.proofs.FilteredPuts.{filter-put, filter-put_other, filter-without, filter-without_other}
use Rattle.rx_sorted.proofs.Filters.{filter_swap}
use Rattle.rx_sorted.proofs.Keys.{Equal-from_is_eq, Less-from_is_lt}
use Rattle.rx_sorted.proofs.Kept.{IsAscending-put, IsAscending-without}
use Rattle.rx_ledger.specs.declared.decision.Decision.TheVariants as decision
use Rattle.rx_ledger.specs.declared.figures.Figures.{Figures}
use Rattle.rx_ledger.specs.declared.member.Member.{Member}
use Rattle.rx_ledger.specs.declared.row.Row.{Row}
use Rattle.rx_ledger.specs.Answers.{Asked, after, answer, answer_by, is_same_claim, is_too_soon, key_of, paid_row}
use Rattle.rx_ledger.specs.Decisions.{if_found, unless_found}
use Rattle.rx_ledger.specs.Fold.{asked}
use Rattle.rx_ledger.specs.Ledger.{Ledger, members_of, row_under, rows_of}
use Rattle.rx_ledger.specs.Members.{is_same, of_family, person_in}
use Rattle.rx_ledger.specs.Plan.{Plan}
use Rattle.rx_ledger.specs.Rows.{claimed_by, row_key}
use Rattle.rx_ledger.specs.Sums.{counted, deductible_paid, paid_by_patient, persons_deductible_paid}
use Rattle.rx_ledger.proofs.Orders.{day_exact, day_total, key_exact, key_total}
use Rattle.rx_books_family.proofs.BookValues.{ledger_path}
use Rattle.rx_books_upkeep.specs.Ageing.{IsDatedFrom, IsFrom, IsSafe, aged, dropped, is_before, is_over}
use Rattle.rx_books_upkeep.proofs.Carried.{Carries}
use Rattle.rx_books_upkeep.proofs.Loads.{every}
use Rattle.rx_books_upkeep.proofs.Thinned.{any_thinned, each_of_filter, false-not, find_thinned, last_fails, none_passed, not_below, sum_thinned, true-not}

-- ---- days

-- what is before a day that isn't after another is before the other
before_too : (a b c : Civil) → is_lt (day_cmp a b) ≡ true → is_le (day_cmp b c) ≡ true → is_lt (day_cmp a c) ≡ true
before_too a b c less le = by (day_cmp b c) refl le
  where
    by : (o : Ordering) → day_cmp b c ≡ o → is_le o ≡ true → is_lt (day_cmp a c) ≡ true
    by Less is h = ap is_lt (day_total.trans a b c (Less-from_is_lt _ less) is)
    by Equal is h = subst (λ d. is_lt (day_cmp a d) ≡ true) (day_exact b c is) less
    by Greater is h = cc

-- what is before a day doesn't come after it
not_after : (a b : Civil) → is_lt (day_cmp a b) ≡ true → is_le (day_cmp b a) ≡ false
not_after a b less = ap is_le (day_total.antisymm b a) ∙ by (day_cmp a b) (Less-from_is_lt _ less)
  where
    by : (o : Ordering) → o ≡ Less → is_le (ordering_reverse o) ≡ false
    by Less h = refl
    by Equal h = cc
    by Greater h = cc

-- a claim of before the period isn't in it
pub outside : (period : Span) (before : Civil) (r : Row) → is_le (day_cmp before period.first) ≡ true → is_before before r ≡ true
    → is_within period r.key.date ≡ false
outside period before r le is =
    ap (λ b. b && is_le (day_cmp r.key.date period.last))
    (not_after r.key.date period.first (before_too r.key.date before period.first is le))

-- ---- a paid claim

-- a billing of before the period isn't paid
never_paid : (number reference : ℕ) (p : PaidParts) (none : Bool) (person : Option Member) (row : Option Row) (same : Row → Bool)
    → answer_by number reference (if none then decision.NoFamily else (unless_found person decision.NoPerson (λ m.
    if_found row (λ r. if same r then decision.SameStands r else decision.OtherStands r) decision.BeforePeriod))) ≡ Paid p → ⊥
never_paid number reference p true person row same paid = cc
never_paid number reference p false None row same paid = cc
never_paid number reference p false (Some m) None same paid = cc
never_paid number reference p false (Some m) (Some r) same paid = elim (cases_Bool (same r)) [
  | inl t ↦ let w = rw t at paid in cc
  | inr f ↦ let w = rw f at paid in cc
]

paid_within : (a : Asked) (L : Ledger) (b : BillParts) (p : PaidParts) → answer a L (Bill b) ≡ Paid p
    → is_lt (day_cmp a.date a.plan.figures.period.first) ≡ false
paid_within a L b p paid = elim (cases_Bool (is_lt (day_cmp a.date a.plan.figures.period.first))) [
  | inl early ↦ absurd (never_paid a.number b.reference p (not (list_any (of_family b.family) L.members))
      (person_in (members_of L b.family) b.person) (row_under L (key_of a b.reference)) (is_same_claim b) (rw early at paid))
  | inr not_early ↦ not_early
]

-- ---- the claims that leave

module _ (before : Civil) where
  abbrev stands_on : Row → Bool
  stands_on r = not (is_before before r)

  -- claims of one fill key are of one date
  one_date : (k : Key) (r : Row) → has_key key_cmp row_key k r ≡ true → r.key ≡ k
  one_date k r same = key_exact r.key k (Equal-from_is_eq _ same)

  module _ (percent : ℕ) (day : Civil) (opening : Ledger) (safe : IsSafe percent (dropped before opening.rows) day) where
    -- the ledgers of a run, in order, in each of which the same claims of before the day stand
    pub record Comes (L : Ledger) : Type 0 where
      pub rise : IsAscending key_cmp row_key L.rows
      pub same : dropped before L.rows ≡ dropped before opening.rows

    module _ (L : Ledger) (is : Comes L) (date : Civil) (from : IsFrom day date) where
      over : All (λ r. is_before before r ≡ true → is_over percent date r ≡ true) L.rows
      over = each_of_filter (is_before before) (is_over percent date) L.rows
          (ap (list_all (is_over percent date)) is.same ∙ safe date from)

      -- nothing dated so names one of them
      unnamed : (k : Key) → k.date ≡ date → All (λ r. has_key key_cmp row_key k r ≡ true → is_before before r ≡ false) L.rows
      unnamed k dated =
          All-weaker (λ r. is_before before r ≡ true → is_over percent date r ≡ true)
          (λ r. has_key key_cmp row_key k r ≡ true → is_before before r ≡ false)
          (λ r left same. elim (cases_Bool (is_before before r)) [
            | inl t ↦
                let on : r.key.date ≡ date = ap (λ (j : Key). j.date) (one_date k r same) ∙ dated in
                let none : int_lt (pos 0) (day_number date -ℤ day_number r.key.date) ≡ false =
                ap (λ d. int_lt (pos 0) (day_number date -ℤ day_number d)) on ∙ none_passed (day_number date) in
                absurd (both_ways _ none (and_parts _ _ (left t)).0)
            | inr f ↦ f
          ]) L.rows over

      row_same : (k : Key) → k.date ≡ date → row_under (aged before L) k ≡ row_under L k
      row_same k dated = find_thinned stands_on (has_key key_cmp row_key k) L.rows
          (All-weaker (λ r. has_key key_cmp row_key k r ≡ true → is_before before r ≡ false)
          (λ r. has_key key_cmp row_key k r ≡ true → stands_on r ≡ true) (λ r h t. ap not (h t)) L.rows (unnamed k dated))

      module _ (family : List ℕ) where
        rows_same : rows_of (aged before L) family ≡ filter stands_on (rows_of L family)
        rows_same = filter_swap (claimed_by family) stands_on L.rows

        module _ (figures : Figures) (few : figures.refill_percent ≤ percent) (b : BillParts) where
          soon_one : (r : Row) → is_over percent date r ≡ true → is_too_soon figures date b r ≡ false
          soon_one r h =
              let passed = (day_number date -ℤ day_number r.key.date) *ℤ pos 100 in
              last_fails (is_same r.person b.person) (r.product == b.product) (is_le (day_cmp r.key.date date)) (int_lt passed (pos (r.days * figures.refill_percent)))
              (not_below passed (r.days * percent) (r.days * figures.refill_percent) (mul-le-mul_left r.days few)
              (false-not _ (and_parts _ _ h).1))

          soon_same : list_any (is_too_soon figures date b) (filter stands_on (rows_of L family))
              ≡ list_any (is_too_soon figures date b) (rows_of L family)
          soon_same = any_thinned stands_on (is_too_soon figures date b) (rows_of L family)
              (All-filter (claimed_by family) (λ r. stands_on r ≡ false → is_too_soon figures date b r ≡ false) L.rows
              (All-weaker (λ r. is_before before r ≡ true → is_over percent date r ≡ true)
              (λ r. stands_on r ≡ false → is_too_soon figures date b r ≡ false)
              (λ r h out. soon_one r (h (true-not _ out))) L.rows over))

    -- no sum of the period counts them
    sum_same : (period : Span) → is_le (day_cmp before period.first) ≡ true → (figure : Row → ℕ) (rows : List Row)
        → sum_by (counted period figure) (filter stands_on rows)
        ≡ sum_by (counted period figure) rows
    sum_same period le figure rows = sum_thinned stands_on (counted period figure) rows
        (every (λ r. stands_on r ≡ false → counted period figure r ≡ 0)
        (λ r out. let no : is_within period r.key.date ≡ false = outside period before r le (true-not _ out) in rw no refl) rows)

    module _ (plan : Plan) (le : is_le (day_cmp before plan.figures.period.first) ≡ true)
        (few : plan.figures.refill_percent ≤ percent) where
      abbrev period : Span
      period = plan.figures.period

      module _ (lot : LotParts) (place : ℕ) (h : HeardRecord) (nth : ℕ) where
        abbrev a : Asked
        a = asked lot plan place h nth

        same_answer : (t : Transaction) (L : Ledger) → Comes L → IsDatedFrom day h t → answer a (aged before L) t ≡ answer a L t
        same_answer (Bill b) L is from =
            let rows = rows_of L b.family in
            rw (
              row_same L is h.date from (key_of a b.reference) refl,
              rows_same L is h.date from b.family,
              soon_same L is h.date from b.family plan.figures few b,
              sum_same period le (persons_deductible_paid b.person) rows,
              sum_same period le paid_by_patient rows,
              sum_same period le deductible_paid rows,
            ) refl
        same_answer (Reverse v) L is from = rw (row_same L is h.date from (key_of a v.reference) refl) refl
        same_answer (Faulty f) L is from = refl

        -- a claim that is paid is none of those
        new_one : (b : BillParts) (p : PaidParts) (L : Ledger) → answer a L (Bill b) ≡ Paid p
            → is_before before (paid_row a b p.number p.pricing) ≡ false
        new_one b p L paid = elim (cases_Bool (is_lt (day_cmp h.date before))) [
          | inl t ↦ absurd (both_ways _ (paid_within a L b p paid) (before_too h.date before period.first t le))
          | inr f ↦ f
        ]

        next_ledger : (t : Transaction) (L : Ledger) (given : Answer) → answer a L t ≡ given → Comes L
            → after a (aged before L) t given ≡ aged before (after a L t given)
        next_ledger (Bill b) L (Paid p) answered is =
            ledger_path (after a (aged before L) (Bill b) (Paid p)) (aged before (after a L (Bill b) (Paid p))) refl
            (sym (filter-put key_cmp key_total row_key stands_on L.rows (paid_row a b p.number p.pricing)
            (ap not (new_one b p L answered)) is.rise))
        next_ledger (Bill b) L (Twice p) answered is = refl
        next_ledger (Bill b) L (Approved p) answered is = refl
        next_ledger (Bill b) L (Refused p) answered is = refl
        next_ledger (Reverse v) L (Paid p) answered is = refl
        next_ledger (Reverse v) L (Twice p) answered is = refl
        next_ledger (Reverse v) L (Approved p) answered is =
            ledger_path (after a (aged before L) (Reverse v) (Approved p)) (aged before (after a L (Reverse v) (Approved p)))
            refl (sym (filter-without key_cmp key_total row_key stands_on L.rows (key_of a v.reference)))
        next_ledger (Reverse v) L (Refused p) answered is = refl
        next_ledger (Faulty f) L given answered is = refl

        comes_after : (t : Transaction) (L : Ledger) (given : Answer) → answer a L t ≡ given → Comes L → IsDatedFrom day h t
            → Comes (after a L t given)
        comes_after (Bill b) L (Paid p) answered is from =
            let r : Row = paid_row a b p.number p.pricing in
            let new : is_before before r ≡ false = new_one b p L answered in
            record {
              rise = IsAscending-put key_cmp key_total row_key L.rows r is.rise;
              same = filter-put_other key_cmp key_total row_key (is_before before) L.rows r new
                  (every (λ s. has_key key_cmp row_key r.key s ≡ true → is_before before s ≡ false)
                  (λ s same. ap (λ (k : Key). is_lt (day_cmp k.date before)) (one_date r.key s same) ∙ new) L.rows)
                  ∙ is.same;
            }
        comes_after (Bill b) L (Twice p) answered is from = is
        comes_after (Bill b) L (Approved p) answered is from = is
        comes_after (Bill b) L (Refused p) answered is from = is
        comes_after (Reverse v) L (Paid p) answered is from = is
        comes_after (Reverse v) L (Twice p) answered is from = is
        comes_after (Reverse v) L (Approved p) answered is from =
            let k : Key = key_of a v.reference in
            record {
              rise = IsAscending-without key_cmp key_total row_key L.rows k is.rise;
              same = filter-without_other key_cmp key_total row_key (is_before before) L.rows k
                  (unnamed L is h.date from k refl) ∙ is.same;
            }
        comes_after (Reverse v) L (Refused p) answered is from = is
        comes_after (Faulty f) L given answered is from = is

      pub carries : (lot : LotParts) → Carries lot plan Comes (IsDatedFrom day) (aged before)
      carries lot = record {
        same = λ place h nth t L is from. same_answer lot place h nth t L is from;
        next = λ place h nth t L is from.
            next_ledger lot place h nth t L (answer (asked lot plan place h nth) L t) refl is;
        comes = λ place h nth t L is from.
            comes_after lot place h nth t L (answer (asked lot plan place h nth) L t) refl is from;
      }
