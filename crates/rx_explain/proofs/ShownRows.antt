-- The claims that an explanation shows stand on the ledger before it.
use Rattle.std.specs.Prelude.{◌==◌, IfSome, filter, if◌then◌else◌}
use Rattle.std.specs.Option.{option_map}
use Rattle.std.specs.List.{All, Contains, fold}
use Rattle.std.specs.Ordering.{is_lt}
use Rattle.std.proofs.Common.{◌≡◌, ℕ, ◌+◌, ◌-◌, Bool, true, false, List, [], ◌∷◌, Option, Some, None, map, take}
use Rattle.std.proofs.Common.{refl, sym, ap, subst, ◌∙◌, inl, inr}
use Rattle.std.proofs.lemmas.List.Elements.{All-contains, All-contains_itself, All-filter, All-head, All-map, All-nil, All-tail}
use Rattle.rx_fields.specs.Calendar.{Civil}
use Rattle.rx_fields.specs.Numbered.{LotParts, Span}
use Rattle.rx_fields.specs.Order.{key_cmp}
use Rattle.rx_fields.specs.declared.key.Key.{Key}
use Rattle.rx_d0_values.specs.declared.bill.BillParts.{BillParts}
use Rattle.rx_d0_values.specs.declared.reply.Answer.{Answer}
use Rattle.rx_d0_values.specs.declared.reply.Answer.TheVariants.{Paid, Twice, Approved, Refused}
use Rattle.rx_d0_values.specs.declared.reply.Approved.{Approved as ApprovedParts}
use Rattle.rx_d0_values.specs.declared.transaction.Reversal.{Reversal}
use Rattle.rx_d0_values.specs.declared.transaction.Transaction.{Transaction}
use Rattle.rx_d0_values.specs.declared.transaction.Transaction.TheVariants.{Bill, Reverse, Faulty}
use Rattle.rx_d0_values.specs.declared.transmission.Body.{Body}
use Rattle.rx_d0_values.specs.declared.transmission.Body.TheVariants.{Rejected, Heard}
use Rattle.rx_d0_values.specs.declared.transmission.Heard.{Heard as HeardRecord}
use Rattle.rx_d0_values.specs.declared.transmission.Transmission.{Transmission}
use Rattle.rx_sorted.specs.Ascending.{IsAscending}
use Rattle.rx_sorted.proofs.Kept.{IsAscending-put, IsAscending-without}
use Rattle.rx_sorted.proofs.LookUps.{item_at-found, item_at-from_contains, item_at-tied}
use Rattle.rx_ledger.specs.declared.decision.Decision.{Decision}
use Rattle.rx_ledger.specs.declared.decision.Decision.TheVariants as decision
use Rattle.rx_ledger.specs.declared.figures.Figures.{Figures}
use Rattle.rx_ledger.specs.declared.row.Row.{Row}
use Rattle.rx_ledger.specs.Answers.{Asked, after, answer, answer_by, key_of, paid_row}
use Rattle.rx_ledger.specs.Decisions.{billing, decision_of, if_found, is_too_soon, reversal, row_of, unless_found}
use Rattle.rx_ledger.specs.Fold.{asked, fold_ledger, ledger_after, ledger_from, ledger_of_body}
use Rattle.rx_ledger.specs.Ledger.{Ledger, row_under, rows_of}
use Rattle.rx_ledger.specs.Plan.{Plan}
use Rattle.rx_ledger.specs.Rows.{claimed_by, row_key}
use Rattle.rx_ledger.proofs.Orders.{key_total}
use Rattle.rx_explain.specs.declared.at.At.{At}
use Rattle.rx_explain.specs.declared.events.Event.{Event}
use Rattle.rx_explain.specs.declared.explanation.Explanation.{Explanation}
use Rattle.rx_explain.specs.declared.traced.Traced.{Traced}
use Rattle.rx_explain.specs.Before.{ledger_at, ledger_before}
use Rattle.rx_explain.specs.Explained.{IsOnLedger}
use Rattle.rx_explain.specs.Shown.{counted_for, fill_cmp, first_with, is_counted, longest_fill, row_in}
use Rattle.rx_explain.specs.Sources.{IsShown, IsTakenBackBy}
use Rattle.rx_explain.specs.Spots.{Spot}
use Rattle.rx_explain.specs.Traces.{traced}

-- ---- a ledger stays in order

abbrev pub IsInOrder : Ledger → Type 0
IsInOrder L = IsAscending key_cmp row_key L.rows

after_in_order : (a : Asked) (L : Ledger) (t : Transaction) (given : Answer) → IsInOrder L → IsInOrder (after a L t given)
after_in_order a L (Bill b) (Paid p) is =
    IsAscending-put key_cmp key_total row_key L.rows (paid_row a b p.number p.pricing) is
after_in_order a L (Bill b) (Twice p) is = is
after_in_order a L (Bill b) (Approved p) is = is
after_in_order a L (Bill b) (Refused p) is = is
after_in_order a L (Reverse v) (Paid p) is = is
after_in_order a L (Reverse v) (Twice p) is = is
after_in_order a L (Reverse v) (Approved p) is = IsAscending-without key_cmp key_total row_key L.rows (key_of a v.reference) is
after_in_order a L (Reverse v) (Refused p) is = is
after_in_order a L (Faulty f) given is = is

module _ (lot : LotParts) (plan : Plan) where
  record_in_order : (place : ℕ) (h : HeardRecord) (nth : ℕ) (ts : List Transaction) (L : Ledger) → IsInOrder L
      → IsInOrder (ledger_from lot plan place h nth ts L)
  record_in_order place h nth [] L is = is
  record_in_order place h nth (t ∷ ts) L is =
      let a = asked lot plan place h nth in
      record_in_order place h (nth + 1) ts (after a L t (answer a L t)) (after_in_order a L t (answer a L t) is)

  body_in_order : (place : ℕ) (body : Body) (L : Ledger) → IsInOrder L → IsInOrder (ledger_of_body lot plan place L body)
  body_in_order place (Rejected r) L is = is
  body_in_order place (Heard h) L is = record_in_order place h 1 h.list L is

  batch_in_order : (place : ℕ) (ts : List Transmission) (L : Ledger) → IsInOrder L → IsInOrder (fold_ledger lot plan place ts L)
  batch_in_order place [] L is = is
  batch_in_order place (t ∷ ts) L is =
      batch_in_order (place + 1) ts (ledger_after lot plan place t L) (body_in_order place t.body L is)

  pub before_in_order : (ts : List Transmission) (opening : Ledger) (place : ℕ) (h : HeardRecord) (nth : ℕ) → IsInOrder opening
      → IsInOrder (ledger_before lot plan ts opening place h nth)
  before_in_order ts opening place h nth is =
      record_in_order place h 1 (take (nth - 1) h.list) (ledger_at lot plan ts opening place)
      (batch_in_order 1 (take (place - 1) ts) opening is)

-- ---- the claim that decided

module _ (L : Ledger) where
  abbrev pub Stands : Row → Type 0
  Stands r = row_under L r.key ≡ Some r

  stands-found : (k : Key) (r : Row) → row_under L k ≡ Some r → Stands r
  stands-found k r is =
      let found = item_at-found key_cmp key_total row_key L.rows k r is in
      item_at-tied key_cmp key_total row_key L.rows r.key k found.1 ∙ is

  -- the row that a decision names, where it names one
  abbrev NamesStanding : Decision → Type 0
  NamesStanding d = IfSome (row_of d) Stands

  chosen : (b : Bool) (row below : Decision) → NamesStanding row → NamesStanding below
      → NamesStanding (if b then row else below)
  chosen true row below first rest = first
  chosen false row below first rest = rest

  unless : {A : Type 0} (o : Option A) (row : Decision) (below : A → Decision) → NamesStanding row
      → ((x : A) → o ≡ Some x → NamesStanding (below x)) → NamesStanding (unless_found o row below)
  unless None row below first rest = first
  unless (Some x) row below first rest = rest x refl

  found : {A : Type 0} (o : Option A) (row : A → Decision) (below : Decision) → ((x : A) → o ≡ Some x → NamesStanding (row x))
      → NamesStanding below → NamesStanding (if_found o row below)
  found None row below first rest = rest
  found (Some x) row below first rest = first x refl

  billing_names : (a : Asked) (b : BillParts) → NamesStanding (billing a L b)
  billing_names a b = search (chosen, unless, found, stands-found) depth 40

  decision_names : (a : Asked) (t : Transaction) → NamesStanding (decision_of a L t)
  decision_names a (Bill b) = billing_names a b
  decision_names a (Reverse v) =
      unless (row_under L (key_of a v.reference)) _ _ tt
      (λ r r_is. let own = stands-found (key_of a v.reference) r r_is in chosen (r.product == v.product) _ _ own own)
  decision_names a (Faulty f) = tt

  -- a reversal that is approved takes back the row under its key
  approved_takes : (a : Asked) (v : Reversal) (r : Row) (p : ApprovedParts) (same : Bool)
      → answer_by a.number v.reference (if same then decision.TakenBack r else decision.OtherProduct r) ≡ Approved p
      → (if same then decision.TakenBack r else decision.OtherProduct r) ≡ decision.TakenBack r
  approved_takes a v r p true approved = refl
  approved_takes a v r p false approved = cc

  pub taken_back_now : (a : Asked) (t : Transaction) (r : Row) → Stands r → IsTakenBackBy a L t r
      → decision_of a L t ≡ decision.TakenBack r
  taken_back_now a t r stands by =
      let v = by.reversal in
      let here : row_under L (key_of a v.reference) ≡ Some r = ap (row_under L) by.names ∙ stands in
      let decided : reversal a L v ≡ (if r.product == v.product then decision.TakenBack r else decision.OtherProduct r) =
      rw here refl in
      let approved : answer_by a.number v.reference (reversal a L v) ≡ Approved by.approved =
      ap (answer a L) (sym by.reverses) ∙ by.answered in
      ap (decision_of a L) by.reverses ∙ decided
      ∙ approved_takes a v r by.approved (r.product == v.product)
      (ap (answer_by a.number v.reference) (sym decided) ∙ approved)

  -- ---- the longest fill

  module _ (in_order : IsInOrder L) where
    all_stand : All Stands L.rows
    all_stand i d within =
        item_at-from_contains key_cmp key_total row_key L.rows _ in_order (All-contains_itself L.rows i d within)

    longer_stands : (f : Figures) (p : List ℕ) (o : Option Row) (r : Row) → IfSome o Stands → Stands r
        → IfSome (first_with (fill_cmp f p) o r) Stands
    longer_stands f p None r before one = one
    longer_stands f p (Some best) r before one = longer_of_two (is_lt (fill_cmp f p r best))
      where
        longer_of_two : (b : Bool) → Stands (if b then r else best)
        longer_of_two true = one
        longer_of_two false = before

    longest_stands : (f : Figures) (p : List ℕ) (rows : List Row) (o : Option Row) → All Stands rows → IfSome o Stands
        → IfSome (fold (first_with (fill_cmp f p)) o rows) Stands
    longest_stands f p [] o all before = before
    longest_stands f p (r ∷ rows) o all before =
        longest_stands f p rows (first_with (fill_cmp f p) o r) (All-tail Stands r rows all)
        (longer_stands f p o r before (All-head Stands r rows all))

    too_soon_stands : (f : Figures) (p : List ℕ) (date : Civil) (b : BillParts) → IfSome (longest_fill f p date L b) Stands
    too_soon_stands f p date b =
        longest_stands f p (filter (is_too_soon f date b) (rows_of L b.family)) None
        (All-filter (is_too_soon f date b) Stands (rows_of L b.family) (All-filter (claimed_by b.family) Stands L.rows all_stand))
        tt

    row_in_stands : (f : Figures) (p : List ℕ) (date : Civil) (t : Transaction) (d : Decision) → NamesStanding d
        → IfSome (row_in f p date L t d) Stands
    row_in_stands f p date (Bill b) decision.TooSoon own = too_soon_stands f p date b
    row_in_stands f p date t d own = own

    counted_stand : (period : Span) (t : Transaction) (d : Decision) → All Stands (counted_for period L t d)
    counted_stand period (Bill b) (decision.Payable p) = All-filter (is_counted period b.family) Stands L.rows all_stand
    counted_stand period t d = All-nil Stands

    -- ---- all that are shown

    module _ (lot : LotParts) (plan : Plan) (events : List Event) (at : At) (s : Spot) where
      abbrev IsTraced : Traced → Type 0
      IsTraced t = (t ≡ traced events at t.row) × Stands t.row

      traced_one : (o : Option Row) (t : Traced) → IfSome o Stands → option_map (traced events at) o ≡ Some t → IsTraced t
      traced_one None t stands is = cc
      traced_one (Some r) t stands is =
          let same : traced events at r ≡ t = cc in
          subst (λ (u : Traced). IsTraced u) same (refl, stands)

      pub shown_stands : (x : Explanation) (t : Traced) → IsOnLedger lot plan L events at s x → IsShown x t → IsTraced t
      shown_stands x t is (inl decided) =
          let a = asked lot plan at.place s.heard at.nth in
          let names : NamesStanding x.decision =
          subst (λ (d : Decision). NamesStanding d) (sym is.decision_is) (decision_names a s.transaction) in
          traced_one (row_in plan.figures s.heard.provider s.heard.date L s.transaction x.decision) t
          (row_in_stands plan.figures s.heard.provider s.heard.date s.transaction x.decision names) (sym is.standing_is ∙ decided)
      shown_stands x t is (inr listed) =
          let rows = counted_for plan.figures.period L s.transaction x.decision in
          let all : All Stands rows = counted_stand plan.figures.period s.transaction x.decision in
          let all_traced : All IsTraced (map (traced events at) rows) =
          All-map IsTraced (traced events at) rows (λ i d within. (refl, all i d within)) in
          All-contains IsTraced (map (traced events at) rows) t all_traced
          (subst (λ (ts : List Traced). Contains ts t) is.counted_are listed)
