-- What one transaction does to the row under a fill key, and what is said of it: it pays the row, takes it back or leaves it.
use Rattle.std.proofs.Common.{◌≡◌, ℕ, Bool, true, false, List, [], ◌∷◌, Option, Some, None, refl, sym, ap, ◌∙◌, ◌⊎◌, inl, inr, arith}
use Rattle.std.specs.Prelude.{if◌then◌else◌}
use Rattle.std.specs.List.{find}
use Rattle.std.specs.Ordering.{is_eq}
use Rattle.std.proofs.lemmas.Bool.{cases_Bool}
use Rattle.rx_fields.specs.Numbered.{LotParts}
use Rattle.rx_fields.specs.Order.{key_cmp}
use Rattle.rx_fields.specs.declared.key.Key.{Key}
use Rattle.rx_d0_values.specs.declared.bill.BillParts.{BillParts}
use Rattle.rx_d0_values.specs.declared.reply.Answer.{Answer}
use Rattle.rx_d0_values.specs.declared.reply.Answer.TheVariants.{Paid, Twice, Approved, Refused}
use Rattle.rx_d0_values.specs.declared.reply.Approved.{Approved as ApprovedParts}
use Rattle.rx_d0_values.specs.declared.reply.Paid.{Paid as PaidParts}
use Rattle.rx_d0_values.specs.declared.transaction.Reversal.{Reversal}
use Rattle.rx_d0_values.specs.declared.transaction.Transaction.{Transaction}
use Rattle.rx_d0_values.specs.declared.transaction.Transaction.TheVariants.{Bill, Reverse, Faulty}
use Rattle.rx_d0_values.specs.declared.transmission.Heard.{Heard as HeardRecord}
use Rattle.rx_sorted.proofs.Keys.{Equal-from_is_eq}
use Rattle.rx_sorted.proofs.LookUps.{item_at-put, item_at-put_other, item_at-without, item_at-without_other}
use Rattle.rx_ledger.specs.declared.decision.Decision.{Decision}
use Rattle.rx_ledger.specs.declared.decision.Decision.TheVariants as decision
use Rattle.rx_ledger.specs.declared.row.Row.{Row}
use Rattle.rx_ledger.specs.Answers.{Asked, after, answer, answer_by, paid_row}
use Rattle.rx_ledger.specs.Fold.{asked}
use Rattle.rx_ledger.specs.Decisions.{billing, if_found, reversal, unless_found}
use Rattle.rx_ledger.specs.Ledger.{Ledger, row_under}
use Rattle.rx_ledger.specs.Named.{key_in}
use Rattle.rx_ledger.specs.Plan.{Plan}
use Rattle.rx_ledger.specs.Rows.{row_key}
use Rattle.rx_ledger.proofs.Orders.{key_exact, key_total}
use Rattle.rx_ledger.proofs.PaidShape.{paid_new}
use Rattle.rx_explain.specs.declared.at.At.{At}
use Rattle.rx_explain.specs.declared.events.Change.TheVariants as change
use Rattle.rx_explain.specs.declared.events.Event.{Event}
use Rattle.rx_explain.specs.Sources.{IsPaidBy, IsTakenBackBy}
use Rattle.rx_explain.specs.Traces.{event_of}
use Rattle.rx_explain.proofs.Flattened.{Step, answered, asked_of, events_at, next}

-- ---- only a billing is paid, and only a reversal approved

abbrev pays : Decision → Bool
pays (decision.Payable p) = true
pays _ = false

abbrev takes : Decision → Bool
takes (decision.TakenBack r) = true
takes _ = false

module _ (test : Decision → Bool) where
  chosen : (b : Bool) (row below : Decision) → test row ≡ false → test below ≡ false
      → test (if b then row else below) ≡ false
  chosen true row below first rest = first
  chosen false row below first rest = rest

  unless : {A : Type 0} (o : Option A) (row : Decision) (below : A → Decision) → test row ≡ false
      → ((x : A) → test (below x) ≡ false) → test (unless_found o row below) ≡ false
  unless None row below first rest = first
  unless (Some x) row below first rest = rest x

  found : {A : Type 0} (o : Option A) (row : A → Decision) (below : Decision) → ((x : A) → test (row x) ≡ false)
      → test below ≡ false → test (if_found o row below) ≡ false
  found None row below first rest = rest
  found (Some x) row below first rest = first x

billing_takes_none : (a : Asked) (L : Ledger) (b : BillParts) → takes (billing a L b) ≡ false
billing_takes_none a L b = search (chosen takes, unless takes, found takes) depth 40

reversal_pays_none : (a : Asked) (L : Ledger) (v : Reversal) → pays (reversal a L v) ≡ false
reversal_pays_none a L v = grind arith

module _ (number reference : ℕ) where
  paid_shape : (p : PaidParts) (d : Decision) → answer_by number reference d ≡ Paid p
      → (pays d ≡ true) × (p.reference ≡ reference)
  paid_shape p (decision.Payable payment) paid = (refl, sym (cc))
  paid_shape p other paid = cc

  approved_shape : (p : ApprovedParts) (d : Decision) → answer_by number reference d ≡ Approved p
      → (takes d ≡ true) × (p.reference ≡ reference)
  approved_shape p (decision.TakenBack r) approved = (refl, sym (cc))
  approved_shape p other approved = cc

-- ---- what a transaction does

abbrev pub said : At → Key → List Event
said at k = record { at = at; key = k; change = change.Paid } ∷ []

abbrev pub said_back : At → Key → List Event
said_back at k = record { at = at; key = k; change = change.TakenBack } ∷ []

module _ (lot : LotParts) (plan : Plan) (x : Step) (L : Ledger) (k : Key) where
  pub record PaysUnder : Type 0 where
    pub row : Row
    pub pays : IsPaidBy (asked_of lot plan x) L x.spot.transaction row
    pub was_free : row_under L k ≡ None
    pub now : row_under (next lot plan L x) k ≡ Some row
    pub says : events_at lot plan L x ≡ said x.at k

  pub record TakesUnder : Type 0 where
    pub takes : (r : Row) → r.key ≡ k → IsTakenBackBy (asked_of lot plan x) L x.spot.transaction r
    pub now : row_under (next lot plan L x) k ≡ None
    pub says : events_at lot plan L x ≡ said_back x.at k

  pub record Leaves : Type 0 where
    pub now : row_under (next lot plan L x) k ≡ row_under L k
    pub silent : (test : Event → Bool) → ((e : Event) → is_eq (key_cmp e.key k) ≡ false → test e ≡ false)
        → find test (events_at lot plan L x) ≡ None

  abbrev pub Effect : Type 0
  Effect = PaysUnder ⊎ (TakesUnder ⊎ Leaves)

same_key : (j k : Key) → is_eq (key_cmp j k) ≡ true → j ≡ k
same_key j k same = key_exact j k (Equal-from_is_eq (key_cmp j k) same)

module _ (lot : LotParts) (plan : Plan) (at : At) (h : HeardRecord) (L : Ledger) (k : Key) where
  abbrev of : Transaction → Step
  of t = record { at = at; spot = record { heard = h; transaction = t } }

  abbrev asks : Asked
  asks = asked lot plan at.place h at.nth

  leaves : (t : Transaction) (given : Answer) → answer asks L t ≡ given → after asks L t given ≡ L
      → event_of h at given ≡ [] → Leaves lot plan (of t) L k
  leaves t given is same none = record {
    now = ap (λ M. row_under M k) (ap (after asks L t) is ∙ same);
    silent = λ test other. ap (find test) (ap (event_of h at) is ∙ none);
  }

  billed : (b : BillParts) (p : PaidParts) → answer asks L (Bill b) ≡ Paid p → Effect lot plan (of (Bill b)) L k
  billed b p is =
      let row = paid_row asks b p.number p.pricing in
      let shape = paid_shape asks.number b.reference p (billing asks L b) is in
      let after_it : row_under (next lot plan L (of (Bill b))) k ≡ row_under (after asks L (Bill b) (Paid p)) k =
      ap (λ g. row_under (after asks L (Bill b) g) k) is in
      elim (cases_Bool (is_eq (key_cmp (key_in h b.reference) k))) [
        | inl same ↦
            let key = same_key (key_in h b.reference) k same in
            inl (record {
              row = row;
              pays = record { bill = b; paid = p; bills = refl; answered = is; row_is = refl };
              was_free = ap (row_under L) (sym key) ∙ (paid_new asks L b p is).free;
              now = after_it ∙ item_at-put key_cmp key_total row_key L.rows row k ∙ rw same refl;
              says = ap (event_of h at) is ∙ ap (said at) (ap (key_in h) shape.1 ∙ key);
            })
        | inr other ↦
            let apart : is_eq (key_cmp (key_in h p.reference) k) ≡ false =
            ap (λ n. is_eq (key_cmp (key_in h n) k)) shape.1 ∙ other in
            inr (inr (record {
              now = after_it ∙ item_at-put_other key_cmp key_total row_key L.rows row k other;
              silent = λ test unlike.
                  let fails = unlike (record { at = at; key = key_in h p.reference; change = change.Paid }) apart in
                  ap (find test) (ap (event_of h at) is) ∙ rw fails refl;
            }))
      ]

  reversed : (v : Reversal) (p : ApprovedParts) → answer asks L (Reverse v) ≡ Approved p → Effect lot plan (of (Reverse v)) L k
  reversed v p is =
      let shape = approved_shape asks.number v.reference p (reversal asks L v) is in
      let after_it : row_under (next lot plan L (of (Reverse v))) k ≡ row_under (after asks L (Reverse v) (Approved p)) k =
      ap (λ g. row_under (after asks L (Reverse v) g) k) is in
      elim (cases_Bool (is_eq (key_cmp (key_in h v.reference) k))) [
        | inl same ↦
            let key = same_key (key_in h v.reference) k same in
            inr (inl (record {
              takes = λ r key_is. record {
                reversal = v;
                approved = p;
                reverses = refl;
                answered = is;
                names = key ∙ sym key_is;
              };
              now = after_it ∙ item_at-without key_cmp key_total row_key L.rows (key_in h v.reference) k ∙ rw same refl;
              says = ap (event_of h at) is ∙ ap (said_back at) (ap (key_in h) shape.1 ∙ key);
            }))
        | inr other ↦
            let apart : is_eq (key_cmp (key_in h p.reference) k) ≡ false =
            ap (λ n. is_eq (key_cmp (key_in h n) k)) shape.1 ∙ other in
            inr (inr (record {
              now = after_it ∙ item_at-without_other key_cmp key_total row_key L.rows (key_in h v.reference) k other;
              silent = λ test unlike.
                  let fails = unlike (record { at = at; key = key_in h p.reference; change = change.TakenBack }) apart in
                  ap (find test) (ap (event_of h at) is) ∙ rw fails refl;
            }))
      ]

  not_both : (b : Bool) → b ≡ false → b ≡ true → ⊥
  not_both b fails passes = let e : false ≡ true = sym fails ∙ passes in cc

  effect_of : (t : Transaction) (given : Answer) → answer asks L t ≡ given → Effect lot plan (of t) L k
  effect_of (Bill b) (Paid p) is = billed b p is
  effect_of (Bill b) (Twice p) is = inr (inr (leaves (Bill b) (Twice p) is refl refl))
  effect_of (Bill b) (Approved p) is = absurd
      (not_both (takes (billing asks L b)) (billing_takes_none asks L b)
      (approved_shape asks.number b.reference p (billing asks L b) is).0)
  effect_of (Bill b) (Refused p) is = inr (inr (leaves (Bill b) (Refused p) is refl refl))
  effect_of (Reverse v) (Paid p) is = absurd
      (not_both (pays (reversal asks L v)) (reversal_pays_none asks L v)
      (paid_shape asks.number v.reference p (reversal asks L v) is).0)
  effect_of (Reverse v) (Twice p) is = inr (inr (leaves (Reverse v) (Twice p) is refl refl))
  effect_of (Reverse v) (Approved p) is = reversed v p is
  effect_of (Reverse v) (Refused p) is = inr (inr (leaves (Reverse v) (Refused p) is refl refl))
  effect_of (Faulty f) given is = inr (inr (record { now = refl; silent = λ test unlike. refl }))

pub effect : (lot : LotParts) (plan : Plan) (x : Step) (L : Ledger) (k : Key) → Effect lot plan x L k
effect lot plan x L k = effect_of lot plan x.at x.spot.heard L k x.spot.transaction (answered lot plan L x) refl
