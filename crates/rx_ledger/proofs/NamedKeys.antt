-- A batch leaves the members, and the rows under the fill keys that it doesn't name.
use Rattle.std.proofs.Common.{◌≡◌, ℕ, ◌+◌, false, List, [], ◌∷◌, refl, ◌∙◌}
use Rattle.std.proofs.lemmas.Bool.{or_parts}
use Rattle.std.specs.List.{list_any}
use Rattle.rx_fields.specs.Numbered.{LotParts}
use Rattle.rx_fields.specs.Order.{key_cmp}
use Rattle.rx_fields.specs.declared.key.Key.{Key}
use Rattle.rx_d0_values.specs.declared.reply.Answer.{Answer}
use Rattle.rx_d0_values.specs.declared.reply.Answer.TheVariants.{Paid, Twice, Approved, Refused}
use Rattle.rx_d0_values.specs.declared.transaction.Transaction.{Transaction}
use Rattle.rx_d0_values.specs.declared.transaction.Transaction.TheVariants.{Bill, Reverse, Faulty}
use Rattle.rx_d0_values.specs.declared.transmission.Body.{Body}
use Rattle.rx_d0_values.specs.declared.transmission.Body.TheVariants.{Rejected, Heard}
use Rattle.rx_d0_values.specs.declared.transmission.Heard.{Heard as HeardRecord}
use Rattle.rx_d0_values.specs.declared.transmission.Transmission.{Transmission}
use Rattle.rx_sorted.proofs.LookUps.{item_at-put_other, item_at-without_other}
use Rattle.rx_ledger.proofs.Orders.{key_total}
use Rattle.rx_ledger.specs.Answers.{Asked, answer, after, key_of, paid_row}
use Rattle.rx_ledger.specs.Fold.{asked, fold_ledger, ledger_after, ledger_from, ledger_of_body}
use Rattle.rx_ledger.specs.Ledger.{Ledger, row_under}
use Rattle.rx_ledger.specs.Named.{body_names, is_named, names}
use Rattle.rx_ledger.specs.Plan.{Plan}
use Rattle.rx_ledger.specs.Rows.{row_key}

-- ---- the members

members_after : (a : Asked) (L : Ledger) (t : Transaction) (given : Answer) → (after a L t given).members ≡ L.members
members_after a L (Bill b) (Paid p) = refl
members_after a L (Bill b) (Twice p) = refl
members_after a L (Bill b) (Approved p) = refl
members_after a L (Bill b) (Refused p) = refl
members_after a L (Reverse v) (Paid p) = refl
members_after a L (Reverse v) (Twice p) = refl
members_after a L (Reverse v) (Approved p) = refl
members_after a L (Reverse v) (Refused p) = refl
members_after a L (Faulty f) given = refl

module _ (lot : LotParts) (plan : Plan) where
  members_from : (place : ℕ) (h : HeardRecord) (nth : ℕ) (ts : List Transaction) (L : Ledger)
      → (ledger_from lot plan place h nth ts L).members ≡ L.members
  members_from place h nth [] L = refl
  members_from place h nth (t ∷ ts) L =
      let a = asked lot plan place h nth in
      members_from place h (nth + 1) ts (after a L t (answer a L t)) ∙ members_after a L t (answer a L t)

  members_of_body : (place : ℕ) (L : Ledger) (body : Body) → (ledger_of_body lot plan place L body).members ≡ L.members
  members_of_body place L (Rejected r) = refl
  members_of_body place L (Heard h) = members_from place h 1 h.list L

  -- each member stays, and none is new
  pub members_stay : (place : ℕ) (ts : List Transmission) (L : Ledger)
      → (fold_ledger lot plan place ts L).members ≡ L.members
  members_stay place [] L = refl
  members_stay place (t ∷ ts) L = members_stay (place + 1) ts (ledger_after lot plan place t L)
      ∙ members_of_body place L t.body

-- ---- the rows under other fill keys

module _ (lot : LotParts) (plan : Plan) (key : Key) where
  row_after : (place : ℕ) (h : HeardRecord) (nth : ℕ) (L : Ledger) (t : Transaction) (given : Answer)
      → names h key t ≡ false → row_under (after (asked lot plan place h nth) L t given) key ≡ row_under L key
  row_after place h nth L (Bill b) (Paid p) other = item_at-put_other key_cmp key_total row_key L.rows
      (paid_row (asked lot plan place h nth) b p.number p.pricing) key other
  row_after place h nth L (Bill b) (Twice p) other = refl
  row_after place h nth L (Bill b) (Approved p) other = refl
  row_after place h nth L (Bill b) (Refused p) other = refl
  row_after place h nth L (Reverse v) (Paid p) other = refl
  row_after place h nth L (Reverse v) (Twice p) other = refl
  row_after place h nth L (Reverse v) (Approved p) other = item_at-without_other key_cmp key_total row_key L.rows
      (key_of (asked lot plan place h nth) v.reference) key other
  row_after place h nth L (Reverse v) (Refused p) other = refl
  row_after place h nth L (Faulty f) given other = refl

  row_from : (place : ℕ) (h : HeardRecord) (nth : ℕ) (ts : List Transaction) (L : Ledger)
      → list_any (names h key) ts ≡ false → row_under (ledger_from lot plan place h nth ts L) key ≡ row_under L key
  row_from place h nth [] L unnamed = refl
  row_from place h nth (t ∷ ts) L unnamed =
      let a = asked lot plan place h nth in
      let parts = or_parts _ _ unnamed in
      row_from place h (nth + 1) ts (after a L t (answer a L t)) parts.1
      ∙ row_after place h nth L t (answer a L t) parts.0

  row_of_body : (place : ℕ) (L : Ledger) (body : Body) → body_names key body ≡ false
      → row_under (ledger_of_body lot plan place L body) key ≡ row_under L key
  row_of_body place L (Rejected r) unnamed = refl
  row_of_body place L (Heard h) unnamed = row_from place h 1 h.list L unnamed

  -- what stands under a fill key that the batch doesn't name stays
  pub row_stays : (place : ℕ) (ts : List Transmission) (L : Ledger) → is_named key ts ≡ false
      → row_under (fold_ledger lot plan place ts L) key ≡ row_under L key
  row_stays place [] L unnamed = refl
  row_stays place (t ∷ ts) L unnamed =
      let parts = or_parts _ _ unnamed in
      row_stays (place + 1) ts (ledger_after lot plan place t L) parts.1 ∙ row_of_body place L t.body parts.0
