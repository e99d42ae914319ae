-- What a record asks for is held from transaction to transaction.
use Rattle.std.proofs.Common.{◌≡◌, ℕ, true, List, Option, Some, None, get_or, refl, inl, inr}
use Rattle.std.specs.Prelude.{IfSome}
use Rattle.std.specs.List.{All}
use Rattle.std.specs.Ordering.{is_eq}
use Rattle.std.proofs.lemmas.Bool.{cases_Bool}
use Rattle.rx_fields.specs.Order.{key_cmp}
use Rattle.rx_fields.specs.declared.key.Key.{Key}
use Rattle.rx_d0_values.specs.declared.reply.Answer.{Answer}
use Rattle.rx_d0_values.specs.declared.reply.Answer.TheVariants.{Paid, Twice, Approved, Refused}
use Rattle.rx_d0_values.specs.declared.transaction.Transaction.{Transaction}
use Rattle.rx_d0_values.specs.declared.transaction.Transaction.TheVariants.{Bill, Reverse, Faulty}
use Rattle.rx_d0_values.specs.declared.transmission.Body.{Body}
use Rattle.rx_d0_values.specs.declared.transmission.Body.TheVariants.{Rejected, Heard}
use Rattle.rx_sorted.specs.Ascending.{has_key}
use Rattle.rx_sorted.proofs.LookUps.{item_at-put, item_at-without}
use Rattle.rx_ledger.specs.declared.row.Row.{Row}
use Rattle.rx_ledger.specs.Answers.{Asked, after}
use Rattle.rx_ledger.specs.Basis.{Scope, Holds, HoldsRecord, whole}
use Rattle.rx_ledger.specs.Ledger.{Ledger, row_under, with_row, without_row}
use Rattle.rx_ledger.specs.Rows.{row_key}
use Rattle.rx_ledger.proofs.Orders.{key_total}

-- ---- the family of a row

module _ (s : Scope) where
  -- the family of the row is one that is answered for
  abbrev IsOwn : Row → Type 0
  IsOwn r = s.has_family r.family ≡ true

  own-put : (L : Ledger) (r : Row) (k : Key) → IsOwn r → IfSome (row_under L k) IsOwn
      → IfSome (row_under (with_row L r) k) IsOwn
  own-put L r k one own =
      rw (item_at-put key_cmp key_total row_key L.rows r k)
      (elim (cases_Bool (has_key key_cmp row_key k r)) [ inl here ↦ rw here one | inr other ↦ rw other own ])

  own-without : (L : Ledger) (j k : Key) → IfSome (row_under L k) IsOwn → IfSome (row_under (without_row L j) k) IsOwn
  own-without L j k own =
      rw (item_at-without key_cmp key_total row_key L.rows j k)
      (elim (cases_Bool (is_eq (key_cmp j k))) [ inl gone ↦ rw gone tt | inr other ↦ rw other own ])

-- ---- after a transaction

module _ (s : Scope) (key : ℕ → Key) (a : Asked) (L : Ledger) where
  after_own : (t : Transaction) (given : Answer) (k : Key) → Holds s key L t → IfSome (row_under L k) (IsOwn s)
      → IfSome (row_under (after a L t given) k) (IsOwn s)
  after_own (Bill b) (Paid p) k held own = own-put s L _ k held.family own
  after_own (Bill b) (Twice p) k held own = own
  after_own (Bill b) (Approved p) k held own = own
  after_own (Bill b) (Refused p) k held own = own
  after_own (Reverse v) (Paid p) k held own = own
  after_own (Reverse v) (Twice p) k held own = own
  after_own (Reverse v) (Approved p) k held own = own-without s L _ k own
  after_own (Reverse v) (Refused p) k held own = own
  after_own (Faulty f) given k held own = own

  -- what another transaction asks for is held still
  pub held_after : (t : Transaction) (given : Answer) (u : Transaction) → Holds s key L t → Holds s key L u
      → Holds s key (after a L t given) u
  held_after t given (Bill b) held more = more
  held_after t given (Reverse v) held more =
      record { key = more.key; family = after_own t given (key v.reference) held more.family }
  held_after t given (Faulty f) held more = tt

  -- and so is what each of some transactions asks for
  pub all_held_after : (t : Transaction) (given : Answer) (ts : List Transaction) → Holds s key L t
      → All (Holds s key L) ts → All (Holds s key (after a L t given)) ts
  all_held_after t given ts held all = λ i d within. held_after t given (get_or ts i d) held (all i d within)

-- ---- everything

own_whole : (o : Option Row) → IfSome o (λ r. whole.has_family r.family ≡ true)
own_whole None = tt
own_whole (Some r) = refl

pub held_whole : (key : ℕ → Key) (L : Ledger) (t : Transaction) → Holds whole key L t
held_whole key L (Bill b) = record { key = refl; member = refl; family = refl }
held_whole key L (Reverse v) = record { key = refl; family = own_whole (row_under L (key v.reference)) }
held_whole key L (Faulty f) = tt

-- a whole ledger holds whatever a record asks for
pub HoldsRecord-whole : (L : Ledger) (body : Body) → HoldsRecord whole L body
HoldsRecord-whole L (Rejected r) = tt
HoldsRecord-whole L (Heard h) = λ i d within. held_whole _ L _
