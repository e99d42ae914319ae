-- Plumbing: what a record is adjudicated on: which of a ledger's books it has to hold.
use Rattle.std.specs.Prelude.{◌≡◌, ℕ, Bool, true, List, Option, Some, None, IfSome}
use Rattle.std.specs.List.{All}
use Rattle.rx_fields.specs.Numbered.{Span}
use Rattle.rx_fields.specs.declared.key.Key.{Key}
use Rattle.rx_d0_values.specs.declared.bill.BillParts.{BillParts}
use Rattle.rx_d0_values.specs.declared.transaction.Reversal.{Reversal}
use Rattle.rx_d0_values.specs.declared.transaction.Transaction.{Transaction}
use Rattle.rx_d0_values.specs.declared.transaction.Transaction.TheVariants.{Bill, Reverse, Faulty}
use Rattle.rx_d0_values.specs.declared.transmission.Body.{Body}
use Rattle.rx_d0_values.specs.declared.transmission.Body.TheVariants.{Rejected, Heard}
use Rattle.rx_ledger.specs.declared.member.MemberKey.{MemberKey}
use Rattle.rx_ledger.specs.Ledger.{Ledger, row_under}
use Rattle.rx_ledger.specs.Named.{key_in}

-- what a basis answers for: the sums of one period, or of any; and these fill keys, members and families
pub record Scope : Type 0 where
  pub period : Option Span
  pub has_key : Key → Bool
  pub has_member : MemberKey → Bool
  pub has_family : List ℕ → Bool

-- everything, as a whole ledger does that sums anew
abbrev pub whole : Scope
whole = record { period = None; has_key = λ k. true; has_member = λ m. true; has_family = λ f. true }

-- the sums of a period can be asked for
abbrev pub HasPeriod : Option Span → Span → Type 0
HasPeriod None period = Unit {0}
HasPeriod (Some own) period = own ≡ period

-- the member that a billing names
abbrev pub billed_member : BillParts → MemberKey
billed_member b = record { family = b.family; person = b.person }

-- the fill key, the member and the family of a billing
pub record HoldsBill (s : Scope) (key_of : ℕ → Key) (b : BillParts) : Type 0 where
  pub key : s.has_key (key_of b.reference) ≡ true
  pub member : s.has_member (billed_member b) ≡ true
  pub family : s.has_family b.family ≡ true

-- the fill key of a reversal, and the family of the row that stands under it
pub record HoldsReversal (s : Scope) (key_of : ℕ → Key) (L : Ledger) (v : Reversal) : Type 0 where
  pub key : s.has_key (key_of v.reference) ≡ true
  pub family : IfSome (row_under L (key_of v.reference)) (λ r. s.has_family r.family ≡ true)

-- what a transaction asks for on a ledger, where references have these fill keys; a faulty one asks for nothing
abbrev pub Holds : Scope → (ℕ → Key) → Ledger → Transaction → Type 0
Holds s key_of L (Bill b) = HoldsBill s key_of b
Holds s key_of L (Reverse v) = HoldsReversal s key_of L v
Holds s key_of L (Faulty f) = Unit {0}

-- what the transactions of a record ask for on the ledger before the record; a rejected header asks for nothing
abbrev pub HoldsRecord : Scope → Ledger → Body → Type 0
HoldsRecord s L (Rejected r) = Unit {0}
HoldsRecord s L (Heard h) = All (Holds s (key_in h) L) h.list
