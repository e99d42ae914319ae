-- Meaning: the lists of a transmission and of a reply.
use Rattle.std.specs.Prelude.{◌≡◌, ℕ, Bool, true, false, not, ◌&&◌, nat_le, List, length}
use Rattle.std.specs.List.{list_any}
use Rattle.rx_d0_values.specs.declared.transaction.Transaction.{Transaction}
use Rattle.rx_d0_values.specs.declared.transaction.Transaction.TheVariants.{Bill, Reverse, Faulty}

abbrev pub is_bill : Transaction → Bool
is_bill (Bill b) = true
is_bill (Reverse r) = false
is_bill (Faulty f) = false

abbrev pub is_reversal : Transaction → Bool
is_reversal (Bill b) = false
is_reversal (Reverse r) = true
is_reversal (Faulty f) = false

-- 1 to 4
abbrev pub is_few : ℕ → Bool
is_few n = nat_le 1 n && nat_le n 4

-- 1 to 4 transactions, never a billing with a reversal
abbrev pub are_transactions : List Transaction → Bool
are_transactions ts = is_few (length ts) && not (list_any is_bill ts && list_any is_reversal ts)

abbrev pub AreTransactions : List Transaction → Type 0
AreTransactions ts = are_transactions ts ≡ true
