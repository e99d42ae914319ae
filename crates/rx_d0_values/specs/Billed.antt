-- Meaning: the charge that a billing states.
use Rattle.std.specs.Prelude.{◌≡◌, ℕ, Bool, true, ◌||◌, is_some, if◌then◌else◌, Option, Some, None, unwrap_or}
use Rattle.rx_d0_values.specs.declared.bill.BillParts.{BillParts}

-- the usual and customary charge or the gross amount due is there
abbrev pub is_charged : BillParts → Bool
is_charged b = is_some b.usual_charge || is_some b.gross_amount

abbrev pub IsCharged : BillParts → Type 0
IsCharged b = is_charged b ≡ true

-- the billing, where it states a charge
abbrev pub bill_of : BillParts → Option BillParts
bill_of b = if is_charged b then Some b else None

-- the usual and customary charge, or the gross amount due where that is absent
abbrev pub cap : BillParts → ℕ
cap b = unwrap_or b.usual_charge (unwrap_or b.gross_amount 0)
