-- Plumbing: which drugs the terms of a record hold: a place for each of its transactions.
use Rattle.std.specs.Prelude.{ℕ, List, [], Option, None, slice_get, option_and_then}
use Rattle.std.specs.Option.{option_map}
use Rattle.rx_d0_values.specs.declared.transaction.Transaction.{Transaction}
use Rattle.rx_d0_values.specs.declared.transaction.Transaction.TheVariants.{Bill, Reverse, Faulty}
use Rattle.rx_d0_values.specs.declared.transmission.Body.{Body}
use Rattle.rx_d0_values.specs.declared.transmission.Body.TheVariants.{Rejected, Heard}
use Rattle.rx_ledger.specs.declared.drug.Drug.{Drug}
use Rattle.rx_ledger.specs.declared.sheet.Listed.{Listed}
use Rattle.rx_ledger.specs.Plan.{Plan, drug_of}

-- the transactions of a record: none where its header is rejected
abbrev pub transactions_of : Body → List Transaction
transactions_of (Rejected r) = []
transactions_of (Heard h) = h.list

-- a product with what is said of it
abbrev pub listed_as : ℕ → Option Drug → Option Listed
listed_as product said = option_map (λ drug. record { product = product; drug = drug }) said

-- the product that a transaction bills, with what the plan says of it
abbrev pub billed : Plan → Transaction → Option Listed
billed plan (Bill b) = listed_as b.product (drug_of plan b.product)
billed plan (Reverse v) = None
billed plan (Faulty f) = None

-- the same of the transaction at a place of the list, if there is one
abbrev pub billed_at : Plan → List Transaction → ℕ → Option Listed
billed_at plan ts i = option_and_then (billed plan) (slice_get ts i)
