-- Meaning: what one record of a batch names: families with their members and claims, and drugs.
use Rattle.std.specs.Prelude.{ℕ, ◌-◌, Bool, false, List, [], ◌∷◌, ◌++◌, Option, Some, None, filter, nat_eq, replicate}
use Rattle.std.specs.List.{flat_map, list_any}
use Rattle.rx_batch.specs.declared.detail.Detail.{Detail}
use Rattle.rx_d0_values.specs.declared.transaction.Transaction.{Transaction}
use Rattle.rx_d0_values.specs.declared.transaction.Transaction.TheVariants.{Bill, Reverse, Faulty}
use Rattle.rx_d0_values.specs.declared.transmission.Body.{Body}
use Rattle.rx_d0_values.specs.declared.transmission.Body.TheVariants.{Rejected, Heard}
use Rattle.rx_d0_values.specs.declared.transmission.Heard.{Heard as HeardRecord}
use Rattle.rx_ledger.specs.declared.row.Row.{Row}
use Rattle.rx_ledger.specs.Ledger.{Ledger, row_under}
use Rattle.rx_ledger.specs.Members.{is_same}
use Rattle.rx_ledger.specs.Named.{key_in}
use Rattle.rx_ledger.specs.Places.{transactions_of}
use Rattle.rx_ledger.specs.Plan.{Plan}

-- ---- books

-- whose claim it is, if there is one
abbrev pub holder_of : Option Row → List (List ℕ)
holder_of None = []
holder_of (Some r) = r.family ∷ []

-- the families of a transaction: the one that it bills, and the one whose claim stands under its fill key
abbrev pub families_of : HeardRecord → Ledger → Transaction → List (List ℕ)
families_of h L (Bill b) = b.family ∷ holder_of (row_under L (key_in h b.reference))
families_of h L (Reverse v) = holder_of (row_under L (key_in h v.reference))
families_of h L (Faulty f) = []

-- those of a record's transactions; a rejected header has none
abbrev pub families_in : Body → Ledger → List (List ℕ)
families_in (Rejected r) L = []
families_in (Heard h) L = flat_map (families_of h L) h.list

abbrev pub is_one_of : List (List ℕ) → List ℕ → Bool
is_one_of families family = list_any (λ f. is_same family f) families

-- the members and the claims of these families
abbrev pub ledger_of : List (List ℕ) → Ledger → Ledger
ledger_of families L =
    record {
      members = filter (λ m. is_one_of families m.key.family) L.members;
      rows = filter (λ r. is_one_of families r.family) L.rows;
    }

-- what a record's excerpt has of the ledger before it
abbrev pub excerpt_ledger : Body → Ledger → Ledger
excerpt_ledger body L = ledger_of (families_in body L) L

-- ---- plan

-- the transaction bills the product
abbrev pub bills : ℕ → Transaction → Bool
bills product (Bill b) = nat_eq b.product product
bills product (Reverse v) = false
bills product (Faulty f) = false

abbrev pub is_billed : Body → ℕ → Bool
is_billed body product = list_any (bills product) (transactions_of body)

-- the plan's figures, and those of its drugs that the record bills
abbrev pub excerpt_plan : Body → Plan → Plan
excerpt_plan body plan = record plan { drugs = filter (λ l. is_billed body l.product) plan.drugs }

-- ---- batch

-- a detail without a transmission
abbrev pub empty_detail : Detail
empty_detail = record { reference = replicate 10 48; text = [] }

-- the detail at its place, after empty ones
abbrev pub excerpt_details : ℕ → Detail → List Detail
excerpt_details place d = replicate (place - 1) empty_detail ++ d ∷ []
