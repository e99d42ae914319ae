-- Text: the table of `show --tsv`: a heading, and a row for each transaction or rejected header, with a tab between each two
-- cells. What isn't asked stays blank.
use Rattle.std.specs.Prelude.{ℕ, ◌+◌, List, [], ◌∷◌, ◌++◌, Option, Some, None, codes}
use Rattle.std.specs.List.{flat_map, join_with_byte}
use Rattle.std.specs.Fmt.{decimal}
use Rattle.rx_fields.specs.Calendar.{date_text}
use Rattle.rx_fields.specs.Digits.{digits_text}
use Rattle.rx_d0_values.specs.declared.bill.BillParts.{BillParts}
use Rattle.rx_d0_values.specs.declared.transaction.Faulty.{Faulty as FaultyRecord}
use Rattle.rx_d0_values.specs.declared.transaction.Reversal.{Reversal}
use Rattle.rx_d0_values.specs.declared.transaction.Transaction.{Transaction}
use Rattle.rx_d0_values.specs.declared.transaction.Transaction.TheVariants.{Bill, Reverse, Faulty}
use Rattle.rx_d0_values.specs.declared.transmission.Body.{Body}
use Rattle.rx_d0_values.specs.declared.transmission.Body.TheVariants.{Rejected, Heard}
use Rattle.rx_d0_values.specs.declared.transmission.Heard.{Heard as HeardRecord}
use Rattle.rx_d0_values.specs.declared.transmission.Transmission.{Transmission}
use Rattle.rx_print.specs.CodeList.{code_list}

-- a tab and the cell
abbrev pub after_tab : List ℕ → List ℕ
after_tab cell = 9 ∷ cell

-- the names of the columns but the first
abbrev pub names : List (List ℕ)
names =
    codes "nth" ∷ codes "kind" ∷ codes "provider" ∷ codes "prescription" ∷ codes "date" ∷ codes "family" ∷ codes "person"
    ∷ codes "product" ∷ codes "quantity" ∷ codes "days" ∷ codes "D9" ∷ codes "DC" ∷ codes "DQ" ∷ codes "DU"
    ∷ codes "codes" ∷ []

abbrev pub heading : List ℕ
heading = codes "record" ++ (flat_map after_tab names ++ 10 ∷ [])

-- the number, if there is one
abbrev pub known : Option ℕ → List ℕ
known None = []
known (Some n) = decimal n

-- the pharmacy, the prescription and the date of service
abbrev pub key_cells : HeardRecord → Option ℕ → List (List ℕ)
key_cells h reference = h.provider ∷ known reference ∷ date_text h.date ∷ []

-- the product, the quantity in thousandths and the days
abbrev pub measure_cells : BillParts → List (List ℕ)
measure_cells b = digits_text 11 b.product ∷ decimal b.quantity ∷ decimal b.days ∷ []

-- D9, DC, DQ and DU, in cents
abbrev pub charge_cells : BillParts → List (List ℕ)
charge_cells b =
    decimal b.ingredient_cost ∷ known b.dispensing_fee ∷ known b.usual_charge ∷ known b.gross_amount ∷ []

-- both, and no code
abbrev pub asked_cells : BillParts → List (List ℕ)
asked_cells b = measure_cells b ++ (charge_cells b ++ ([] ∷ []))

abbrev pub bill_cells : HeardRecord → BillParts → List (List ℕ)
bill_cells h b = codes "bill" ∷ (key_cells h (Some b.reference) ++ (b.family ∷ b.person ∷ asked_cells b))

abbrev pub reversal_cells : HeardRecord → Reversal → List (List ℕ)
reversal_cells h v =
    codes "reverse" ∷ (key_cells h (Some v.reference)
    ++ ([] ∷ [] ∷ digits_text 11 v.product ∷ [] ∷ [] ∷ [] ∷ [] ∷ [] ∷ [] ∷ [] ∷ []))

abbrev pub faulty_cells : HeardRecord → FaultyRecord → List (List ℕ)
faulty_cells h f =
    codes "faulty" ∷ (key_cells h f.reference
    ++ ([] ∷ [] ∷ [] ∷ [] ∷ [] ∷ [] ∷ [] ∷ [] ∷ [] ∷ code_list f.codes ∷ []))

abbrev pub cells_of : HeardRecord → Transaction → List (List ℕ)
cells_of h (Bill b) = bill_cells h b
cells_of h (Reverse v) = reversal_cells h v
cells_of h (Faulty f) = faulty_cells h f

abbrev pub rejected_cells : List ℕ → List (List ℕ)
rejected_cells why =
    codes "rejected" ∷ [] ∷ [] ∷ [] ∷ [] ∷ [] ∷ [] ∷ [] ∷ [] ∷ [] ∷ [] ∷ [] ∷ [] ∷ why ∷ []

-- the record's place in the batch and the transaction's place in the record, and the other cells
unfoldable pub row : ℕ → ℕ → List (List ℕ) → List ℕ
row place nth cells = join_with_byte 9 (decimal place ∷ decimal nth ∷ []) ++ (flat_map after_tab cells ++ 10 ∷ [])

-- the rows of a record's transactions from the nth on
abbrev pub transaction_rows : ℕ → HeardRecord → ℕ → List Transaction → List ℕ
transaction_rows place h nth [] = []
transaction_rows place h nth (t ∷ ts) = row place nth (cells_of h t) ++ transaction_rows place h (nth + 1) ts

-- the rows of the record at a place: one for each transaction, or one for a rejected header
abbrev pub body_rows : ℕ → Body → List ℕ
body_rows place (Rejected r) = row place 0 (rejected_cells (code_list r.codes))
body_rows place (Heard h) = transaction_rows place h 1 h.list

-- the rows of records in file order, the first of them at this place
abbrev pub rows_from : ℕ → List Transmission → List ℕ
rows_from place [] = []
rows_from place (t ∷ ts) = body_rows place t.body ++ rows_from (place + 1) ts

abbrev pub shown_table : List Transmission → List ℕ
shown_table transmissions = heading ++ rows_from 1 transmissions
