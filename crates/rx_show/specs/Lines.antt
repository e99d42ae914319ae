-- Text: the lines of `show`: words with a blank between each two, and the line's end.
use Rattle.std.specs.Prelude.{ℕ, ◌+◌, List, [], ◌∷◌, ◌++◌, codes}
use Rattle.std.specs.List.{join_with_byte}
use Rattle.std.specs.Fmt.{decimal}
use Rattle.rx_fields.specs.Calendar.{date_text}
use Rattle.rx_print.specs.CodeList.{code_list}
use Rattle.rx_d0_values.specs.declared.bill.BillParts.{BillParts}
use Rattle.rx_d0_values.specs.declared.transaction.Reversal.{Reversal}
use Rattle.rx_d0_values.specs.declared.transaction.Transaction.{Transaction}
use Rattle.rx_d0_values.specs.declared.transaction.Transaction.TheVariants.{Bill, Reverse, Faulty}
use Rattle.rx_d0_values.specs.declared.transmission.Body.{Body}
use Rattle.rx_d0_values.specs.declared.transmission.Body.TheVariants.{Rejected, Heard}
use Rattle.rx_d0_values.specs.declared.transmission.Heard.{Heard as HeardRecord}
use Rattle.rx_d0_values.specs.declared.transmission.Rejected.{Rejected as RejectedHeader}
use Rattle.rx_d0_values.specs.declared.transmission.Transmission.{Transmission}

-- the words with a blank between each two, and the line's end
abbrev pub line : List (List ℕ) → List ℕ
line words = join_with_byte 32 words ++ 10 ∷ []

-- what a billing says, and a reversal
abbrev pub bill_words : HeardRecord → BillParts → List (List ℕ)
bill_words h b =
    codes "bill" ∷ h.provider ∷ decimal b.reference ∷ date_text h.date ∷ b.family ∷ b.person ∷ []

abbrev pub reversal_words : HeardRecord → Reversal → List (List ℕ)
reversal_words h v = codes "reverse" ∷ h.provider ∷ decimal v.reference ∷ date_text h.date ∷ []

abbrev pub words_of : HeardRecord → Transaction → List (List ℕ)
words_of h (Bill b) = bill_words h b
words_of h (Reverse v) = reversal_words h v
words_of h (Faulty f) = codes "faulty" ∷ code_list f.codes ∷ []

-- the line of the nth transaction of a record, and the lines of its transactions from the nth on
abbrev pub transaction_line : ℕ → HeardRecord → ℕ → Transaction → List ℕ
transaction_line place h nth t = line (decimal place ∷ decimal nth ∷ words_of h t)

abbrev pub transaction_lines : ℕ → HeardRecord → ℕ → List Transaction → List ℕ
transaction_lines place h nth [] = []
transaction_lines place h nth (t ∷ ts) = transaction_line place h nth t ++ transaction_lines place h (nth + 1) ts

-- the line of a record whose header is rejected
abbrev pub rejected_line : ℕ → RejectedHeader → List ℕ
rejected_line place r = line (decimal place ∷ decimal 0 ∷ codes "rejected" ∷ code_list r.codes ∷ [])

-- the lines of the record at a place: one for each transaction, or one for a rejected header
abbrev pub body_lines : ℕ → Body → List ℕ
body_lines place (Rejected r) = rejected_line place r
body_lines place (Heard h) = transaction_lines place h 1 h.list

-- the lines of records in file order, the first of them at this place
abbrev pub lines_from : ℕ → List Transmission → List ℕ
lines_from place [] = []
lines_from place (t ∷ ts) = body_lines place t.body ++ lines_from (place + 1) ts

abbrev pub shown_lines : List Transmission → List ℕ
shown_lines transmissions = lines_from 1 transmissions
