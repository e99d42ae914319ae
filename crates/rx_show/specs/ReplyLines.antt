-- Text: the lines of `replies`: words with a blank between each two, and the line's end.
use Rattle.std.specs.Prelude.{ℕ, ◌+◌, List, [], ◌∷◌, ◌++◌, Option, Some, None, codes}
use Rattle.std.specs.List.{flat_map, join_with_byte}
use Rattle.std.specs.Fmt.{decimal}
use Rattle.rx_fields.specs.Digits.{digits_text}
use Rattle.rx_d0_values.specs.declared.echo.EchoParts.{EchoParts}
use Rattle.rx_d0_values.specs.declared.pricing.Amounts.{Amounts}
use Rattle.rx_d0_values.specs.declared.reply.Answer.{Answer}
use Rattle.rx_d0_values.specs.declared.reply.Answer.TheVariants as answer
use Rattle.rx_d0_values.specs.declared.reply.Approved.{Approved}
use Rattle.rx_d0_values.specs.declared.reply.Outcome.{Outcome}
use Rattle.rx_d0_values.specs.declared.reply.Outcome.TheVariants as outcome
use Rattle.rx_d0_values.specs.declared.reply.Paid.{Paid}
use Rattle.rx_d0_values.specs.declared.reply.Refused.{Refused}
use Rattle.rx_d0_values.specs.Priced.{patient_pay, total_paid}
use Rattle.rx_d0_reply.specs.Fault.{fault_code}
use Rattle.rx_print.specs.CodeList.{code_list}
use Rattle.rx_settle.specs.Providers.{named}
use Rattle.rx_show.specs.Lines.{line, rejected_line}
use Rattle.rx_show.specs.declared.responses.found.Found.{Found}
use Rattle.rx_show.specs.declared.responses.found.Found.TheVariants as found

-- a blank and the word
abbrev pub after_blank : List ℕ → List ℕ
after_blank word = 32 ∷ word

-- the pharmacy, which is empty where the reply names none, and the date of service
abbrev pub visit_words : EchoParts → List (List ℕ)
visit_words echo = named echo.provider ∷ echo.date ∷ []

-- F5, F6, F7, F9, FH, FI and 4U, in cents
abbrev pub amount_words : Amounts → List (List ℕ)
amount_words a =
    decimal (patient_pay a) ∷ decimal a.ingredient_cost ∷ decimal a.dispensing_fee ∷ decimal (total_paid a)
    ∷ decimal a.deductible ∷ decimal a.copay ∷ decimal a.coinsurance ∷ []

-- the prescription reference number, where it is known
abbrev pub known_words : Option ℕ → List (List ℕ)
known_words None = []
known_words (Some reference) = decimal reference ∷ []

-- what is said of an answer
abbrev pub paid_words : Paid → List (List ℕ)
paid_words p = decimal p.reference ∷ digits_text 15 p.number ∷ amount_words p.pricing

abbrev pub approved_words : Approved → List (List ℕ)
approved_words a = decimal a.reference ∷ digits_text 15 a.number ∷ decimal a.total_paid ∷ []

abbrev pub refused_words : Refused → List (List ℕ)
refused_words r = code_list r.codes ∷ known_words r.reference

abbrev pub answer_words : EchoParts → Answer → List (List ℕ)
answer_words echo (answer.Paid p) = codes "paid" ∷ (visit_words echo ++ paid_words p)
answer_words echo (answer.Twice p) = codes "duplicate" ∷ (visit_words echo ++ paid_words p)
answer_words echo (answer.Approved a) = codes "approved" ∷ (visit_words echo ++ approved_words a)
answer_words echo (answer.Refused r) = codes "refused" ∷ (visit_words echo ++ refused_words r)

-- the line of the nth answer of the record at a place
abbrev pub answer_line : ℕ → EchoParts → ℕ → Answer → List ℕ
answer_line place echo nth a =
    join_with_byte 32 (decimal place ∷ decimal nth ∷ []) ++ (flat_map after_blank (answer_words echo a) ++ 10 ∷ [])

-- the lines of its answers from the nth on
abbrev pub answer_lines : ℕ → EchoParts → ℕ → List Answer → List ℕ
answer_lines place echo nth [] = []
answer_lines place echo nth (a ∷ more) = answer_line place echo nth a ++ answer_lines place echo (nth + 1) more

-- the lines of a reply: one for each answer, or one for a rejected header
abbrev pub outcome_lines : ℕ → EchoParts → Outcome → List ℕ
outcome_lines place echo (outcome.Rejected r) = rejected_line place r
outcome_lines place echo (outcome.Heard answers) = answer_lines place echo 1 answers

-- the lines of the record at a place
abbrev pub found_lines : ℕ → Found → List ℕ
found_lines place (found.Reply r) = outcome_lines place r.echo r.outcome
found_lines place (found.Unreadable fault) =
    line (decimal place ∷ decimal 0 ∷ codes "unreadable" ∷ decimal (fault_code fault) ∷ [])

-- the lines of records in file order, the first of them at this place
abbrev pub lines_from : ℕ → List Found → List ℕ
lines_from place [] = []
lines_from place (f ∷ fs) = found_lines place f ++ lines_from (place + 1) fs

abbrev pub reply_lines : List Found → List ℕ
reply_lines found = lines_from 1 found
