-- Meaning: the lines of a report: one for each answer, in file order.
use Rattle.std.specs.Prelude.{ℕ, ◌+◌, List, [], ◌∷◌, ◌++◌, Option, Some, None, slice_get}
use Rattle.std.specs.Option.{option_and_then}
use Rattle.rx_d0_values.specs.declared.reply.Answer.{Answer}
use Rattle.rx_d0_values.specs.declared.reply.Reply.{Reply}
use Rattle.rx_d0_values.specs.declared.transaction.Transaction.{Transaction}
use Rattle.rx_d0_values.specs.declared.transaction.Transaction.TheVariants.{Bill, Reverse, Faulty}
use Rattle.rx_d0_values.specs.declared.transmission.Body.{Body}
use Rattle.rx_d0_values.specs.declared.transmission.Body.TheVariants.{Rejected, Heard}
use Rattle.rx_d0_values.specs.declared.transmission.Transmission.{Transmission}
use Rattle.rx_report.specs.declared.line.Dispensed.{Dispensed}
use Rattle.rx_report.specs.declared.line.Line.{Line}
use Rattle.rx_settle.specs.Answers.{answers_in}

-- the family and the person that a transaction names
abbrev pub member_in : Transaction → Option (List ℕ × List ℕ)
member_in (Bill b) = Some (b.family, b.person)
member_in (Reverse r) = None
member_in (Faulty f) = None

-- the product that a transaction names
abbrev pub product_in : Transaction → Option ℕ
product_in (Bill b) = Some b.product
product_in (Reverse r) = Some r.product
product_in (Faulty f) = None

-- how much of it a billing is of, and for how many days
abbrev pub dispensed_in : Transaction → Option Dispensed
dispensed_in (Bill b) = Some (record { quantity = b.quantity; days = b.days })
dispensed_in (Reverse r) = None
dispensed_in (Faulty f) = None

-- the transaction after this many
abbrev pub request_at : Body → ℕ → Option Transaction
request_at (Rejected r) before = None
request_at (Heard h) before = slice_get h.list before

-- the line of the answer after this many to a request
abbrev pub line_of : ℕ → Transmission → Reply → ℕ → Answer → Line
line_of place t r before a =
    record {
      place = place;
      nth = before + 1;
      provider = r.echo.provider;
      date = r.echo.date;
      member = option_and_then member_in (request_at t.body before);
      product = option_and_then product_in (request_at t.body before);
      dispensed = option_and_then dispensed_in (request_at t.body before);
      answer = a;
    }

-- the lines of the answers after this many
abbrev pub answer_lines : ℕ → Transmission → Reply → ℕ → List Answer → List Line
answer_lines place t r before [] = []
answer_lines place t r before (a ∷ more) = line_of place t r before a ∷ answer_lines place t r (before + 1) more

-- the lines of a record; a rejected header has as many as its count
abbrev pub record_lines : ℕ → Transmission → Reply → List Line
record_lines place t r = answer_lines place t r 0 (answers_in r.outcome)

-- the lines of records in file order, the first of them at this place
abbrev pub lines_from : ℕ → List Transmission → List Reply → List Line
lines_from place [] replies = []
lines_from place (t ∷ ts) [] = []
lines_from place (t ∷ ts) (r ∷ rs) = record_lines place t r ++ lines_from (place + 1) ts rs

abbrev pub lines_of : List Transmission → List Reply → List Line
lines_of transmissions replies = lines_from 1 transmissions replies

-- the answer of a line
abbrev pub answer_of : Line → Answer
answer_of l = l.answer
