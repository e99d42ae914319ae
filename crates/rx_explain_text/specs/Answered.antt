-- Text: the line that says the answer and the pharmacy.
use Rattle.std.specs.Prelude.{ℕ, List, [], ◌∷◌, ◌++◌, Option, Some, None, codes, length}
use Rattle.std.specs.Fmt.{decimal}
use Rattle.rx_d0_values.specs.declared.bill.BillParts.{BillParts}
use Rattle.rx_d0_values.specs.declared.reply.Answer.{Answer}
use Rattle.rx_d0_values.specs.declared.reply.Answer.TheVariants.{Paid, Twice, Approved, Refused}
use Rattle.rx_d0_values.specs.declared.transaction.Transaction.{Transaction}
use Rattle.rx_d0_values.specs.declared.transaction.Transaction.TheVariants.{Bill, Reverse, Faulty}
use Rattle.rx_ledger.specs.declared.decision.Decision.{Decision}
use Rattle.rx_ledger.specs.declared.decision.Decision.TheVariants as decision
use Rattle.rx_explain.specs.declared.explanation.Explanation.{Explanation}
use Rattle.rx_explain_text.specs.Claims.{at_text, whose_member}
use Rattle.rx_explain_text.specs.Codes.{named_code, shown}
use Rattle.rx_print.specs.Dates.{dashed}
use Rattle.rx_print.specs.Money.{thousandths_text}
use Rattle.rx_explain_text.specs.Said.{said, say}
use Rattle.rx_fields.specs.Digits.{digits_text}
use Rattle.rx_fields.specs.declared.code.Code.{Code}

-- the code of a refusal with its name, or how many codes a transaction has that can't be read
unfoldable pub refused_for : Code → List ℕ
refused_for c = say "REFUSED " ++ named_code c

unfoldable pub refused_count : ℕ → List ℕ
refused_count count = say "REFUSED " ++ (decimal count ++ say " codes")

abbrev pub refused_text : List Code → List ℕ
refused_text [] = refused_count 0
refused_text (c ∷ []) = refused_for c
refused_text (c ∷ d ∷ more) = refused_count (length (c ∷ d ∷ more))

-- with the 15 digits of an authorization number
unfoldable pub numbered_text : List ℕ → ℕ → List ℕ
numbered_text words number = said words ++ digits_text 15 number

abbrev pub answer_text : Answer → List ℕ
answer_text (Paid p) = numbered_text (codes "PAID ") p.number
answer_text (Twice p) = numbered_text (codes "DUPLICATE of ") p.number
answer_text (Approved a) = numbered_text (codes "TAKEN BACK ") a.number
answer_text (Refused r) = refused_text r.codes

-- the prescription reference number, where it is known
abbrev pub rx_text : Option ℕ → List ℕ
rx_text None = []
rx_text (Some reference) = say "  rx " ++ decimal reference

abbrev pub reference_of : Transaction → Option ℕ
reference_of (Bill b) = Some b.reference
reference_of (Reverse v) = Some v.reference
reference_of (Faulty f) = f.reference

abbrev pub member_text : List ℕ → List ℕ → List ℕ
member_text family person = whose_member (codes "  family ") (codes ", person ") family person

-- the 11 digits of a product
unfoldable pub product_said : ℕ → List ℕ
product_said product = say "  product " ++ digits_text 11 product

-- what is dispensed
unfoldable pub supply_said : BillParts → List ℕ
supply_said b =
    product_said b.product ++ (say ", quantity " ++ (thousandths_text b.quantity ++ (say ", days " ++ decimal b.days)))

-- who a billing is for, and of what
unfoldable pub billed_text : BillParts → List ℕ
billed_text b = member_text b.family b.person ++ supply_said b

-- the family and the person of the claim that is taken back
abbrev pub taken_from : Decision → List ℕ
taken_from (decision.TakenBack r) = member_text r.family r.person
taken_from other = []

unfoldable pub reversed_text : ℕ → Decision → List ℕ
reversed_text product c = taken_from c ++ product_said product

abbrev pub whose_text : Transaction → Decision → List ℕ
whose_text (Bill b) c = billed_text b
whose_text (Reverse v) c = reversed_text v.product c
whose_text (Faulty f) c = taken_from c

unfoldable pub answered_line : Explanation → List ℕ
answered_line e =
    say "record " ++ (at_text e.at ++ (say "  " ++ (answer_text e.answer ++ (say "  pharmacy " ++ (shown e.provider
    ++ (rx_text (reference_of e.transaction) ++ (say "  " ++ (dashed e.date ++ (whose_text e.transaction e.decision
    ++ say "\n")))))))))
