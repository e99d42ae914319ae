-- Meaning: the one text of a reply: a header of 31 bytes, and for each answer GS and its segments.
use Rattle.std.specs.Prelude.{ℕ, List, [], ◌∷◌, ◌++◌, length, replicate, Option, Some, None, pos, neg_ℤ, ◌==◌, if◌then◌else◌, codes}
use Rattle.std.specs.List.{flat_map}
use Rattle.rx_fields.specs.declared.code.Code.{Code}
use Rattle.rx_fields.specs.Amount.{signed_text}
use Rattle.rx_fields.specs.Codes.{code_text}
use Rattle.rx_fields.specs.Digits.{digits_text}
use Rattle.rx_d0_values.specs.declared.echo.EchoParts.{EchoParts}
use Rattle.rx_d0_values.specs.declared.pricing.Amounts.{Amounts}
use Rattle.rx_d0_values.specs.declared.reply.Paid.{Paid}
use Rattle.rx_d0_values.specs.declared.reply.Answer.{Answer}
use Rattle.rx_d0_values.specs.declared.reply.Answer.TheVariants as answer
use Rattle.rx_d0_values.specs.declared.reply.Outcome.{Outcome}
use Rattle.rx_d0_values.specs.declared.reply.Outcome.TheVariants as outcome
use Rattle.rx_d0_values.specs.declared.reply.Reply.{Reply}
use Rattle.rx_d0_values.specs.Priced.{patient_pay, total_paid}

-- FS, id and value
abbrev pub field : List ℕ → List ℕ → List ℕ
field id value = 28 ∷ (id ++ value)

-- SS and the fields, the first of which names the segment
abbrev pub segment : List ℕ → List ℕ → List ℕ
segment name fields = 30 ∷ (field (codes "AM") name ++ fields)

-- ---- segment 21

-- of an answer with an authorization number
abbrev pub number_segment : List ℕ → ℕ → List ℕ
number_segment status number =
    segment (codes "21") (field (codes "AN") status ++ field (codes "F3") (digits_text 15 number))

abbrev pub code_field : Code → List ℕ
code_field code = field (codes "FB") (code_text code)

-- of an answer with reject codes
abbrev pub codes_segment : List Code → List ℕ
codes_segment cs =
    segment (codes "21") (field (codes "AN") (codes "R") ++ field (codes "FA")
    (digits_text 2 (length cs)) ++ flat_map code_field cs)

-- ---- segment 22

abbrev pub reference_segment : ℕ → List ℕ
reference_segment reference =
    segment (codes "22") (field (codes "EM") (codes "1") ++ field (codes "D2") (digits_text 12 reference))

-- only where the reference is known
abbrev pub known_reference : Option ℕ → List ℕ
known_reference None = []
known_reference (Some reference) = reference_segment reference

-- ---- segment 23

abbrev pub amount_field : List ℕ → ℕ → List ℕ
amount_field id cents = field id (signed_text (pos cents))

-- only where it isn't 0
abbrev pub coinsurance_field : ℕ → List ℕ
coinsurance_field cents = if cents == 0 then [] else amount_field (codes "4U") cents

abbrev pub amounts_segment : Amounts → List ℕ
amounts_segment a =
    segment (codes "23") (amount_field (codes "F5") (patient_pay a)
    ++ amount_field (codes "F6") a.ingredient_cost
    ++ amount_field (codes "F7") a.dispensing_fee
    ++ amount_field (codes "F9") (total_paid a)
    ++ amount_field (codes "FH") a.deductible
    ++ amount_field (codes "FI") a.copay
    ++ coinsurance_field a.coinsurance)

-- what was paid, with the sign changed
abbrev pub reversed_segment : ℕ → List ℕ
reversed_segment cents = segment (codes "23") (field (codes "F9") (signed_text (neg_ℤ (pos cents))))

-- ---- answers

abbrev pub paid_text : List ℕ → Paid → List ℕ
paid_text status p = number_segment status p.number ++ reference_segment p.reference ++ amounts_segment p.pricing

abbrev pub answer_text : Answer → List ℕ
answer_text (answer.Paid p) = paid_text (codes "P") p
answer_text (answer.Twice p) = paid_text (codes "D") p
answer_text (answer.Approved a) =
    number_segment (codes "A") a.number ++ reference_segment a.reference ++ reversed_segment a.total_paid
answer_text (answer.Refused r) = codes_segment r.codes ++ known_reference r.reference

-- GS and the answer
abbrev pub group_text : Answer → List ℕ
group_text a = 29 ∷ answer_text a

-- ---- replies

-- the answers: those of a rejected header have all the same codes, and no reference
abbrev pub answers_of : Outcome → List Answer
answers_of (outcome.Rejected r) = replicate r.groups (answer.Refused (record { codes = r.codes; reference = None }))
answers_of (outcome.Heard answers) = answers

-- the header's status
abbrev pub status_of : Outcome → List ℕ
status_of (outcome.Rejected r) = codes "R"
status_of (outcome.Heard answers) = codes "A"

abbrev pub header_text : EchoParts → ℕ → List ℕ → List ℕ
header_text e count status = e.version ++ e.code ++ digits_text 1 count ++ status ++ e.qualifier ++ e.provider ++ e.date

abbrev pub reply_text : Reply → List ℕ
reply_text r =
    header_text r.echo (length (answers_of r.outcome)) (status_of r.outcome) ++ flat_map group_text
    (answers_of r.outcome)
