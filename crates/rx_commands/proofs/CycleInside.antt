-- The text of a reply holds no STX and no ETX.
use Rattle.std.proofs.Common.{◌≡◌, ℕ, ◌+◌, ◌/◌, ◌%◌, Bool, true, false, not, eqb, List, [], ◌∷◌, ◌++◌, codes, length}
use Rattle.std.proofs.Common.{Option, Some, None, ℤ, pos, neg_ℤ, unsigned_abs, refl, arith, inl, inr}
use Rattle.std.specs.List.{flat_map, list_all}
use Rattle.std.proofs.lemmas.Bool.{and_parts, cases_Bool}
use Rattle.std.proofs.lemmas.Bool.Decides.{nat_tests}
use Rattle.std.proofs.lemmas.List.Elements.{All-nil, All-cons}
use Rattle.rx_text.specs.Bytes.{all_digits, is_digit, is_printable}
use Rattle.rx_fields.specs.declared.code.Code.{Code}
use Rattle.rx_fields.specs.declared.code.Code.TheVariants as code
use Rattle.rx_fields.specs.Amount.{is_negative, last_char, signed_text}
use Rattle.rx_fields.specs.Codes.{code_text}
use Rattle.rx_fields.specs.Digits.{digits_text}
use Rattle.rx_fields.proofs.DigitLaws.{digits_text-all}
use Rattle.rx_batch.specs.Grammar.{IsInside, is_mark}
use Rattle.rx_d0_values.specs.declared.echo.EchoParts.{EchoParts}
use Rattle.rx_d0_values.specs.declared.pricing.Amounts.{Amounts}
use Rattle.rx_d0_values.specs.declared.reply.Answer.{Answer}
use Rattle.rx_d0_values.specs.declared.reply.Answer.TheVariants as answer
use Rattle.rx_d0_values.specs.declared.reply.Outcome.{Outcome}
use Rattle.rx_d0_values.specs.declared.reply.Outcome.TheVariants as outcome
use Rattle.rx_d0_values.specs.declared.reply.Paid.{Paid}
use Rattle.rx_d0_values.specs.declared.reply.Reply.{Reply}
use Rattle.rx_d0_values.specs.Echoed.{IsEcho}
use Rattle.rx_d0_values.specs.Priced.{patient_pay, total_paid}
use Rattle.rx_d0_reply.specs.Limits.{IsReply}
use Rattle.rx_d0_reply.specs.Text.{amount_field, amounts_segment, answer_text, answers_of, code_field, codes_segment}
use Rattle.rx_d0_reply.specs.Text.{coinsurance_field, group_text, header_text, known_reference, number_segment, paid_text}
use Rattle.rx_d0_reply.specs.Text.{reference_segment, reply_text, reversed_segment, status_of}

-- no byte is STX or ETX
abbrev is_clean : List ℕ → Bool
is_clean bytes = list_all (λ b. not (is_mark b)) bytes

one_clean : (b : ℕ) (bs : List ℕ) → not (is_mark b) ≡ true → is_clean bs ≡ true → is_clean (b ∷ bs) ≡ true
one_clean b bs is h = rw is h

joined_clean : (xs ys : List ℕ) → is_clean xs ≡ true → is_clean ys ≡ true → is_clean (xs ++ ys) ≡ true
joined_clean [] ys x y = y
joined_clean (b ∷ bs) ys x y =
    let both = and_parts (not (is_mark b)) (is_clean bs) x in
    one_clean b (bs ++ ys) both.0 (joined_clean bs ys both.1 y)

inside : (bs : List ℕ) → is_clean bs ≡ true → IsInside bs
inside [] is = All-nil (λ (b : ℕ). is_mark b ≡ false)
inside (b ∷ bs) is =
    let both = and_parts (not (is_mark b)) (is_clean bs) is in
    let unmarked : is_mark b ≡ false = elim (cases_Bool (is_mark b)) [
      | inl here ↦ absurd (let h = rw here at both.0 in cc)
      | inr other ↦ other
    ] in
    All-cons (λ (x : ℕ). is_mark x ≡ false) b bs unmarked (inside bs both.1)

-- ---- fields

digit_clean : (b : ℕ) → is_digit b ≡ true → not (is_mark b) ≡ true
digit_clean b is = grind (arith, nat_tests)

digits_clean : (bs : List ℕ) → all_digits bs ≡ true → is_clean bs ≡ true
digits_clean [] is = refl
digits_clean (b ∷ bs) is =
    let both = and_parts (is_digit b) (all_digits bs) is in
    one_clean b bs (digit_clean b both.0) (digits_clean bs both.1)

number_clean : (n x : ℕ) → is_clean (digits_text n x) ≡ true
number_clean n x = digits_clean (digits_text n x) (digits_text-all n x)

printable_clean : (b : ℕ) → is_printable b ≡ true → not (is_mark b) ≡ true
printable_clean b is = grind (arith, nat_tests)

all_printable_clean : (bs : List ℕ) → list_all is_printable bs ≡ true → is_clean bs ≡ true
all_printable_clean [] is = refl
all_printable_clean (b ∷ bs) is =
    let both = and_parts (is_printable b) (list_all is_printable bs) is in
    one_clean b bs (printable_clean b both.0) (all_printable_clean bs both.1)

last_clean : (below : Bool) (d : ℕ) → not (is_mark (last_char below d)) ≡ true
last_clean true d = elim (cases_Bool (eqb d 0)) [
  | inl here ↦ rw here refl
  | inr other ↦ rw other (grind (arith, nat_tests))
]
last_clean false d = elim (cases_Bool (eqb d 0)) [
  | inl here ↦ rw here refl
  | inr other ↦ rw other (grind (arith, nat_tests))
]

amount_clean : (z : ℤ) → is_clean (signed_text z) ≡ true
unfolding signed_text
amount_clean z = joined_clean (digits_text 7 (unsigned_abs z / 10)) (last_char (is_negative z) (unsigned_abs z % 10) ∷ [])
    (number_clean 7 (unsigned_abs z / 10))
    (one_clean (last_char (is_negative z) (unsigned_abs z % 10)) [] (last_clean (is_negative z) (unsigned_abs z % 10)) refl)

code_clean : (c : Code) → is_clean (code_text c) ≡ true
code_clean code.Bin = refl
code_clean other = refl

codes_clean : (cs : List Code) → is_clean (flat_map code_field cs) ≡ true
codes_clean [] = refl
codes_clean (c ∷ cs) = joined_clean (code_text c) (flat_map code_field cs) (code_clean c) (codes_clean cs)

-- ---- answers

number_segment_clean : (status : List ℕ) (n : ℕ) → is_clean status ≡ true → is_clean (number_segment status n) ≡ true
number_segment_clean status n is = joined_clean status (28 ∷ 70 ∷ 51 ∷ digits_text 15 n) is (number_clean 15 n)

codes_segment_clean : (cs : List Code) → is_clean (codes_segment cs) ≡ true
codes_segment_clean cs =
    joined_clean (digits_text 2 (length cs)) (flat_map code_field cs) (number_clean 2 (length cs)) (codes_clean cs)

known_clean : (r : Option ℕ) → is_clean (known_reference r) ≡ true
known_clean None = refl
known_clean (Some reference) = number_clean 12 reference

coinsurance_clean : (cents : ℕ) → is_clean (coinsurance_field cents) ≡ true
coinsurance_clean cents = elim (cases_Bool (eqb cents 0)) [
  | inl here ↦ rw here refl
  | inr other ↦ rw other (amount_clean (pos cents))
]

amount_field_clean : (id : List ℕ) (cents : ℕ) → is_clean id ≡ true → is_clean (amount_field id cents) ≡ true
amount_field_clean id cents is = joined_clean id (signed_text (pos cents)) is (amount_clean (pos cents))

amounts_clean : (a : Amounts) → is_clean (amounts_segment a) ≡ true
amounts_clean a =
    let f5 : List ℕ = amount_field (codes "F5") (patient_pay a) in
    let f6 : List ℕ = amount_field (codes "F6") a.ingredient_cost in
    let f7 : List ℕ = amount_field (codes "F7") a.dispensing_fee in
    let f9 : List ℕ = amount_field (codes "F9") (total_paid a) in
    let fh : List ℕ = amount_field (codes "FH") a.deductible in
    let fi : List ℕ = amount_field (codes "FI") a.copay in
    joined_clean (((((f5 ++ f6) ++ f7) ++ f9) ++ fh) ++ fi) (coinsurance_field a.coinsurance)
    (joined_clean ((((f5 ++ f6) ++ f7) ++ f9) ++ fh) fi
    (joined_clean (((f5 ++ f6) ++ f7) ++ f9) fh
    (joined_clean ((f5 ++ f6) ++ f7) f9
    (joined_clean (f5 ++ f6) f7
    (joined_clean f5 f6
    (amount_field_clean (codes "F5") (patient_pay a) refl)
    (amount_field_clean (codes "F6") a.ingredient_cost refl))
    (amount_field_clean (codes "F7") a.dispensing_fee refl))
    (amount_field_clean (codes "F9") (total_paid a) refl))
    (amount_field_clean (codes "FH") a.deductible refl))
    (amount_field_clean (codes "FI") a.copay refl))
    (coinsurance_clean a.coinsurance)

paid_clean : (status : List ℕ) (p : Paid) → is_clean status ≡ true → is_clean (paid_text status p) ≡ true
paid_clean status p is =
    joined_clean (number_segment status p.number ++ reference_segment p.reference) (amounts_segment p.pricing)
    (joined_clean (number_segment status p.number) (reference_segment p.reference)
    (number_segment_clean status p.number is) (number_clean 12 p.reference))
    (amounts_clean p.pricing)

answer_clean : (a : Answer) → is_clean (answer_text a) ≡ true
answer_clean (answer.Paid p) = paid_clean (codes "P") p refl
answer_clean (answer.Twice p) = paid_clean (codes "D") p refl
answer_clean (answer.Approved a) =
    joined_clean (number_segment (codes "A") a.number ++ reference_segment a.reference) (reversed_segment a.total_paid)
    (joined_clean (number_segment (codes "A") a.number) (reference_segment a.reference)
    (number_segment_clean (codes "A") a.number refl) (number_clean 12 a.reference))
    (amount_clean (neg_ℤ (pos a.total_paid)))
answer_clean (answer.Refused r) =
    joined_clean (codes_segment r.codes) (known_reference r.reference) (codes_segment_clean r.codes) (known_clean r.reference)

groups_clean : (answers : List Answer) → is_clean (flat_map group_text answers) ≡ true
groups_clean [] = refl
groups_clean (a ∷ answers) =
    joined_clean (answer_text a) (flat_map group_text answers) (answer_clean a) (groups_clean answers)

-- ---- a reply

status_clean : (o : Outcome) → is_clean (status_of o) ≡ true
status_clean (outcome.Rejected r) = refl
status_clean (outcome.Heard answers) = refl

header_clean : (e : EchoParts) (count : ℕ) (status : List ℕ) → IsEcho e → is_clean status ≡ true
    → is_clean (header_text e count status) ≡ true
header_clean e count status echo is =
    let version : list_all is_printable e.version ≡ true = grind arith in
    let kind : list_all is_printable e.code ≡ true = grind arith in
    let qualifier : list_all is_printable e.qualifier ≡ true = grind arith in
    let provider : list_all is_printable e.provider ≡ true = grind arith in
    let date : list_all is_printable e.date ≡ true = grind arith in
    let digits : List ℕ = digits_text 1 count in
    joined_clean (((((e.version ++ e.code) ++ digits) ++ status) ++ e.qualifier) ++ e.provider) e.date
    (joined_clean ((((e.version ++ e.code) ++ digits) ++ status) ++ e.qualifier) e.provider
    (joined_clean (((e.version ++ e.code) ++ digits) ++ status) e.qualifier
    (joined_clean ((e.version ++ e.code) ++ digits) status
    (joined_clean (e.version ++ e.code) digits
    (joined_clean e.version e.code (all_printable_clean e.version version) (all_printable_clean e.code kind))
    (number_clean 1 count))
    is)
    (all_printable_clean e.qualifier qualifier))
    (all_printable_clean e.provider provider))
    (all_printable_clean e.date date)

pub reply_inside : (r : Reply) → IsReply r → IsInside (reply_text r)
reply_inside r is =
    let count = length (answers_of r.outcome) in
    inside (reply_text r) (joined_clean (header_text r.echo count (status_of r.outcome))
    (flat_map group_text (answers_of r.outcome))
    (header_clean r.echo count (status_of r.outcome) is.echo.printable (status_clean r.outcome))
    (groups_clean (answers_of r.outcome)))
