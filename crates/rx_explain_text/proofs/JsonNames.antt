-- Words of an explanation that stand in JSON as they are.
use Rattle.std.proofs.Common.{◌≡◌, ℕ, zero, suc, Bool, true, false, ◌&&◌, not, List, [], ◌∷◌, ◌++◌, take, drop, Option, Some}
use Rattle.std.proofs.Common.{None, refl, ap, ap₂}
use Rattle.std.proofs.Common.{arith, sym}
use Rattle.std.proofs.lemmas.Bool.{and_from, and_parts}
use Rattle.std.proofs.lemmas.Bool.Decides.{nat_tests}
use Rattle.rx_explain_text.specs.RequestField.{field_number}
use Rattle.rx_explain_text.specs.Words.{case_name_of, name_of, expected_of}
use Rattle.rx_fields.proofs.DigitLaws.{digits_text-all}
use Rattle.rx_fields.specs.Calendar.{Civil, date_text}
use Rattle.rx_fields.specs.Digits.{digits_text}
use Rattle.rx_fields.specs.declared.code.Code.{Code}
use Rattle.rx_fields.specs.declared.code.Code.TheVariants as code
use Rattle.rx_ledger.specs.declared.decision.Decision.{Decision}
use Rattle.rx_ledger.specs.declared.decision.Decision.TheVariants as decision
use Rattle.rx_print.proofs.JsonPieces.{IsText, text_at, text_is}
use Rattle.rx_print.proofs.JsonWords.{is_name, not_special}
use Rattle.rx_print.specs.Dates.{dashed}
use Rattle.rx_print.specs.Escape.{byte_text, escaped, is_special}
use Rattle.rx_print.specs.JsonData.{Text}
use Rattle.rx_print.specs.declared.style.Style.TheVariants.{Json}
use Rattle.rx_text.specs.Bytes.{all_digits, is_digit}

-- ---- a text of bytes that stand for themselves

itself : (b : ℕ) → is_special Json b ≡ false → byte_text Json b ≡ b ∷ []
itself b h = rw h refl

unescaped : (words : List ℕ) → is_name words ≡ true → words ≡ escaped Json words
unescaped [] h = refl
unescaped (b ∷ bs) h =
    let both = and_parts _ _ h in
    ap₂ (λ (s t : List ℕ). s ++ t) (sym (itself b (not_special b both.0))) (unescaped bs both.1)

pub words_are : (d : ℕ) (words : List ℕ) → is_name words ≡ true → IsText d (34 ∷ (words ++ 34 ∷ [])) (Text words)
words_are d words h =
    text_at d _ (34 ∷ (escaped Json words ++ 34 ∷ [])) (Text words) (ap (λ s. 34 ∷ (s ++ 34 ∷ [])) (unescaped words h)) (text_is d words)

-- ---- digits and days

digit_name : (b : ℕ) → is_digit b ≡ true → not (is_special Json b) ≡ true
digit_name b h = grind (arith, nat_tests)

digits_name : (bs : List ℕ) → all_digits bs ≡ true → is_name bs ≡ true
digits_name [] h = refl
digits_name (b ∷ bs) h = let both = and_parts _ _ h in and_from _ _ (digit_name b both.0) (digits_name bs both.1)

pub number_name : (n x : ℕ) → is_name (digits_text n x) ≡ true
number_name n x = digits_name (digits_text n x) (digits_text-all n x)

name_both : (s t : List ℕ) → is_name s ≡ true → is_name t ≡ true → is_name (s ++ t) ≡ true
name_both [] t h k = k
name_both (b ∷ s) t h k = let both = and_parts _ _ h in and_from _ _ both.0 (name_both s t both.1 k)

name_take : (n : ℕ) (s : List ℕ) → is_name s ≡ true → is_name (take n s) ≡ true
name_take zero s h = refl
name_take (suc n) [] h = refl
name_take (suc n) (b ∷ s) h = let both = and_parts _ _ h in and_from _ _ both.0 (name_take n s both.1)

name_drop : (n : ℕ) (s : List ℕ) → is_name s ≡ true → is_name (drop n s) ≡ true
name_drop zero s h = h
name_drop (suc n) [] h = refl
name_drop (suc n) (b ∷ s) h = name_drop n s (and_parts _ _ h).1

date_name : (day : Civil) → is_name (date_text day) ≡ true
unfolding date_text
date_name day =
    name_both (digits_text 4 day.year) (digits_text 2 day.month ++ digits_text 2 day.day) (number_name 4 day.year)
    (name_both (digits_text 2 day.month) (digits_text 2 day.day) (number_name 2 day.month) (number_name 2 day.day))

pub day_name : (day : Civil) → is_name (dashed day) ≡ true
day_name day =
    let date = date_text day in
    let is = date_name day in
    name_both (take 4 date) (45 ∷ (take 2 (drop 4 date) ++ (45 ∷ drop 2 (drop 4 date)))) (name_take 4 date is)
    (name_both (take 2 (drop 4 date)) (45 ∷ drop 2 (drop 4 date)) (name_take 2 (drop 4 date) (name_drop 4 date is))
    (name_drop 2 (drop 4 date) (name_drop 4 date is)))

-- ---- words of codes and of decisions

abbrev pub is_field : Option (List ℕ) → Bool
is_field None = true
is_field (Some field) = is_name field

words_of : (c : Code) → (is_name (name_of c) && (is_name (expected_of c) && is_field (field_number c))) ≡ true
words_of code.Bin = refl
words_of other = refl

pub code_name : (c : Code) → is_name (name_of c) ≡ true
code_name c = (and_parts _ _ (words_of c)).0

pub expected_name : (c : Code) → is_name (expected_of c) ≡ true
expected_name c = (and_parts _ _ (and_parts _ _ (words_of c)).1).0

pub field_is : (c : Code) → is_field (field_number c) ≡ true
field_is c = (and_parts _ _ (and_parts _ _ (words_of c)).1).1

pub case_name : (c : Decision) → is_name (case_name_of c) ≡ true
case_name decision.NoFamily = refl
case_name other = refl
