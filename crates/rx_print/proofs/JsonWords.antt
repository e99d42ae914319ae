-- Numbers, strings and names of JSON, as the lexer takes them.
use Rattle.std.proofs.Common.{◌≡◌, ℕ, ℤ, zero, suc, pos, negsuc, ◌+◌, ◌/◌, ◌%◌, ◌^◌, ◌<◌, ◌≤◌, nat_lt, Bool, true, false, cond}
use Rattle.std.proofs.Common.{◌==◌, ◌&&◌, not, List, [], ◌∷◌, ◌++◌, length, get_or, drop, Some, option_and_then, refl, ap, ap₂, ◌∙◌}
use Rattle.std.proofs.Common.{arith, append_assoc, length-append, decimal, FitsSigned}
use Rattle.std.proofs.lemmas.Bool.{ne_eqb, le-leb, and_from, and_parts, lt-ltb, false≢true}
use Rattle.std.proofs.lemmas.Bool.Decides.{nat_tests}
use Rattle.std.proofs.lemmas.Fmt.{decimal_is_IsNumeral_wide, decimal_digit, decimal_by_steps_wide}
use Rattle.std.proofs.lemmas.List.{drop_all, get_or_append_left}
use Rattle.std.proofs.lemmas.List.Elements.{recursion_from_All}
use Rattle.std.proofs.lemmas.Str.{encode_ascii}
use Rattle.std.proofs.lemmas.Str.Parse.{digit_at}
use Rattle.std.specs.Char.{digit_value, encode_utf8, is_ascii_digit}
use Rattle.std.specs.Fmt.{signed_decimal}
use Rattle.std.specs.Int.{w128}
use Rattle.std.specs.List.{AllByRecursion, prefix_len}
use Rattle.std.specs.Str.{encode_utf8_all}
use Rattle.json.specs.Lex.{Lexeme, Mode, between, colon, in_string, lex, lex_byte, operator, other, space, string_token, token}
use Rattle.json.specs.Print.{IsNumber}
use Rattle.json.specs.Text.{code_unit, content, is_high_surrogate, is_low_surrogate, plain, prepend}
use Rattle.json.specs.Token as token
use Rattle.json.specs.Word.{after_exponent, after_fraction, after_number, after_whole, head, is_operator, is_space}
use Rattle.rx_print.specs.Escape.{AreBytes, byte_text, escaped, is_special, number_text}
use Rattle.rx_print.specs.Hexadecimal.{hexadecimal}
use Rattle.rx_print.specs.declared.style.Style.TheVariants.{Json}

-- ---- numbers

all_digits : (ds : List ℕ) → ((i : ℕ) → i < length ds → (48 ≤ get_or ds i 0) × (get_or ds i 0 ≤ 57))
    → prefix_len is_ascii_digit ds ≡ length ds
all_digits [] h = refl
all_digits (d ∷ ds) h =
    let first = h 0 (omega arith) in
    let rest = all_digits ds (λ i l. h (suc i) (omega arith)) in
    ap (λ b. cond b (1 + prefix_len is_ascii_digit ds) 0) (and_from _ _ (le-leb 48 d first.0) (le-leb d 57 first.1)) ∙ omega arith

whole_digits : (ds : List ℕ) → 48 < get_or ds 0 0 → prefix_len is_ascii_digit ds ≡ length ds
    → (after_whole ds ≡ Some []) × ((head ds == 45) ≡ false)
whole_digits [] first all = absurd (omega arith)
whole_digits (d ∷ ds) first all = (
  rw (ne_eqb d 48 (λ e. omega arith), all, ne_eqb (suc (length ds)) 0 (λ e. omega arith))
      (ap Some (drop_all (length ds) ds (omega arith))),
  ne_eqb d 45 (λ e. omega arith),
)

-- some digit, and the first of a number above 0 isn't 0
abbrev Begins : ℕ → List ℕ → Type 0
Begins n ds = (0 < length ds) × (0 < n → 48 < get_or ds 0 0)

first_digit : (n : ℕ) → 0 < n → n < 10 ^ 64 → 48 < get_or (decimal n) 0 0
first_digit n some small = (decimal_by_steps_wide Begins (λ m l. (omega arith, λ a. omega arith)) step n small).1 some
  where
    step : (m : ℕ) (ds : List ℕ) → 10 ≤ m → Begins (m / 10) ds → Begins m (ds ++ ((48 + m % 10) ∷ []))
    step m ds l h = (
      omega (arith, length-append ds ((48 + m % 10) ∷ [])),
      λ a. omega (arith, get_or_append_left ds ((48 + m % 10) ∷ []) 0 0 h.0, h.1 (omega arith)),
    )

whole_decimal : (n : ℕ) → n < 10 ^ 64 → (after_whole (decimal n) ≡ Some []) × ((head (decimal n) == 45) ≡ false)
whole_decimal zero h = let e = decimal_digit 0 (omega arith) in (ap after_whole e, ap (λ l. head l == 45) e)
whole_decimal (suc n) h =
    whole_digits (decimal (suc n)) (first_digit (suc n) (omega arith) h)
    (all_digits _ (λ i l. digit_at _ i (decimal_is_IsNumeral_wide (suc n) h).0.1 l))

pub number_is : (z : ℤ) → FitsSigned w128 z → IsNumber (signed_decimal z)
unfolding after_number
number_is (pos n) h =
    let w = whole_decimal n (let small = h.sfits in omega arith) in
    ap (λ o. option_and_then after_exponent (option_and_then after_fraction o))
    (ap (λ b. after_whole (cond b (drop 1 (decimal n)) (decimal n))) w.1 ∙ w.0)
number_is (negsuc n) h =
    ap (λ o. option_and_then after_exponent (option_and_then after_fraction o))
    (whole_decimal (suc n) (let small = h.sfits in omega arith)).0

-- ---- texts

hexadecimal_value : (d : ℕ) → d < 16 → digit_value (hexadecimal d) ≡ d
hexadecimal_value d h = grind (arith, nat_tests)

unit_of : (b : ℕ) → b < 256 → code_unit 48 48 (hexadecimal (b / 16)) (hexadecimal (b % 16)) ≡ Some b
unfolding code_unit
unit_of b h =
    let high = hexadecimal_value (b / 16) (omega arith) in
    let low = hexadecimal_value (b % 16) (omega arith) in
    rw (high, low, lt-ltb (b / 16) 16 (omega arith), lt-ltb (b % 16) 16 (omega arith)) (ap Some (omega arith))

module _ (b : ℕ) (h : b < 256) where
  number_content : (r : List ℕ) → content plain (number_text Json b ++ r) ≡ prepend (encode_utf8 b) (content plain r)
  unfolding content
  number_content r = rw (unit_of b h, high, low) refl
    where
      high : is_high_surrogate b ≡ false
      high = grind (arith, nat_tests)

      low : is_low_surrogate b ≡ false
      low = grind (arith, nat_tests)

inside : (x : ℕ) (r : List ℕ) → (x == 34) ≡ false → (x == 92) ≡ false → lex in_string (x ∷ r) ≡ lex in_string r
unfolding lex
inside x r quote backslash = rw (quote, backslash) (stays (is_operator x) (is_space x) x r (λ m. lex m r))
  where
    stays : (o s : Bool) (x : ℕ) (r : List ℕ) (k : Mode → List Lexeme)
        → lex_byte in_string (cond o operator (cond s space other)) x r k ≡ k in_string
    stays true s x r k = refl
    stays false true x r k = refl
    stays false false x r k = refl

digit_inside : (d : ℕ) (r : List ℕ) → d < 16 → lex in_string (hexadecimal d ∷ r) ≡ lex in_string r
digit_inside d r h = inside (hexadecimal d) r (grind (arith, nat_tests)) (grind (arith, nat_tests))

number_inside : (b : ℕ) (r : List ℕ) → b < 256 → lex in_string (number_text Json b ++ r) ≡ lex in_string r
unfolding lex
number_inside b r h =
    digit_inside (b / 16) (hexadecimal (b % 16) ∷ r) (omega arith) ∙ digit_inside (b % 16) r (omega arith)

-- what both readers make of what is written for a byte
record Passes (b : ℕ) (text : List ℕ) : Type 0 where
  read : (r : List ℕ) → content plain (text ++ r) ≡ prepend (encode_utf8 b) (content plain r)
  lexed : (r : List ℕ) → lex in_string (text ++ r) ≡ lex in_string r

number_passes : (b : ℕ) → b < 256 → Passes b (number_text Json b)
number_passes b h = record { read = number_content b h; lexed = λ r. number_inside b r h }

itself_passes : (b : ℕ) → is_special Json b ≡ false → Passes b (b ∷ [])
unfolding content
itself_passes b h =
    let quote : (b == 34) ≡ false = grind (arith, nat_tests) in
    let backslash : (b == 92) ≡ false = grind (arith, nat_tests) in
    let control : nat_lt b 32 ≡ false = grind (arith, nat_tests) in
    let small : b < 128 = grind (arith, nat_tests) in
    record {
      read = λ r. rw (encode_ascii b small, quote, backslash, control) refl;
      lexed = λ r. inside b r quote backslash;
    }

byte_passes : (b : ℕ) → b < 256 → Passes b (byte_text Json b)
byte_passes b h = at (is_special Json b) refl
  where
    at : (special : Bool) → is_special Json b ≡ special → Passes b (cond special (number_text Json b) (b ∷ []))
    at true is = number_passes b h
    at false is = itself_passes b is

content_read : (bytes r : List ℕ) → AllByRecursion (λ b. b < 256) bytes
    → content plain (escaped Json bytes ++ 34 ∷ r) ≡ Some (encode_utf8_all bytes)
unfolding content
content_read [] r h = refl
content_read (b ∷ bs) r h =
    ap (content plain) (append_assoc (byte_text Json b) (escaped Json bs) (34 ∷ r)) ∙ (byte_passes b h.0).read _
    ∙ ap (prepend (encode_utf8 b)) (content_read bs r h.1)

content_lexed : (bytes r : List ℕ) → AllByRecursion (λ b. b < 256) bytes
    → lex in_string (escaped Json bytes ++ 34 ∷ r) ≡ lex between r
unfolding lex
content_lexed [] r h = refl
content_lexed (b ∷ bs) r h =
    ap (lex in_string) (append_assoc (byte_text Json b) (escaped Json bs) (34 ∷ r)) ∙ (byte_passes b h.0).lexed _
    ∙ content_lexed bs r h.1

pub text_lexed : (bytes r : List ℕ) → AreBytes bytes
    → lex between (34 ∷ (escaped Json bytes ++ 34 ∷ r)) ≡ token (token.string (encode_utf8_all bytes)) ∷ lex between r
unfolding lex
text_lexed bytes r h =
    let all = recursion_from_All (λ b. b < 256) bytes h in
    ap₂ (λ o ls. token (string_token o) ∷ ls) (content_read bytes r all) (content_lexed bytes r all)

-- ---- a name: bytes that stand for themselves

abbrev pub is_name : List ℕ → Bool
is_name [] = true
is_name (b ∷ bs) = not (is_special Json b) && is_name bs

pub not_special : (b : ℕ) → not (is_special Json b) ≡ true → is_special Json b ≡ false
not_special b h = at (is_special Json b) h
  where
    at : (special : Bool) → not special ≡ true → special ≡ false
    at true e = absurd (false≢true e)
    at false e = refl

name_read : (name r : List ℕ) → is_name name ≡ true → content plain (name ++ 34 ∷ r) ≡ Some name
unfolding content
name_read [] r h = refl
name_read (b ∷ bs) r h =
    let both = and_parts _ _ h in
    let itself = not_special b both.0 in
    let small : b < 128 = grind (arith, nat_tests) in
    (itself_passes b itself).read (bs ++ 34 ∷ r)
    ∙ ap₂ (λ text o. prepend text o) (encode_ascii b small) (name_read bs r both.1)

name_inside : (name r : List ℕ) → is_name name ≡ true → lex in_string (name ++ 34 ∷ r) ≡ lex between r
unfolding lex
name_inside [] r h = refl
name_inside (b ∷ bs) r h =
    let both = and_parts _ _ h in
    (itself_passes b (not_special b both.0)).lexed (bs ++ 34 ∷ r) ∙ name_inside bs r both.1

pub name_lexed : (name r : List ℕ) → is_name name ≡ true
    → lex between (34 ∷ (name ++ (34 ∷ 58 ∷ r))) ≡ token (token.string name) ∷ colon ∷ lex between r
unfolding lex
name_lexed name r h =
    ap₂ (λ o ls. token (string_token o) ∷ ls) (name_read name (58 ∷ r) h) (name_inside name (58 ∷ r) h)
