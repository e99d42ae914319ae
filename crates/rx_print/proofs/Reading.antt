-- What is written for bytes is read as these bytes, and holds no mark.
use Rattle.std.proofs.Common.{◌≡◌, ◌<◌, ℕ, ◌+◌, ◌*◌, ◌/◌, ◌%◌, Bool, true, false, ◌==◌, if◌then◌else◌, List, [], ◌∷◌}
use Rattle.std.proofs.Common.{◌++◌, All, refl, ap, ◌∙◌, arith}
use Rattle.std.proofs.lemmas.Bool.Decides.{nat_tests}
use Rattle.std.proofs.lemmas.List.Elements.{All-append, All-cons, All-nil, recursion_from_All}
use Rattle.std.specs.List.{AllByRecursion}
use Rattle.rx_print.specs.Hexadecimal.{hexadecimal}
use Rattle.rx_print.specs.Escape.{AreBytes, begins, byte_text, digit_of, escaped, is_mark, is_special, number_text, read, read_from}
use Rattle.rx_print.specs.Escape.Stand.{Before}
use Rattle.rx_print.specs.declared.style.Style.{Style}
use Rattle.rx_print.specs.declared.style.Style.TheVariants.{Html, Json, Terminal}

-- ---- a number is read as its byte

digit_read : (d : ℕ) → d < 16 → digit_of (hexadecimal d) ≡ d
digit_read d h = grind (arith, nat_tests)

value_read : (b : ℕ) → b < 256 → 16 * digit_of (hexadecimal (b / 16)) + digit_of (hexadecimal (b % 16)) ≡ b
value_read b h =
    let high : digit_of (hexadecimal (b / 16)) ≡ b / 16 = digit_read (b / 16) (omega arith) in
    let low : digit_of (hexadecimal (b % 16)) ≡ b % 16 = digit_read (b % 16) (omega arith) in
    ap (λ n. 16 * n + digit_of (hexadecimal (b % 16))) high ∙ ap (λ n. 16 * (b / 16) + n) low ∙ omega arith

number_read : (style : Style) (b : ℕ) (rest : List ℕ) → b < 256
    → read_from style Before (number_text style b ++ rest) ≡ b ∷ read_from style Before rest
number_read Html b rest h = ap (λ n. n ∷ read_from Html Before rest) (value_read b h)
number_read Json b rest h = ap (λ n. n ∷ read_from Json Before rest) (value_read b h)
number_read Terminal b rest h = ap (λ n. n ∷ read_from Terminal Before rest) (value_read b h)

-- ---- a byte that isn't special is read as itself

no_begin : (style : Style) (b : ℕ) → is_special style b ≡ false → (b == begins style) ≡ false
no_begin Html b h = grind (arith, nat_tests)
no_begin Json b h = grind (arith, nat_tests)
no_begin Terminal b h = grind (arith, nat_tests)

itself_read : (style : Style) (b : ℕ) (rest : List ℕ) → (b == begins style) ≡ false
    → read_from style Before (b ∷ rest) ≡ b ∷ read_from style Before rest
itself_read style b rest h = rw h refl

abbrev text_at : Style → ℕ → Bool → List ℕ
text_at style b special = if special then number_text style b else b ∷ []

byte_read_at : (style : Style) (b : ℕ) (rest : List ℕ) (special : Bool) → is_special style b ≡ special → b < 256
    → read_from style Before (text_at style b special ++ rest) ≡ b ∷ read_from style Before rest
byte_read_at style b rest true is h = number_read style b rest h
byte_read_at style b rest false is h = itself_read style b rest (no_begin style b is)

byte_read : (style : Style) (b : ℕ) (rest : List ℕ) → b < 256
    → read_from style Before (byte_text style b ++ rest) ≡ b ∷ read_from style Before rest
byte_read style b rest h = byte_read_at style b rest (is_special style b) refl h

-- ---- all bytes

all_read : (style : Style) (bytes : List ℕ) → AllByRecursion (λ b. b < 256) bytes
    → read style (escaped style bytes) ≡ bytes
all_read style [] h = refl
all_read style (b ∷ bs) h =
    byte_read style b (escaped style bs) h.0 ∙ ap (λ more. b ∷ more) (all_read style bs h.1)

pub escaped_read : (style : Style) (bytes : List ℕ) → AreBytes bytes → read style (escaped style bytes) ≡ bytes
escaped_read style bytes h = all_read style bytes (recursion_from_All (λ b. b < 256) bytes h)

-- ---- no mark is written

abbrev NoMarks : Style → List ℕ → Type 0
NoMarks style text = All (λ b. is_mark style b ≡ false) text

digit_no_mark : (style : Style) (d : ℕ) → d < 16 → is_mark style (hexadecimal d) ≡ false
digit_no_mark Html d h = grind (arith, nat_tests)
digit_no_mark Json d h = grind (arith, nat_tests)
digit_no_mark Terminal d h = grind (arith, nat_tests)

itself_no_mark : (style : Style) (b : ℕ) → is_special style b ≡ false → is_mark style b ≡ false
itself_no_mark Html b h = grind (arith, nat_tests)
itself_no_mark Json b h = grind (arith, nat_tests)
itself_no_mark Terminal b h = grind (arith, nat_tests)

digits_no_mark : (style : Style) (b : ℕ) (back : List ℕ) → b < 256 → NoMarks style back
    → NoMarks style (hexadecimal (b / 16) ∷ hexadecimal (b % 16) ∷ back)
digits_no_mark style b back h none =
    All-cons (λ c. is_mark style c ≡ false) (hexadecimal (b / 16)) (hexadecimal (b % 16) ∷ back)
    (digit_no_mark style (b / 16) (omega arith))
    (All-cons (λ c. is_mark style c ≡ false) (hexadecimal (b % 16)) back (digit_no_mark style (b % 16) (omega arith)) none)

none_after : (style : Style) (b : ℕ) (bs : List ℕ) → is_mark style b ≡ false → NoMarks style bs → NoMarks style (b ∷ bs)
none_after style b bs h none = All-cons (λ c. is_mark style c ≡ false) b bs h none

none_in : (style : Style) → NoMarks style []
none_in style = All-nil (λ c. is_mark style c ≡ false)

abbrev digits : ℕ → List ℕ → List ℕ
digits b back = hexadecimal (b / 16) ∷ hexadecimal (b % 16) ∷ back

number_no_mark : (style : Style) (b : ℕ) → b < 256 → NoMarks style (number_text style b)
number_no_mark Html b h =
    let semicolon : NoMarks Html (59 ∷ []) = none_after Html 59 [] refl (none_in Html) in
    let rest : NoMarks Html (digits b (59 ∷ [])) = digits_no_mark Html b (59 ∷ []) h semicolon in
    none_after Html 38 (35 ∷ 120 ∷ digits b (59 ∷ [])) refl
    (none_after Html 35 (120 ∷ digits b (59 ∷ [])) refl (none_after Html 120 (digits b (59 ∷ [])) refl rest))
number_no_mark Json b h =
    let rest : NoMarks Json (digits b []) = digits_no_mark Json b [] h (none_in Json) in
    none_after Json 92 (117 ∷ 48 ∷ 48 ∷ digits b []) refl
    (none_after Json 117 (48 ∷ 48 ∷ digits b []) refl
    (none_after Json 48 (48 ∷ digits b []) refl (none_after Json 48 (digits b []) refl rest)))
number_no_mark Terminal b h =
    let rest : NoMarks Terminal (digits b []) = digits_no_mark Terminal b [] h (none_in Terminal) in
    none_after Terminal 92 (120 ∷ digits b []) refl (none_after Terminal 120 (digits b []) refl rest)

byte_no_mark_at : (style : Style) (b : ℕ) (special : Bool) → is_special style b ≡ special → b < 256
    → NoMarks style (text_at style b special)
byte_no_mark_at style b true is h = number_no_mark style b h
byte_no_mark_at style b false is h = none_after style b [] (itself_no_mark style b is) (none_in style)

all_no_mark : (style : Style) (bytes : List ℕ) → AllByRecursion (λ b. b < 256) bytes
    → NoMarks style (escaped style bytes)
all_no_mark style [] h = none_in style
all_no_mark style (b ∷ bs) h =
    All-append (λ c. is_mark style c ≡ false) (byte_text style b) (escaped style bs)
    (byte_no_mark_at style b (is_special style b) refl h.0) (all_no_mark style bs h.1)

pub escaped_no_mark : (style : Style) (bytes : List ℕ) → AreBytes bytes → NoMarks style (escaped style bytes)
escaped_no_mark style bytes h = all_no_mark style bytes (recursion_from_All (λ b. b < 256) bytes h)
