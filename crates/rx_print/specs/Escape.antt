-- Meaning: bytes written where some bytes are read as markup, and how they are read there.
use Rattle.std.specs.Prelude.{◌<◌, ℕ, suc, zero, ◌+◌, ◌-◌, ◌*◌, ◌/◌, ◌%◌, Bool, not, ◌||◌, nat_lt, ◌==◌}
use Rattle.std.specs.Prelude.{if◌then◌else◌, List, [], ◌∷◌, ◌++◌, codes, All, length}
use Rattle.std.specs.List.{flat_map}
use Rattle.rx_text.specs.Bytes.{is_printable}
use Rattle.rx_print.specs.Hexadecimal.{hexadecimal}
use Rattle.rx_print.specs.declared.style.Style.{Style}
use Rattle.rx_print.specs.declared.style.Style.TheVariants.{Html, Json, Terminal}

-- a byte that would end or begin something else there: & < > " and ' in HTML, " and \ in JSON, \ on a terminal
abbrev pub is_markup : Style → ℕ → Bool
is_markup Html b = b == 38 || b == 60 || b == 62 || b == 34 || b == 39
is_markup Json b = b == 34 || b == 92
is_markup Terminal b = b == 92

-- a byte that is written as its number
abbrev pub is_special : Style → ℕ → Bool
is_special style b = not (is_printable b) || is_markup style b

-- what stands before and after the two hexadecimal digits of a number
abbrev pub front_of : Style → List ℕ
front_of Html = codes "&#x"
front_of Json = codes "\\u00"
front_of Terminal = codes "\\x"

abbrev pub back_of : Style → List ℕ
back_of Html = codes ";"
back_of Json = []
back_of Terminal = []

abbrev pub number_text : Style → ℕ → List ℕ
number_text style b = front_of style ++ (hexadecimal (b / 16) ∷ hexadecimal (b % 16) ∷ back_of style)

-- what is written for a byte, and for bytes
abbrev pub byte_text : Style → ℕ → List ℕ
byte_text style b = if is_special style b then number_text style b else b ∷ []

abbrev pub escaped : Style → List ℕ → List ℕ
escaped style bytes = flat_map (byte_text style) bytes

-- ---- what is never written

-- unprintable bytes, and those that end the place where the text stands: < > " and ' in HTML, " in JSON
abbrev pub is_mark : Style → ℕ → Bool
is_mark Html b = not (is_printable b) || (b == 60 || b == 62 || b == 34 || b == 39)
is_mark Json b = not (is_printable b) || b == 34
is_mark Terminal b = not (is_printable b)

-- ---- how it is read

-- where a reader stands: before a byte; in a number's front, with this many bytes of it left; before the first digit; before the
-- second, with the value of the first; after the digits, with this many bytes left
pub data Stand : Type 0 where
  Before : Stand
  Front : ℕ → Stand
  High : Stand
  Low : ℕ → Stand
  Back : ℕ → Stand

-- the byte that begins a number
abbrev pub begins : Style → ℕ
begins Html = 38
begins Json = 92
begins Terminal = 92

abbrev pub digit_of : ℕ → ℕ
digit_of b = if nat_lt b 58 then b - 48 else b - 55

-- where the reader stands after one more byte of a number's front, and of its back
abbrev pub in_front : ℕ → Stand
in_front zero = High
in_front (suc n) = Front n

abbrev pub in_back : ℕ → Stand
in_back zero = Before
in_back (suc n) = Back n

-- the bytes that are read
abbrev pub read_from : Style → Stand → List ℕ → List ℕ
read_from style stand [] = []
read_from style Before (b ∷ bs) =
    if b == begins style then read_from style (in_front (length (front_of style) - 1)) bs
    else b ∷ read_from style Before bs
read_from style (Front n) (b ∷ bs) = read_from style (in_front n) bs
read_from style High (b ∷ bs) = read_from style (Low (digit_of b)) bs
read_from style (Low high) (b ∷ bs) =
    (16 * high + digit_of b) ∷ read_from style (in_back (length (back_of style))) bs
read_from style (Back n) (b ∷ bs) = read_from style (in_back n) bs

abbrev pub read : Style → List ℕ → List ℕ
read style text = read_from style Before text

abbrev pub AreBytes : List ℕ → Type 0
AreBytes bytes = All (λ b. b < 256) bytes
