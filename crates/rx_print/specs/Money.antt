-- Meaning: amounts and quantities as people read them.
use Rattle.std.specs.Prelude.{ℕ, ℤ, pos, negsuc, suc, ◌+◌, ◌-◌, ◌/◌, ◌%◌, ◌==◌, if◌then◌else◌, List, [], ◌∷◌, ◌++◌, codes, length, replicate}
use Rattle.std.specs.Fmt.{decimal}
use Rattle.rx_fields.specs.Digits.{digits_text}
use Rattle.rx_print.specs.Decimal.{grouped}

-- a point and two digits
abbrev pub cents_text : ℕ → List ℕ
cents_text cents = 46 ∷ (48 + cents / 10) ∷ (48 + cents % 10) ∷ []

-- cents as dollars and cents
abbrev pub dollars : ℕ → List ℕ
dollars cents = decimal (cents / 100) ++ cents_text (cents % 100)

-- the same after a minus, where they are below zero
abbrev pub signed_dollars : ℤ → List ℕ
signed_dollars (pos n) = dollars n
signed_dollars (negsuc n) = 45 ∷ dollars (suc n)

-- hundredths as a number with two digits after the point, and commas before it
abbrev pub hundredths_text : ℕ → List ℕ
hundredths_text n = grouped (n / 100) ++ cents_text (n % 100)

-- cents as dollars and cents after a dollar sign, with the commas
abbrev pub money_text : ℕ → List ℕ
money_text cents = codes "$" ++ hundredths_text cents

-- at the right end of a column: blanks before it, as many as the width leaves; none before a text that is wider
abbrev pub right_in : ℕ → List ℕ → List ℕ
right_in width text = replicate (width - length text) 32 ++ text

-- hundredths of a cent as dollars: two more digits where they aren't whole cents
abbrev pub price_text : ℕ → List ℕ
price_text hundredths =
    money_text (hundredths / 100) ++ (if hundredths % 100 == 0 then [] else digits_text 2 (hundredths % 100))

-- thousandths as whole ones, with a point and three digits where they aren't whole
abbrev pub thousandths_text : ℕ → List ℕ
thousandths_text n = decimal (n / 1000) ++ (if n % 1000 == 0 then [] else codes "." ++ digits_text 3 (n % 1000))
