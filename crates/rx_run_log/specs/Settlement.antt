-- Meaning: what a log says of a settlement: the counts and the net of its last line (docs/FORMATS.md, "Settlement file").
use Rattle.std.specs.Prelude.{ℕ, ℤ, pos, neg_ℤ, ◌+◌, ◌-◌, ◌*◌, ◌^◌, Bool, not, ◌&&◌, ◌==◌, nat_eq, nat_lt, if◌then◌else◌}
use Rattle.std.specs.Prelude.{List, [], ◌∷◌, codes, drop, length, slice_index, take, Option, Some, None}
use Rattle.std.specs.List.{prefix_len, starts_with, suffix_len}
use Rattle.rx_text.specs.Options.{◌>>=◌}
use Rattle.rx_run_log.specs.declared.settlement.Totals.{Totals}
use Rattle.rx_settle.specs.Settlement.{net}
use Rattle.rx_settle.specs.declared.tally.Tally.{Tally}
use Rattle.rx_text.specs.Bytes.{all_digits}

-- no line feed; no bar
abbrev pub is_in_line : ℕ → Bool
is_in_line b = not (b == 10)

abbrev pub is_in_field : ℕ → Bool
is_in_field b = not (b == 124)

-- the bytes after the last line feed, or all if there is none
abbrev pub after_lines : List ℕ → List ℕ
after_lines text = drop (length text - suffix_len is_in_line text) text

-- the last line, without the line feed that ends it; none where the text ends with none
abbrev pub last_line : List ℕ → Option (List ℕ)
last_line text =
    if nat_lt 0 (length text) && (slice_index text (length text - 1) == 10)
    then Some (after_lines (take (length text - 1) text)) else None

-- the number that decimal digits write
abbrev pub number_after : ℕ → List ℕ → ℕ
number_after n [] = n
number_after n (b ∷ bs) = number_after (10 * n + (b - 48)) bs

-- a count: digits that write a number below 2^64
abbrev pub count_of : List ℕ → Option ℕ
count_of digits =
    if all_digits digits && nat_lt 0 (length digits) && nat_lt (number_after 0 digits) (2 ^ 64)
    then Some (number_after 0 digits) else None

-- a net: a count below 2^63, after a minus where it is negative
abbrev pub signed : (ℕ → ℤ) → Option ℕ → Option ℤ
signed of None = None
signed of (Some n) = if nat_lt n (2 ^ 63) then Some (of n) else None

abbrev pub net_of : List ℕ → Option ℤ
net_of [] = None
net_of (b ∷ bs) = if b == 45 then signed (λ n. neg_ℤ (pos n)) (count_of bs) else signed (λ n. pos n) (count_of (b ∷ bs))

-- the count in the field that the first bar ends, and what stands after that bar; none if there is no bar
abbrev pub paired : Option ℕ → List ℕ → Option (ℕ × List ℕ)
paired None rest = None
paired (Some n) rest = Some (n, rest)

abbrev pub first_count : List ℕ → Option (ℕ × List ℕ)
first_count fields =
    if nat_lt (prefix_len is_in_field fields) (length fields)
    then paired (count_of (take (prefix_len is_in_field fields) fields)) (drop (prefix_len is_in_field fields + 1) fields)
    else None

-- the fields of a total line, which begins with TOTAL and a bar
abbrev pub fields_of : List ℕ → Option (List ℕ)
fields_of line = if starts_with nat_eq line (codes "TOTAL|") then Some (drop 6 line) else None

-- paid, duplicate, approved, rejected, and the net
abbrev pub totals_in : List ℕ → Option Totals
totals_in fields = do
  paid ← first_count fields
  duplicate ← first_count paid.1
  approved ← first_count duplicate.1
  rejected ← first_count approved.1
  net ← net_of rejected.1
  Some (record { paid = paid.0; duplicate = duplicate.0; approved = approved.0; rejected = rejected.0; net = net })

abbrev pub totals_of : List ℕ → Option Totals
totals_of text = last_line text >>= λ line. fields_of line >>= λ fields. totals_in fields

-- the counts and the net of a tally
abbrev pub totals_told : Tally → Totals
totals_told t =
    record { paid = t.paid; duplicate = t.duplicate; approved = t.approved; rejected = t.rejected; net = net t }
