-- Meaning: lots, products and periods: what each keeps, and which values are one.
use Rattle.std.specs.Prelude.{ℕ, Bool, ◌&&◌, nat_lt, ◌==◌, if◌then◌else◌, List, length, Option, Some, None}
use Rattle.std.specs.Ordering.{is_le}
use Rattle.rx_text.specs.Bytes.{all_digits}
use Rattle.rx_fields.specs.Digits.{number}
use Rattle.rx_fields.specs.Calendar.{Civil, day_cmp}

-- a batch number and a creation date
pub record LotParts : Type 0 where
  pub number : ℕ
  pub created : Civil

-- the lot of a batch number of at most seven digits and a creation date
abbrev pub lot_of : ℕ → Civil → Option LotParts
lot_of n day = if nat_lt n 10_000_000 then Some (record { number = n; created = day }) else None

-- the product of eleven digits, by their number
abbrev pub product_of : List ℕ → Option ℕ
product_of bs = if length bs == 11 && all_digits bs then Some (number bs) else None

-- a first and a last day, both included
pub record Span : Type 0 where
  pub first : Civil
  pub last : Civil

-- the first day isn't after the last
abbrev pub is_span : Span → Bool
is_span p = is_le (day_cmp p.first p.last)

-- the period from a first to a last day, where these are in order
abbrev pub period_of : Civil → Civil → Option Span
period_of first last =
    let p : Span = record { first = first; last = last } in if is_span p then Some p else None

-- the day isn't before the first, nor after the last
abbrev pub is_within : Span → Civil → Bool
is_within p day = is_le (day_cmp p.first day) && is_le (day_cmp day p.last)
