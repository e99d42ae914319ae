-- Plumbing: what the text of a line is read as (docs/FORMATS.md, "Books file").
use Rattle.std.specs.Prelude.{ℕ, ◌+◌, ◌*◌, Bool, false, not, ◌&&◌, nat_eq, ◌==◌, if◌then◌else◌}
use Rattle.std.specs.Prelude.{List, [], ◌∷◌, codes, length, Option, Some, None}
use Rattle.std.specs.Cmp.Lexicographic.{pointwise}
use Rattle.std.specs.List.{starts_with}
use Rattle.std.specs.Option.{option_map}
use Rattle.std.specs.Prelude.{drop}
use Rattle.std.specs.Result.{result_ok}
use Rattle.rx_fields.specs.declared.limits.TheConstants.{MOST_AUTHORIZATION, MOST_QUANTITY, MOST_REFERENCE}
use Rattle.rx_text.specs.Options.{◌>>=◌}
use Rattle.rx_fields.specs.declared.key.Key.{Key}
use Rattle.rx_fields.specs.Bounds.{bounded}
use Rattle.rx_fields.specs.Calendar.{Civil, date_of}
use Rattle.rx_fields.specs.Digits.{number_of}
use Rattle.rx_fields.specs.Numbered.{Span, period_of, product_of}
use Rattle.rx_fields.specs.Text.{id_of}
use Rattle.rx_d0_values.specs.declared.pricing.Amounts.{Amounts}
use Rattle.rx_ledger.specs.declared.member.MemberKey.{MemberKey}
use Rattle.rx_ledger.specs.declared.row.Row.{Row}
use Rattle.rx_ledger.specs.Rows.{row_of}
use Rattle.rx_books_text.specs.declared.claim_line.Dispensed.{Dispensed}
use Rattle.rx_books_text.specs.declared.head.Head.{Head}
use Rattle.rx_books_text.specs.declared.line.Line.{Line}
use Rattle.rx_books_text.specs.declared.line.Line.TheVariants as line
use Rattle.rx_books_text.specs.declared.line.MemberLine.{MemberLine}
use Rattle.rx_books_text.specs.declared.line.TotalLine.{TotalLine}
use Rattle.rx_books_text.specs.declared.version.Version.{Version}
use Rattle.rx_books_text.specs.declared.version.Version.TheVariants.{One, Two, Three}

-- ---- fields

-- the same bytes
abbrev pub same : List ℕ → List ℕ → Bool
same a b = pointwise nat_eq a b

-- the field before the first bar, and what follows the bar
unfoldable pub split : List ℕ → Option (List ℕ × List ℕ)
split [] = None
split (b ∷ bs) = if b == 124 then Some ([], bs) else (split bs >>= λ x. Some (b ∷ x.0, x.1))

-- an id of at most max bytes, with no blank at its end
unfoldable pub id_in : ℕ → List ℕ → Option (List ℕ)
id_in max bs = result_ok (id_of max bs) >>= λ text. if same text bs then Some text else None

-- a date
unfoldable pub day_in : List ℕ → Option Civil
day_in bs = result_ok (date_of bs)

-- zero stands in front
abbrev pub begins_zero : List ℕ → Bool
begins_zero [] = false
begins_zero (b ∷ bs) = b == 48

-- a number of at most max digits, without leading zeros
unfoldable pub number_in : ℕ → List ℕ → Option ℕ
number_in max bs = if begins_zero bs && not (length bs == 1) then None else result_ok (number_of max bs)

-- the number of at most nineteen digits and one more
abbrev pub joined_number : List ℕ → List ℕ → Option ℕ
joined_number front last =
    result_ok (number_of 19 front) >>= λ a. result_ok (number_of 1 last) >>= λ b. Some (a * 10 + b)

-- one from low to high
unfoldable pub count_in : ℕ → ℕ → List ℕ → Option ℕ
count_in low high bs = number_in 19 bs >>= bounded low high

-- an authorization number in fifteen digits
unfoldable pub authorization_in : List ℕ → Option ℕ
authorization_in bs = if length bs == 15 then result_ok (number_of 15 bs) >>= bounded 0 MOST_AUTHORIZATION else None

-- ---- the head line

abbrev pub version_in : List ℕ → Option Version
version_in bs =
    if same bs (codes "1") then Some One
    else (if same bs (codes "2") then Some Two else (if same bs (codes "3") then Some Three else None))

unfoldable pub period_in : List ℕ → List ℕ → Option Span
period_in first last = day_in first >>= λ a. day_in last >>= λ b. period_of a b

-- the head after its label
unfoldable pub head_in : List ℕ → Option Head
head_in bs =
    split bs >>= λ version. split version.1 >>= λ first. version_in version.0 >>= λ v. period_in first.0 first.1 >>= λ p.
    Some (record { version = v; period = p })

-- the head of a text without its line feed
unfoldable pub head_of : List ℕ → Option Head
head_of bs = if starts_with nat_eq bs (codes "BOOKS|") then head_in (drop 6 bs) else None

-- ---- lines

unfoldable pub member_key_in : List ℕ → List ℕ → Option MemberKey
member_key_in family person = id_in 20 family >>= λ f. id_in 3 person >>= λ p. Some (record { family = f; person = p })

-- a family and a person, and what follows
unfoldable pub member_key_at : List ℕ → Option (MemberKey × List ℕ)
member_key_at bs =
    split bs >>= λ family. split family.1 >>= λ person. member_key_in family.0 person.0 >>= λ key. Some (key, person.1)

-- the member line of these bytes after its kind
unfoldable pub member_in : List ℕ → Option MemberLine
member_in bs =
    member_key_at bs >>= λ key. split key.1 >>= λ first. split first.1 >>= λ last. period_in first.0 last.0 >>= λ coverage.
    number_in 20 last.1 >>= λ n. Some
    (record { member = record { key = key.0; coverage = coverage }; deductible = n })

-- three fields, and what follows
abbrev pub three_at : List ℕ → Option ((List ℕ × List ℕ × List ℕ) × List ℕ)
three_at bs =
    split bs >>= λ first. split first.1 >>= λ second. split second.1 >>= λ third. Some
    ((first.0, second.0, third.0), third.1)

unfoldable pub key_in : List ℕ → List ℕ → List ℕ → Option Key
key_in provider reference date =
    id_in 15 provider >>= λ p. count_in 0 MOST_REFERENCE reference >>= λ r. day_in date >>= λ d. Some
    (record { provider = p; reference = r; date = d })

-- a fill key, and what follows
unfoldable pub key_at : List ℕ → Option (Key × List ℕ)
key_at bs =
    split bs >>= λ provider. split provider.1 >>= λ reference. split reference.1 >>= λ date.
    key_in provider.0 reference.0 date.0 >>= λ key. Some (key, date.1)

unfoldable pub dispensed_in : List ℕ → List ℕ → List ℕ → Option Dispensed
dispensed_in product quantity days =
    product_of product >>= λ p. count_in 1 MOST_QUANTITY quantity >>= λ q. count_in 1 999 days >>= λ d. Some
    (record { product = p; quantity = q; days = d })

-- what was dispensed, and what follows
unfoldable pub dispensed_at : List ℕ → Option (Dispensed × List ℕ)
dispensed_at bs =
    split bs >>= λ product. split product.1 >>= λ quantity. split quantity.1 >>= λ days.
    dispensed_in product.0 quantity.0 days.0 >>= λ what. Some (what, days.1)

-- F6 and F7, or FH and FI, and what follows
unfoldable pub two_numbers_at : List ℕ → Option ((ℕ × ℕ) × List ℕ)
two_numbers_at bs =
    split bs >>= λ first. split first.1 >>= λ second. number_in 19 first.0 >>= λ a. number_in 19 second.0 >>= λ b. Some
    ((a, b), second.1)

-- 4U, which is 0 where version 1 has no field for it, and what follows
abbrev pub coinsurance_at : Version → List ℕ → Option (ℕ × List ℕ)
coinsurance_at One bs = Some (0, bs)
coinsurance_at Two bs = split bs >>= λ x. number_in 19 x.0 >>= λ n. Some (n, x.1)
coinsurance_at Three bs = split bs >>= λ x. number_in 19 x.0 >>= λ n. Some (n, x.1)

-- F6, F7, FH, FI and 4U, and what follows
unfoldable pub amounts_at : Version → List ℕ → Option (Amounts × List ℕ)
amounts_at v bs =
    two_numbers_at bs >>= λ price. two_numbers_at price.1 >>= λ share. coinsurance_at v share.1 >>= λ rest. Some (
      record {
        ingredient_cost = price.0.0;
        dispensing_fee = price.0.1;
        deductible = share.0.0;
        copay = share.0.1;
        coinsurance = rest.0;
      },
      rest.1,
    )

-- the claim of these bytes after its kind
unfoldable pub claim_in : Version → List ℕ → Option Row
claim_in v bs =
    key_at bs >>= λ key. member_key_at key.1 >>= λ member. dispensed_at member.1 >>= λ what.
    amounts_at v what.1 >>= λ amounts. authorization_in amounts.1 >>= λ number. row_of key.0 member.0.family member.0.person
    what.0.product what.0.quantity what.0.days amounts.0 number

-- the total line of these bytes after its kind, with the family's deductible and without it
unfoldable pub whole_total_in : List ℕ → Option TotalLine
whole_total_in bs =
    split bs >>= λ family. split family.1 >>= λ out. id_in 20 family.0 >>= λ f. number_in 20 out.0 >>= λ o.
    number_in 20 out.1 >>= λ d. Some (record { family = f; out_of_pocket = o; deductible = Some d })

unfoldable pub short_total_in : List ℕ → Option TotalLine
short_total_in bs =
    split bs >>= λ family. id_in 20 family.0 >>= λ f. number_in 20 family.1 >>= λ o. Some
    (record { family = f; out_of_pocket = o; deductible = None })

abbrev pub total_in : Version → List ℕ → Option TotalLine
total_in One bs = short_total_in bs
total_in Two bs = short_total_in bs
total_in Three bs = whole_total_in bs

-- the line of a kind, M, C or T, with these fields
abbrev pub line_in : Version → ℕ → List ℕ → Option Line
line_in v kind bs =
    if kind == 77 then option_map (λ m. line.Member m) (member_in bs)
    else (if kind == 67 then option_map (λ r. line.Claim r) (claim_in v bs)
    else (if kind == 84 then option_map (λ t. line.Total t) (total_in v bs) else None))

-- the line of a text without its line feed
unfoldable pub line_of : Version → List ℕ → Option Line
line_of v [] = None
line_of v (kind ∷ []) = None
line_of v (kind ∷ bar ∷ bs) = if bar == 124 then line_in v kind bs else None
