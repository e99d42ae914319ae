-- Meaning: what is said of a wrong value of a plan sheet: where it stands, the value, and what is expected in its place.
use Rattle.std.specs.Prelude.{◌≡◌, ℕ, Bool, false, not, ◌&&◌, ◌==◌, if◌then◌else◌, List, ◌++◌, codes, length, MatchBool}
use Rattle.std.specs.Prelude.{Option, Some, None, is_err, is_some}
use Rattle.std.specs.Fmt.{signed_decimal}
use Rattle.std.specs.Option.{option_and_then}
use Rattle.toml.specs.Data.{Data, string, integer, float, boolean, datetime, array, table}
use Rattle.toml.specs.Data.{Members, no_members, member, as_table, get_member}
use Rattle.rx_fields.specs.Calendar.{date_of}
use Rattle.rx_ledger.specs.declared.drug.TheConstants.{MOST_PRICE}
use Rattle.rx_ledger.specs.declared.sheet_key.SheetKey.{SheetKey}
use Rattle.rx_ledger.specs.declared.sheet_key.SheetKey.TheVariants as key
use Rattle.rx_sheet.specs.Drugs.{share_in}
use Rattle.rx_sheet.specs.Names.{name_of}
use Rattle.rx_sheet.specs.Values.{number}
use Rattle.rx_text.specs.Bytes.{all_digits}
use Rattle.rx_diagnostics.specs.Quoting.{quoted_text}
use Rattle.rx_diagnostics.specs.SheetTexts.{expected_at, wrong_text}

-- ---- values

-- how a value may be written in a sheet; a list or a table by its kind only. The digits of a number with a point aren't defined
abbrev pub IsShown : Data → List ℕ → Type 0
IsShown (string text) shown = shown ≡ quoted_text text
IsShown (integer n) shown = shown ≡ signed_decimal n
IsShown (float x) shown = Unit {0}
IsShown (boolean b) shown = shown ≡ (if b then codes "true" else codes "false")
IsShown (datetime d) shown = shown ≡ codes "(a date without quotes)"
IsShown (array items) shown = shown ≡ codes "(a list)"
IsShown (table entries) shown = shown ≡ codes "(a table)"

-- the text has the value as it is shown
abbrev pub TellsOf : Data → (List ℕ → List ℕ) → List ℕ → Type 0
TellsOf value text said = (shown : List ℕ) × (IsShown value shown × (said ≡ text shown))

-- KEY = VALUE: EXPECTED
unfoldable pub value_text : SheetKey → List ℕ → List ℕ
value_text k shown = name_of k ++ (codes " = " ++ (shown ++ (codes ": " ++ expected_at k)))

-- the value of a key, if the sheet has one
abbrev pub TellsValue : SheetKey → Option Data → List ℕ → Type 0
TellsValue k None said = said ≡ wrong_text k
TellsValue k (Some value) said = TellsOf value (value_text k) said

-- ---- days

abbrev pub is_eight_digits : List ℕ → Bool
is_eight_digits text = length text == 8 && all_digits text

-- eight digits that are no date
unfoldable pub no_date_text : SheetKey → List ℕ → List ℕ
no_date_text k day = name_of k ++ (codes " = " ++ (day ++ codes ": no such date"))

unfoldable pub backwards_text : SheetKey → List ℕ → List ℕ → List ℕ
backwards_text k day first = name_of k ++ (codes " = " ++ (day ++ (codes ": the last day is before the first, " ++ first)))

-- a date that doesn't fit the first day
abbrev pub TellsBackwards : SheetKey → List ℕ → Option Data → List ℕ → Type 0
TellsBackwards k day None said = said ≡ value_text k day
TellsBackwards k day (Some first) said = TellsOf first (backwards_text k day) said

-- a text that isn't eight digits, or is no date, or doesn't fit the first day
unfoldable pub TellsDayText : SheetKey → List ℕ → Option Data → List ℕ → Type 0
TellsDayText k day first said =
    MatchBool (is_eight_digits day)
    (MatchBool (is_err (date_of day)) (said ≡ no_date_text k (quoted_text day)) (TellsBackwards k (quoted_text day) first said))
    (said ≡ value_text k (quoted_text day))

abbrev pub TellsDay : SheetKey → Option Data → Option Data → List ℕ → Type 0
TellsDay k (Some (string day)) first said = TellsDayText k day first said
TellsDay k other first said = TellsValue k other said

-- ---- the first that is wrong in a table

abbrev pub or_else : List ℕ → Option Data → Option (List ℕ × Data) → Option (List ℕ × Data)
or_else name None later = later
or_else name (Some value) later = Some (name, value)

-- the first entry in which a test finds something wrong: its name, and what is wrong
abbrev pub first_wrong : (List ℕ → Data → Option Data) → Members → Option (List ℕ × Data)
first_wrong test no_members = None
first_wrong test (member name value more) = or_else name (test name value) (first_wrong test more)

abbrev pub unless : Bool → Data → Option Data
unless fine value = if fine then None else Some value

abbrev pub is_product : List ℕ → Bool
is_product name = length name == 11 && all_digits name

abbrev pub is_tier : Members → Data → Bool
is_tier tiers (string name) = is_some (get_member name tiers)
is_tier tiers other = false

-- the value at a key of a drug, where it is a table
abbrev pub of_drug : SheetKey → Data → Option Data
of_drug k drug = option_and_then (get_member (name_of k)) (as_table drug)

-- a drug that is a table without the key
abbrev pub lacks : SheetKey → Data → Bool
lacks k drug = is_some (as_table drug) && not (is_some (of_drug k drug))

-- a tier that says no share
abbrev pub wrong_share : List ℕ → Data → Option Data
wrong_share name tier = unless (is_some (share_in tier)) tier

-- a drug that is no table, or whose name is no product
abbrev pub wrong_drug : List ℕ → Data → Option Data
wrong_drug name drug = unless (is_product name && is_some (as_table drug)) drug

-- a drug's tier that is none of the tiers
abbrev pub wrong_tier : Members → List ℕ → Data → Option Data
wrong_tier tiers name drug = option_and_then (λ tier. unless (is_tier tiers tier) tier) (of_drug key.Tier drug)

-- a drug's price that is no price
abbrev pub wrong_price : List ℕ → Data → Option Data
wrong_price name drug = option_and_then (λ price. unless (is_some (number 0 MOST_PRICE price)) price) (of_drug key.Price drug)

-- a drug without the key
abbrev pub lacking : SheetKey → List ℕ → Data → Option Data
lacking k name drug = unless (not (lacks k drug)) drug
