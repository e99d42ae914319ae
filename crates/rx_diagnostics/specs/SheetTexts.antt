-- Text: what is said of faults of a plan sheet: the key, and what is expected under it.
use Rattle.std.specs.Prelude.{ℕ, List, ◌++◌, codes}
use Rattle.std.specs.Fmt.{decimal}
use Rattle.rx_fields.specs.declared.limits.TheConstants.{MOST_CENTS}
use Rattle.rx_ledger.specs.declared.drug.TheConstants.{MOST_PRICE}
use Rattle.rx_ledger.specs.declared.figures.TheConstants.{MOST_LIMIT}
use Rattle.rx_ledger.specs.declared.sheet_key.SheetKey.{SheetKey}
use Rattle.rx_ledger.specs.declared.sheet_key.SheetKey.TheVariants as key
use Rattle.rx_sheet.specs.Names.{name_of}
use Rattle.rx_sheet.specs.declared.fault.SheetFault.{SheetFault}
use Rattle.rx_sheet.specs.declared.fault.SheetFault.TheVariants as fault

-- an amount up to a limit, as this one
abbrev pub cents_expected : ℕ → List ℕ → List ℕ
cents_expected most example = codes "expected whole cents from 0 to " ++ (decimal most ++ (codes ", e.g. " ++ example))

-- a price of a drug
abbrev pub price_expected : List ℕ
price_expected = codes "expected hundredths of a cent per unit, a whole number from 0 to " ++ decimal MOST_PRICE

-- what is expected under each key, in its order
unfoldable pub expected_at : SheetKey → List ℕ
expected_at key.Bin = codes "expected 6 digits in quotes, e.g. \"900001\""
expected_at key.Pcn = codes "expected 0 to 10 printable characters in quotes, e.g. \"RXDEMO\""
expected_at key.PeriodFirst = codes "expected 8 digits in quotes, e.g. \"20260101\""
expected_at key.PeriodLast = codes "expected 8 digits in quotes, e.g. \"20261231\""
expected_at key.MemberDeductible = cents_expected MOST_LIMIT (codes "10000")
expected_at key.FamilyMaximum = cents_expected MOST_LIMIT (codes "30000")
expected_at key.RefillPercent = codes "expected a whole number from 0 to 100, e.g. 75"
expected_at key.MaxDays = codes "expected a whole number from 1 to 999, e.g. 90"
expected_at key.Fee = cents_expected MOST_CENTS (codes "150")
expected_at key.Tiers = codes "expected a table, e.g. [tiers] with a line 1 = 1000"
expected_at key.Drugs = codes "expected tables, e.g. [drugs.00001000101] with tier and price"
expected_at key.Tier = codes "expected the name of one of the tiers in quotes"
expected_at key.Price = price_expected
expected_at key.FamilyDeductible = cents_expected MOST_LIMIT (codes "10000")

-- a key that isn't there
abbrev pub missing_text : SheetKey → List ℕ
missing_text k = name_of k ++ (codes " is missing: " ++ expected_at k)

-- a key whose value isn't known
abbrev pub wrong_text : SheetKey → List ℕ
wrong_text k = name_of k ++ (codes " is wrong: " ++ expected_at k)

abbrev pub no_memory_text : List ℕ
no_memory_text = codes "out of memory"

-- what is said where the text can't be read again
abbrev pub unread_sheet_text : SheetFault → List ℕ
unread_sheet_text fault.NotToml = codes "not TOML"
unread_sheet_text (fault.Missing k) = missing_text k
unread_sheet_text (fault.Wrong k) = wrong_text k
unread_sheet_text fault.Memory = no_memory_text
