-- Text: the parts of what is said of a value of a tier or a drug.
use Rattle.std.specs.Prelude.{ℕ, List, [], codes}
use Rattle.rx_fields.specs.declared.limits.TheConstants.{MOST_CENTS}
use Rattle.rx_ledger.specs.declared.sheet_key.SheetKey.TheVariants as key
use Rattle.rx_diagnostics.specs.SheetTexts.{cents_expected, expected_at}
use Rattle.rx_diagnostics.specs.declared.sheet_drugs.Faulty.{Faulty}
use Rattle.rx_diagnostics.specs.declared.sheet_drugs.Faulty.TheVariants as faulty

-- what has the value
abbrev pub owner_of : Faulty → List ℕ
owner_of faulty.Cents = codes "tier"
owner_of faulty.Percent = codes "tier"
owner_of faulty.Drug = codes "drug"
owner_of faulty.Tier = codes "drug"
owner_of faulty.Price = codes "drug"

-- the key at which it stands there, if it does
abbrev pub part_of : Faulty → List ℕ
part_of faulty.Cents = []
part_of faulty.Percent = codes ": percent"
part_of faulty.Drug = []
part_of faulty.Tier = codes ": tier"
part_of faulty.Price = codes ": price"

-- what is expected in its place
abbrev pub expected_of : Faulty → List ℕ
expected_of faulty.Cents = cents_expected MOST_CENTS (codes "1000, or { percent = 20 }")
expected_of faulty.Percent = codes "expected a whole number from 0 to 100, e.g. 20"
expected_of faulty.Drug = codes "expected a table with tier and price"
expected_of faulty.Tier = codes "expected the name of a tier in quotes, e.g. \"1\""
expected_of faulty.Price = expected_at key.Price
