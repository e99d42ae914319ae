-- Meaning: the names of the plan sheet's keys (docs/FORMATS.md, "Plan sheet").
use Rattle.std.specs.Prelude.{ℕ, List, codes}
use Rattle.rx_ledger.specs.declared.sheet_key.SheetKey.{SheetKey}
use Rattle.rx_ledger.specs.declared.sheet_key.SheetKey.TheVariants as key

-- how a key is written, in the order of the keys' numbers
unfoldable pub name_of : SheetKey → List ℕ
name_of key.Bin = codes "bin"
name_of key.Pcn = codes "pcn"
name_of key.PeriodFirst = codes "period_first"
name_of key.PeriodLast = codes "period_last"
name_of key.MemberDeductible = codes "member_deductible"
name_of key.FamilyMaximum = codes "family_maximum"
name_of key.RefillPercent = codes "refill_percent"
name_of key.MaxDays = codes "max_days"
name_of key.Fee = codes "fee"
name_of key.Tiers = codes "tiers"
name_of key.Drugs = codes "drugs"
name_of key.Tier = codes "tier"
name_of key.Price = codes "price"
name_of key.FamilyDeductible = codes "family_deductible"
