-- Meaning: the tier that an explanation names: the text at the key `tier` of the product's entry in the plan sheet.
use Rattle.std.specs.Prelude.{ℕ, List, Option, None}
use Rattle.std.specs.Option.{option_and_then, option_map}
use Rattle.std.specs.Result.{result_ok}
use Rattle.toml.specs.Data.{Members, as_str, as_table, get_member}
use Rattle.toml.specs.View.{table_view}
use Rattle.rx_d0_values.specs.declared.transaction.Transaction.{Transaction}
use Rattle.rx_d0_values.specs.declared.transaction.Transaction.TheVariants.{Bill, Reverse, Faulty}
use Rattle.rx_fields.specs.Digits.{digits_text}
use Rattle.rx_ledger.specs.declared.sheet_key.SheetKey.TheVariants as key
use Rattle.rx_sheet.specs.Names.{name_of}
use Rattle.rx_sheet.specs.SheetText.{tree_of}
use Rattle.rx_commands.specs.declared.tiers.Tiers.{Tiers}

-- the table of a sheet's text, where that is a TOML document
abbrev pub SheetTable : Type 0
SheetTable = Option Members

abbrev pub table_of_text : List ℕ → SheetTable
table_of_text text = result_ok (tree_of text)

-- the table that the tiers are read from
abbrev pub table_of : Tiers → SheetTable
table_of tiers = option_map table_view tiers.sheet

-- the table under a name
abbrev pub table_under : List ℕ → Members → Option Members
table_under name table = option_and_then as_table (get_member name table)

-- the name of the tier in the entry of a drug
abbrev pub tier_text : Members → Option (List ℕ)
tier_text drug = option_and_then as_str (get_member (name_of key.Tier) drug)

-- in the entry of a product, among the drugs of a sheet
abbrev pub tier_among : ℕ → Members → Option (List ℕ)
tier_among product drugs = option_and_then tier_text (table_under (digits_text 11 product) drugs)

abbrev pub tier_in : ℕ → Members → Option (List ℕ)
tier_in product sheet = option_and_then (tier_among product) (table_under (name_of key.Drugs) sheet)

-- the name of a product's tier, where there is a table
abbrev pub tier_name : SheetTable → ℕ → Option (List ℕ)
tier_name sheet product = option_and_then (tier_in product) sheet

-- that of the product that is billed
abbrev pub tier_of : SheetTable → Transaction → Option (List ℕ)
tier_of sheet (Bill b) = tier_name sheet b.product
tier_of sheet (Reverse v) = None
tier_of sheet (Faulty f) = None
