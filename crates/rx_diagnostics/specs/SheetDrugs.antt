-- Meaning: what is said of the tiers and the drugs of a plan sheet: the first one at fault by its name, and its value.
use Rattle.std.specs.Prelude.{◌≡◌, ℕ, List, [], ◌∷◌, ◌++◌, codes, MatchBool, Option, Some, None}
use Rattle.std.specs.Fmt.{decimal}
use Rattle.std.specs.Option.{option_and_then}
use Rattle.toml.specs.Data.{Data, string, table, Members, as_table, get_member}
use Rattle.rx_fields.specs.declared.limits.TheConstants.{MOST_CENTS}
use Rattle.rx_ledger.specs.declared.sheet_key.SheetKey.{SheetKey}
use Rattle.rx_ledger.specs.declared.sheet_key.SheetKey.TheVariants as key
use Rattle.rx_sheet.specs.Names.{name_of}
use Rattle.rx_diagnostics.specs.Likeness.{nearest}
use Rattle.rx_diagnostics.specs.Quoting.{quoted_text}
use Rattle.rx_diagnostics.specs.SheetNames.{names_in, names_text}
use Rattle.rx_diagnostics.specs.SheetTexts.{expected_at, wrong_text}
use Rattle.rx_diagnostics.specs.declared.sheet_drugs.Faulty.{Faulty}
use Rattle.rx_diagnostics.specs.declared.sheet_drugs.Faulty.TheVariants as faulty
use Rattle.rx_diagnostics.specs.SheetValues.{TellsOf, first_wrong, is_product, lacking, wrong_drug, wrong_price, wrong_share}
use Rattle.rx_diagnostics.specs.SheetValues.{wrong_tier}

-- the table at a key of the sheet
abbrev pub table_under : SheetKey → Members → Option Members
table_under k sheet = option_and_then as_table (get_member (name_of k) sheet)

abbrev pub no_table_text : SheetKey → List ℕ
no_table_text k = name_of k ++ (codes " isn't a table: " ++ expected_at k)

-- what is said of a value: of a tier, named in quotes; of a drug, of its tier and of its price, by the drug's name
unfoldable pub said_of : Faulty → List ℕ → List ℕ → List ℕ
said_of faulty.Cents name shown =
    codes "tier " ++ (name ++ (codes " = " ++ (shown ++ (codes ": expected whole cents from 0 to "
    ++ (decimal MOST_CENTS ++ codes ", e.g. 1000, or { percent = 20 }")))))
said_of faulty.Percent name shown =
    codes "tier " ++ (name ++ (codes ": percent = " ++ (shown ++ codes ": expected a whole number from 0 to 100, e.g. 20")))
said_of faulty.Drug name shown =
    codes "drug " ++ (name ++ (codes " = " ++ (shown ++ codes ": expected a table with tier and price")))
said_of faulty.Tier name shown =
    codes "drug " ++ (name ++ (codes ": tier = " ++ (shown ++ codes ": expected the name of a tier in quotes, e.g. \"1\"")))
said_of faulty.Price name shown =
    codes "drug " ++ (name ++ (codes ": price = " ++ (shown ++ (codes ": " ++ expected_at key.Price))))

-- ---- tiers and drugs

unfoldable pub no_percent_text : List ℕ → List ℕ
no_percent_text name =
    codes "tier " ++ (quoted_text name ++ codes " is a table without percent: expected { percent = 20 }")

abbrev pub TellsPercent : List ℕ → Option Data → List ℕ → Type 0
TellsPercent name None said = said ≡ no_percent_text name
TellsPercent name (Some percent) said = TellsOf percent (said_of faulty.Percent (quoted_text name)) said

-- a tier that says no share: a table by its percentage, another value as it stands
abbrev pub TellsShare : List ℕ → Data → List ℕ → Type 0
TellsShare name (table tier) said = TellsPercent name (get_member (codes "percent") tier) said
TellsShare name other said = TellsOf other (said_of faulty.Cents (quoted_text name)) said

unfoldable pub product_text : List ℕ → List ℕ
product_text name = codes "drug " ++ (quoted_text name ++ codes ": a product is 11 digits without dashes, as 00001000101")

-- a drug that is no table, or whose name is no product
abbrev pub TellsDrug : List ℕ → Data → List ℕ → Type 0
TellsDrug name drug said = MatchBool (is_product name) (TellsOf drug (said_of faulty.Drug name) said) (said ≡ product_text name)

-- of the tiers, or of the drugs
abbrev pub TellsEntry : SheetKey → List ℕ → Data → List ℕ → Type 0
TellsEntry key.Tiers name tier said = TellsShare name tier said
TellsEntry other name drug said = TellsDrug name drug said

-- the first that is wrong
abbrev pub TellsFirst : SheetKey → Option (List ℕ × Data) → List ℕ → Type 0
TellsFirst k None said = said ≡ wrong_text k
TellsFirst k (Some entry) said = TellsEntry k entry.0 entry.1 said

abbrev pub TellsTable : SheetKey → (List ℕ → Data → Option Data) → Option Members → List ℕ → Type 0
TellsTable k test None said = said ≡ no_table_text k
TellsTable k test (Some entries) said = TellsFirst k (first_wrong test entries) said

-- ---- a drug's tier and price

abbrev pub drugs_key_text : SheetKey → List ℕ
drugs_key_text k = name_of k ++ (codes " of a drug is wrong: " ++ expected_at k)

-- which tiers there are
unfoldable pub tiers_text : List (List ℕ) → List ℕ
tiers_text [] = codes "; there are no tiers"
tiers_text (name ∷ names) = codes "; the tiers are" ++ names_text (name ∷ names)

-- the name that may be meant, if there is one
unfoldable pub like_text : Option (List ℕ) → List ℕ
like_text None = []
like_text (Some name) = codes ": is " ++ (quoted_text name ++ codes " meant?")

unfoldable pub others_text : List (List ℕ) → List ℕ → List ℕ
others_text names tier = tiers_text names ++ like_text (nearest tier names)

abbrev pub unknown_said : List ℕ → List ℕ → List ℕ → List ℕ
unknown_said drug tier others =
    codes "drug " ++ (drug ++ (codes ": tier = " ++ (tier ++ (codes ": no tier has this name" ++ others))))

unfoldable pub unknown_tier_text : List (List ℕ) → List ℕ → List ℕ → List ℕ
unknown_tier_text names drug tier = unknown_said drug (quoted_text tier) (others_text names tier)

abbrev pub TellsTier : List (List ℕ) → List ℕ → Data → List ℕ → Type 0
TellsTier names drug (string tier) said = said ≡ unknown_tier_text names drug tier
TellsTier names drug other said = TellsOf other (said_of faulty.Tier drug) said

abbrev pub TellsFirstTier : List (List ℕ) → Option (List ℕ × Data) → List ℕ → Type 0
TellsFirstTier names None said = said ≡ drugs_key_text key.Tier
TellsFirstTier names (Some tier) said = TellsTier names tier.0 tier.1 said

-- the first drug whose tier is none of the tiers, where there are both
abbrev pub first_unknown : Option Members → Option Members → Option (List ℕ × Data)
first_unknown (Some tiers) drugs = option_and_then (first_wrong (wrong_tier tiers)) drugs
first_unknown None drugs = None

abbrev pub TellsTierOf : Option Members → Option Members → List ℕ → Type 0
TellsTierOf (Some tiers) drugs said = TellsFirstTier (names_in [] tiers) (first_unknown (Some tiers) drugs) said
TellsTierOf None drugs said = TellsFirstTier [] None said

abbrev pub TellsFirstPrice : Option (List ℕ × Data) → List ℕ → Type 0
TellsFirstPrice None said = said ≡ drugs_key_text key.Price
TellsFirstPrice (Some price) said = TellsOf price.1 (said_of faulty.Price price.0) said

abbrev pub TellsPrice : Option Members → List ℕ → Type 0
TellsPrice drugs said = TellsFirstPrice (option_and_then (first_wrong wrong_price) drugs) said

-- ---- a drug without a key

abbrev pub lacking_key_text : SheetKey → List ℕ → List ℕ
lacking_key_text k drug = codes "drug " ++ (drug ++ (codes ": " ++ (name_of k ++ (codes " is missing: " ++ expected_at k))))

abbrev pub missing_of_drug_text : SheetKey → List ℕ
missing_of_drug_text k = name_of k ++ (codes " of a drug is missing: " ++ expected_at k)

abbrev pub lacking_text : SheetKey → Option (List ℕ × Data) → List ℕ
lacking_text k None = missing_of_drug_text k
lacking_text k (Some drug) = lacking_key_text k drug.0

-- the first drug without the key
unfoldable pub no_key_text : SheetKey → Option Members → List ℕ
no_key_text k drugs = lacking_text k (option_and_then (first_wrong (lacking k)) drugs)

-- ---- each key

unfoldable pub TellsOfDrugs : SheetKey → Members → List ℕ → Type 0
TellsOfDrugs key.Tiers sheet said = TellsTable key.Tiers wrong_share (table_under key.Tiers sheet) said
TellsOfDrugs key.Drugs sheet said = TellsTable key.Drugs wrong_drug (table_under key.Drugs sheet) said
TellsOfDrugs key.Tier sheet said = TellsTierOf (table_under key.Tiers sheet) (table_under key.Drugs sheet) said
TellsOfDrugs other sheet said = TellsPrice (table_under key.Drugs sheet) said
