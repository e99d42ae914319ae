-- Meaning: the tiers and the drugs of a sheet: keys 10 to 13.
use Rattle.std.specs.Prelude.{◌≡◌, ℕ, Bool, true, ◌&&◌, if◌then◌else◌, codes, List, [], ◌∷◌, Option, Some, None, Result, Ok}
use Rattle.std.specs.Option.{is_some, ok_or, option_and_then, option_map}
use Rattle.std.specs.Ordering.{nat_cmp}
use Rattle.rx_fields.specs.declared.limits.TheConstants.{MOST_CENTS}
use Rattle.toml.specs.Data.{Data, integer, table, Members, no_members, member, get_member, is_before, as_str, as_table}
use Rattle.rx_fields.specs.Numbered.{product_of}
use Rattle.rx_ledger.specs.Plan.{are_drugs, listed_product}
use Rattle.rx_ledger.specs.declared.drug.Drug.{Drug}
use Rattle.rx_ledger.specs.declared.drug.TheConstants.{MOST_PRICE}
use Rattle.rx_ledger.specs.declared.drug.Share.{Share}
use Rattle.rx_ledger.specs.declared.drug.Share.TheVariants.{Copay, Percent}
use Rattle.rx_ledger.specs.declared.sheet.Listed.{Listed}
use Rattle.rx_ledger.specs.declared.sheet_key.SheetKey.TheVariants as key
use Rattle.rx_sorted.specs.Ascending.{IsAscending}
use Rattle.rx_sheet.specs.declared.fault.SheetFault.{SheetFault}
use Rattle.rx_sheet.specs.declared.fault.SheetFault.TheVariants.{Wrong}
use Rattle.rx_text.specs.Results.{◌>>=◌}
use Rattle.rx_sheet.specs.Values.{read_at, number, whole}

-- the percentage of a tier that is a table
abbrev pub percent_in : Members → Option ℕ
percent_in tier = option_and_then (number 0 100) (get_member (codes "percent") tier)

-- what a member pays in a tier: a copay in cents, or a table with a percentage
abbrev pub share_in : Data → Option Share
share_in (integer cents) = option_map Copay (whole 0 MOST_CENTS cents)
share_in (table tier) = option_map Percent (percent_in tier)
share_in other = None

-- each tier says what a member pays
abbrev pub are_shares : Members → Bool
are_shares no_members = true
are_shares (member name tier tiers) = is_some (share_in tier) && are_shares tiers

-- a table of tiers, each of which says what a member pays
abbrev pub tier_table : Members → Option Members
tier_table tiers = if are_shares tiers then Some tiers else None

abbrev pub tiers_in : Data → Option Members
tiers_in value = option_and_then tier_table (as_table value)

-- the share of the tier that a text names
abbrev pub share_of : Members → Data → Option Share
share_of tiers value = option_and_then (λ name. option_and_then share_in (get_member name tiers)) (as_str value)

-- what the plan says of a drug, which has to be a table: its tier, then its price
unfoldable pub drug_in : Members → Data → Result Drug SheetFault
drug_in tiers value = do
  drug ← ok_or (as_table value) (Wrong key.Drugs)
  share ← read_at key.Tier (share_of tiers) drug
  price ← read_at key.Price (number 0 MOST_PRICE) drug
  Ok (record { share = share; price = price })

-- a drug under its product
unfoldable pub listed_in : Members → List ℕ → Data → Result Listed SheetFault
listed_in tiers name value = do
  product ← ok_or (product_of name) (Wrong key.Drugs)
  drug ← drug_in tiers value
  Ok (record { product = product; drug = drug })

-- the members with one more, before the first whose key is greater
abbrev pub among : List ℕ → Data → Members → Members
among name value no_members = member name value no_members
among name value (member other there more) =
    if is_before name (member other there more) then member name value (member other there more)
    else member other there (among name value more)

-- the members in the order of their keys' bytes, in whatever order they stand
abbrev pub ascending : Members → Members
ascending no_members = no_members
ascending (member name value more) = among name value (ascending more)

-- the drugs of a table, one after another
unfoldable pub drugs_of : Members → Members → Result (List Listed) SheetFault
drugs_of tiers no_members = Ok []
drugs_of tiers (member name value drugs) =
    listed_in tiers name value >>= λ first. drugs_of tiers drugs >>= λ more. Ok (first ∷ more)

-- keys 10 and 11 with the drugs, ascending by key
unfoldable pub drugs_in : Members → Result (List Listed) SheetFault
drugs_in sheet = do
  tiers ← read_at key.Tiers tiers_in sheet
  drugs ← read_at key.Drugs as_table sheet
  drugs_of tiers (ascending drugs)

-- what a plan's drugs have to be: each within its ranges, ascending by product
pub record AreListed (drugs : List Listed) : Type 0 where
  pub fit : are_drugs drugs ≡ true
  pub ascending : IsAscending nat_cmp listed_product drugs
