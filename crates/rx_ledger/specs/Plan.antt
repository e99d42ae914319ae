-- Meaning: what a plan sheet says, and the ranges of its figures.
use Rattle.std.specs.Prelude.{◌≡◌, ℕ, Bool, true, not, ◌&&◌, nat_le, if◌then◌else◌, List, Option, Some, None}
use Rattle.std.specs.List.{list_all}
use Rattle.std.specs.Option.{option_map}
use Rattle.std.specs.Ordering.{is_eq, nat_cmp}
use Rattle.rx_ledger.specs.declared.figures.TheConstants.{MOST_LIMIT}
use Rattle.rx_ledger.specs.declared.drug.TheConstants.{MOST_PRICE}
use Rattle.rx_fields.specs.declared.limits.TheConstants.{MOST_CENTS}
use Rattle.rx_text.specs.Bytes.{all_digits, all_printable}
use Rattle.rx_sorted.specs.Ascending.{contains_key, item_at, put}
use Rattle.rx_ledger.specs.declared.drug.Drug.{Drug}
use Rattle.rx_ledger.specs.declared.drug.Share.{Share}
use Rattle.rx_ledger.specs.declared.drug.Share.TheVariants.{Copay, Percent}
use Rattle.rx_ledger.specs.declared.figures.Figures.{Figures}
use Rattle.rx_ledger.specs.declared.sheet.Listed.{Listed}
use Rattle.rx_ledger.specs.declared.sheet_key.SheetKey.{SheetKey}
use Rattle.rx_ledger.specs.declared.sheet_key.SheetKey.TheVariants as key

-- a deductible or a maximum: at most 99,999,999,999 cents
abbrev pub is_limit : ℕ → Bool
is_limit cents = nat_le cents MOST_LIMIT

abbrev pub is_limit_if_there : Option ℕ → Bool
is_limit_if_there None = true
is_limit_if_there (Some cents) = is_limit cents

-- the first figure outside its range, by the keys' numbers
abbrev pub wrong_figure : Figures → Option SheetKey
wrong_figure f =
    if not (all_digits f.door.bin) then Some key.Bin
    else (if not (all_printable f.door.pcn) then Some key.Pcn
    else (if not (is_limit f.member_deductible) then Some key.MemberDeductible
    else (if not (is_limit f.family_maximum) then Some key.FamilyMaximum
    else (if not (nat_le f.refill_percent 100) then Some key.RefillPercent
    else (if not (nat_le 1 f.max_days && nat_le f.max_days 999) then Some key.MaxDays
    else (if not (nat_le f.fee MOST_CENTS) then Some key.Fee
    else (if not (is_limit_if_there f.family_deductible) then Some key.FamilyDeductible else None)))))))

-- each figure is within its range
abbrev pub AreFigures : Figures → Type 0
AreFigures f = wrong_figure f ≡ None

-- a copay fits its field, a percentage is at most 100
abbrev pub is_share : Share → Bool
is_share (Copay cents) = nat_le cents MOST_CENTS
is_share (Percent percent) = nat_le percent 100

-- share and price are within their ranges
abbrev pub is_drug : Drug → Bool
is_drug d = is_share d.share && nat_le d.price MOST_PRICE

-- a plan: its figures, and its drugs by product
pub record Plan : Type 0 where
  pub figures : Figures
  pub drugs : List Listed

abbrev pub listed_product : Listed → ℕ
listed_product l = l.product

abbrev pub has_product : ℕ → Listed → Bool
has_product product l = is_eq (nat_cmp l.product product)

-- what the plan says of a product, where it lists it
abbrev pub drug_of : Plan → ℕ → Option Drug
drug_of plan product = option_map (λ l. l.drug) (item_at nat_cmp listed_product plan.drugs product)

-- the plan lists the product
abbrev pub lists : Plan → ℕ → Bool
lists plan product = contains_key nat_cmp listed_product plan.drugs product

-- the plan with one more drug
abbrev pub with_drug : Plan → ℕ → Drug → Plan
with_drug plan product drug =
    record plan { drugs = put nat_cmp listed_product plan.drugs (record { product = product; drug = drug }) }

-- each listed drug is within its ranges
abbrev pub are_drugs : List Listed → Bool
are_drugs drugs = list_all (λ l. is_drug l.drug) drugs
