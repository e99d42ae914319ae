-- The sheets of docs/FORMATS.md and of tests/cases/README.md, "damaged-sheets", as the definition reads their trees.
use Rattle.std.proofs.Common.{◌≡◌, ℕ, ℤ, List, [], ◌∷◌, Option, Some, None, Ok, Err, refl}
use Rattle.std.specs.Prelude.{codes, pos, negsuc}
use Rattle.toml.specs.Data.{Data, string, integer, table, Members, no_members, member}
use Rattle.rx_ledger.specs.Plan.{Plan}
use Rattle.rx_ledger.specs.declared.drug.Share.TheVariants.{Copay, Percent}
use Rattle.rx_ledger.specs.declared.figures.Figures.{Figures}
use Rattle.rx_ledger.specs.declared.sheet.Listed.{Listed}
use Rattle.rx_ledger.specs.declared.sheet_key.SheetKey.TheVariants as key
use Rattle.rx_sheet.specs.Drugs.{ascending, drug_in, drugs_in, drugs_of, listed_in, share_in, tiers_in}
use Rattle.rx_sheet.specs.Figures.{door_in, period_in, figures_in, family_deductible_in}
use Rattle.rx_sheet.specs.Names.{name_of}
use Rattle.rx_sheet.specs.SheetText.{sheet_in}
use Rattle.rx_sheet.specs.declared.fault.SheetFault.TheVariants as fault

-- a drug's table
abbrev pub drug : List ℕ → ℕ → Data
drug tier price = table (member (codes "price") (integer (pos price)) (member (codes "tier") (string tier) no_members))

-- a sheet's tree, its keys in the order of their bytes, with what the cases change
abbrev pub tree : (tier : List ℕ) (fourth : Members) (family fee : Members → Members) (refill : ℕ) → Members
tree tier fourth family fee refill =
    member (codes "bin") (string (codes "900001"))
    (member (codes "drugs") (table
    (member (codes "00001000101") (drug (codes "1") 2500)
    (member (codes "00002000202") (drug tier 100000)
    (member (codes "00003000303") (drug (codes "1") 5000) no_members))))
    (family
    (member (codes "family_maximum") (integer (pos 30000))
    (fee
    (member (codes "max_days") (integer (pos 90))
    (member (codes "member_deductible") (integer (pos 10000))
    (member (codes "pcn") (string (codes "RXDEMO"))
    (member (codes "period_first") (string (codes "20260101"))
    (member (codes "period_last") (string (codes "20261231"))
    (member (codes "refill_percent") (integer (pos refill))
    (member (codes "tiers") (table
    (member (codes "1") (integer (pos 1000))
    (member (codes "2") (integer (pos 3000)) fourth))) no_members)))))))))))

abbrev pub none : Members → Members
none rest = rest

abbrev pub fee : Members → Members
fee rest = member (codes "fee") (integer (pos 175)) rest

abbrev family_deductible : ℤ → Members → Members
family_deductible cents rest = member (codes "family_deductible") (integer cents) rest

abbrev percent : ℕ → Members
percent n = member (codes "4") (table (member (codes "percent") (integer (pos n)) no_members)) no_members

abbrev listed : ℕ → ℕ → ℕ → Listed
listed product copay price = record { product = product; drug = record { share = Copay copay; price = price } }

abbrev plan : Option ℕ → Plan
plan family =
    record {
      figures = record {
        door = record { bin = codes "900001"; pcn = codes "RXDEMO    " };
        period = record {
          first = record { year = 2026; month = 1; day = 1 };
          last = record { year = 2026; month = 12; day = 31 };
        };
        member_deductible = 10000;
        family_maximum = 30000;
        refill_percent = 75;
        max_days = 90;
        fee = 175;
        family_deductible = family;
      };
      drugs = listed 1000101 1000 2500 ∷ listed 2000202 3000 100000 ∷ listed 3000303 1000 5000 ∷ [];
    }

-- ---- the worked cases

plain : sheet_in (tree (codes "2") no_members none fee 75) ≡ Ok (plan None)
unfolding sheet_in figures_in door_in period_in drugs_in drugs_of listed_in drug_in family_deductible_in name_of
plain = refl

with_family_deductible : sheet_in (tree (codes "2") no_members (family_deductible (pos 15000)) fee 75) ≡ Ok (plan (Some 15000))
unfolding sheet_in figures_in door_in period_in drugs_in drugs_of listed_in drug_in family_deductible_in name_of
with_family_deductible = refl

without_fee : sheet_in (tree (codes "2") no_members none none 75) ≡ Err (fault.Missing key.Fee)
unfolding sheet_in figures_in door_in period_in drugs_in drugs_of listed_in drug_in family_deductible_in name_of
without_fee = refl

refill_percent_of_101 : sheet_in (tree (codes "2") no_members none fee 101) ≡ Err (fault.Wrong key.RefillPercent)
unfolding sheet_in figures_in door_in period_in drugs_in drugs_of listed_in drug_in family_deductible_in name_of
refill_percent_of_101 = refl

unknown_tier : sheet_in (tree (codes "9") no_members none fee 75) ≡ Err (fault.Wrong key.Tier)
unfolding sheet_in figures_in door_in period_in drugs_in drugs_of listed_in drug_in family_deductible_in name_of
unknown_tier = refl

percent_of_101 : sheet_in (tree (codes "2") (percent 101) none fee 75) ≡ Err (fault.Wrong key.Tiers)
unfolding sheet_in figures_in door_in period_in drugs_in drugs_of listed_in drug_in family_deductible_in name_of
percent_of_101 = refl

negative_family_deductible : sheet_in (tree (codes "2") no_members (family_deductible (negsuc 0)) fee 75)
    ≡ Err (fault.Wrong key.FamilyDeductible)
unfolding sheet_in figures_in door_in period_in drugs_in drugs_of listed_in drug_in family_deductible_in name_of
negative_family_deductible = refl

-- ---- the ends of the ranges

-- the figures' keys, their numbers in the order of the keys' numbers
abbrev numbers : ℕ → ℕ → ℕ → ℕ → ℕ → Members
numbers member_deductible family_maximum refill_percent max_days cents =
    member (codes "bin") (string (codes "900001"))
    (member (codes "family_maximum") (integer (pos family_maximum))
    (member (codes "fee") (integer (pos cents))
    (member (codes "max_days") (integer (pos max_days))
    (member (codes "member_deductible") (integer (pos member_deductible))
    (member (codes "pcn") (string (codes "RXDEMO"))
    (member (codes "period_first") (string (codes "20260101"))
    (member (codes "period_last") (string (codes "20261231"))
    (member (codes "refill_percent") (integer (pos refill_percent)) no_members))))))))

abbrev with_numbers : ℕ → ℕ → ℕ → ℕ → ℕ → Figures
with_numbers member_deductible family_maximum refill_percent max_days cents =
    record (plan None).figures {
      member_deductible = member_deductible;
      family_maximum = family_maximum;
      refill_percent = refill_percent;
      max_days = max_days;
      fee = cents;
    }

least : figures_in (numbers 0 0 0 1 0) ≡ Ok (with_numbers 0 0 0 1 0)
unfolding figures_in door_in period_in name_of
least = refl

largest : figures_in (numbers 99_999_999_999 99_999_999_999 100 999 99_999_999)
    ≡ Ok (with_numbers 99_999_999_999 99_999_999_999 100 999 99_999_999)
unfolding figures_in door_in period_in name_of
largest = refl

no_days : figures_in (numbers 0 0 0 0 0) ≡ Err (fault.Wrong key.MaxDays)
unfolding figures_in door_in period_in name_of
no_days = refl

largest_family_deductible : family_deductible_in (family_deductible (pos 99_999_999_999) no_members) ≡ Ok (Some 99_999_999_999)
unfolding family_deductible_in name_of
largest_family_deductible = refl

largest_copay : share_in (integer (pos 99_999_999)) ≡ Some (Copay 99_999_999)
largest_copay = refl

largest_percentage : tiers_in (table (percent 100)) ≡ Some (percent 100)
largest_percentage = refl

largest_price : drug_in (percent 100) (drug (codes "4") 1_000_000_000)
    ≡ Ok (record { share = Percent 100; price = 1_000_000_000 })
unfolding drug_in name_of
largest_price = refl

-- drugs that stand in another order are taken by their keys
by_key : (a b c : Data) → ascending (member (codes "2") a (member (codes "3") b (member (codes "1") c no_members)))
    ≡ member (codes "1") c (member (codes "2") a (member (codes "3") b no_members))
by_key a b c = refl
