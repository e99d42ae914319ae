-- Meaning: standing claims.
use Rattle.std.specs.Prelude.{ℕ, Bool, List, Option}
use Rattle.std.specs.Option.{option_map}
use Rattle.rx_fields.specs.declared.key.Key.{Key}
use Rattle.rx_d0_values.specs.declared.pricing.Amounts.{Amounts}
use Rattle.rx_d0_values.specs.Priced.{pricing_of}
use Rattle.rx_ledger.specs.declared.member.MemberKey.{MemberKey}
use Rattle.rx_ledger.specs.declared.row.Row.{Row}
use Rattle.rx_ledger.specs.Members.{is_same}

abbrev pub row_key : Row → Key
row_key r = r.key

-- the standing claim of these figures, where they are within the limits of a claim
abbrev pub row_of : Key → List ℕ → List ℕ → ℕ → ℕ → ℕ → Amounts → ℕ → Option Row
row_of key family person product quantity days amounts number =
    option_map
    (λ pricing. record {
      key = key;
      family = family;
      person = person;
      product = product;
      quantity = quantity;
      days = days;
      pricing = pricing;
      number = number;
    })
    (pricing_of amounts)

-- the claim is one of the family
abbrev pub claimed_by : List ℕ → Row → Bool
claimed_by family r = is_same r.family family

-- the member whose claim it is
abbrev pub member_of_row : Row → MemberKey
member_of_row r = record { family = r.family; person = r.person }
