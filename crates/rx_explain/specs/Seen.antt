-- Meaning: what a pharmacy may see of the explanation of its own transaction: its own claims whole, of other pharmacies' claims
-- only dates and amounts.
use Rattle.std.specs.Prelude.{◌≡◌, ℕ, Bool, true, false, not, if◌then◌else◌, List, [], ◌++◌, ◌⊎◌}
use Rattle.std.specs.Prelude.{Option, Some, None, codes, map}
use Rattle.std.specs.List.{filter}
use Rattle.std.specs.List.Sorted.{IsPermutation, IsSortedByKey}
use Rattle.rx_d0_values.specs.declared.bill.BillParts.{BillParts}
use Rattle.rx_d0_values.specs.declared.transaction.Transaction.{Transaction}
use Rattle.rx_d0_values.specs.declared.transaction.Transaction.TheVariants.{Bill}
use Rattle.rx_explain.specs.declared.explanation.Explanation.{Explanation}
use Rattle.rx_explain.specs.declared.traced.Source.TheVariants.{Elsewhere}
use Rattle.rx_explain.specs.declared.traced.Traced.{Traced}
use Rattle.rx_explain.specs.Shown.{numbers_of}
use Rattle.rx_ledger.specs.Members.{is_same}
use Rattle.rx_sorted.specs.Orders.{text_cmp}

-- ---- one claim

-- the claim is one of the pharmacy; or, where that is asked, one of another
abbrev pub is_own : List ℕ → Traced → Bool
is_own provider t = is_same t.row.key.provider provider

abbrev pub is_of : Bool → List ℕ → Traced → Bool
is_of true provider t = is_own provider t
is_of false provider t = not (is_own provider t)

-- a person code that isn't this one
abbrev pub another : List ℕ → List ℕ
another person = if is_same person (codes "01") then codes "02" else codes "01"

-- the person, where it is this one, else another
abbrev pub person_if : List ℕ → Bool → List ℕ
person_if person true = person
person_if person false = another person

-- the claim is of the person who is billed for
abbrev pub is_person : BillParts → Traced → Bool
is_person b t = is_same t.row.person b.person

-- what is visible of another pharmacy's claim: its date, whether it is of that person, and its amounts
abbrev pub visible : BillParts → Traced → List ℕ
visible b t = numbers_of (is_person b t) t.row

-- the claim with nothing else of its own: pharmacy, prescription, family, product, quantity, days and number are those of the
-- transaction that is explained, and so is the person, or one who isn't that
abbrev pub masked : Explanation → BillParts → Traced → Traced
masked x b t =
    record {
      row = record {
        key = record { provider = x.provider; reference = b.reference; date = t.row.key.date };
        family = b.family;
        person = person_if b.person (is_person b t);
        days = b.days;
        pricing = t.row.pricing;
        product = b.product;
        quantity = b.quantity;
        number = x.number;
      };
      source = Elsewhere;
      taken_back = None;
    }

-- an own claim as it is, another's masked
abbrev pub seen_claim : Explanation → BillParts → Traced → Traced
seen_claim x b t = if is_own x.provider t then t else masked x b t

-- ---- an explanation

-- the fill that makes a billing too soon may be another pharmacy's; every other claim that decides is an own one
abbrev pub seen_standing : Explanation → Transaction → Option Traced → Option Traced
seen_standing x (Bill b) (Some t) = Some (seen_claim x b t)
seen_standing x t standing = standing

-- of the claims that are counted the own ones in their order, then the others masked, in the order of what is visible of them:
-- their own order hangs on names
pub record AreSeenOf (x : Explanation) (b : BillParts) (counted shown : List Traced) : Type 0 where
  pub others : List Traced
  pub moved : IsPermutation (filter (is_of false x.provider) counted) others
  pub rise : IsSortedByKey (visible b) text_cmp others
  pub shown_are : shown ≡ filter (is_of true x.provider) counted ++ map (masked x b) others

-- of a billing; no other transaction counts claims
abbrev pub AreSeen : Explanation → Transaction → List Traced → List Traced → Type 0
AreSeen x (Bill b) counted shown = AreSeenOf x b counted shown
AreSeen x t counted shown = shown ≡ []

-- y is what the pharmacy whose transaction it is may see of x
pub record IsSeen (x y : Explanation) : Type 0 where
  pub at_is : y.at ≡ x.at
  pub provider_is : y.provider ≡ x.provider
  pub date_is : y.date ≡ x.date
  pub number_is : y.number ≡ x.number
  pub transaction_is : y.transaction ≡ x.transaction
  pub decision_is : y.decision ≡ x.decision
  pub answer_is : y.answer ≡ x.answer
  pub standing_is : y.standing ≡ seen_standing x x.transaction x.standing
  pub open_from_is : y.open_from ≡ x.open_from
  pub workings_are : y.workings ≡ x.workings
  pub counted_are : AreSeen x x.transaction x.counted.items y.counted.items

-- ---- explanations that differ only in names, products, prescriptions and pharmacies of other pharmacies' claims

-- claims of which the same is visible, both of other pharmacies; or one claim
abbrev pub IsClaimAlike : List ℕ → BillParts → Traced → Traced → Type 0
IsClaimAlike provider b t u =
    (t ≡ u) ⊎ ((is_own provider t ≡ false) × (is_own provider u ≡ false) × (visible b t ≡ visible b u))

abbrev pub IsDeciderAlike : List ℕ → Transaction → Option Traced → Option Traced → Type 0
IsDeciderAlike provider (Bill b) (Some t) (Some u) = IsClaimAlike provider b t u
IsDeciderAlike provider t standing other = standing ≡ other

-- the own ones are the same, in order; of the others the same is visible, in any order
pub record AreAlikeOf (provider : List ℕ) (b : BillParts) (ts us : List Traced) : Type 0 where
  pub own_are : filter (is_of true provider) ts ≡ filter (is_of true provider) us
  pub others_are : IsPermutation (map (visible b) (filter (is_of false provider) ts)) (map (visible b) (filter (is_of false provider) us))

abbrev pub AreAlike : List ℕ → Transaction → List Traced → List Traced → Type 0
AreAlike provider (Bill b) ts us = AreAlikeOf provider b ts us
AreAlike provider t ts us = Unit {0}

pub record IsAlike (x y : Explanation) : Type 0 where
  pub at_is : x.at ≡ y.at
  pub provider_is : x.provider ≡ y.provider
  pub date_is : x.date ≡ y.date
  pub number_is : x.number ≡ y.number
  pub transaction_is : x.transaction ≡ y.transaction
  pub decision_is : x.decision ≡ y.decision
  pub answer_is : x.answer ≡ y.answer
  pub standing_is : IsDeciderAlike x.provider x.transaction x.standing y.standing
  pub open_from_is : x.open_from ≡ y.open_from
  pub workings_are : x.workings ≡ y.workings
  pub counted_are : AreAlike x.provider x.transaction x.counted.items y.counted.items

-- ---- explanations that say the same

pub record IsSameSaid (x y : Explanation) : Type 0 where
  pub at_is : x.at ≡ y.at
  pub provider_is : x.provider ≡ y.provider
  pub date_is : x.date ≡ y.date
  pub number_is : x.number ≡ y.number
  pub transaction_is : x.transaction ≡ y.transaction
  pub decision_is : x.decision ≡ y.decision
  pub answer_is : x.answer ≡ y.answer
  pub standing_is : x.standing ≡ y.standing
  pub open_from_is : x.open_from ≡ y.open_from
  pub workings_are : x.workings ≡ y.workings
  pub counted_are : x.counted.items ≡ y.counted.items
