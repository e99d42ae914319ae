-- Meaning: a family as a value of JSON. Amounts are in cents, quantities in thousandths; what isn't known is null.
use Rattle.std.specs.Prelude.{ℕ, List, [], ◌∷◌, ◌++◌, Option, Some, None, codes, map}
use Rattle.rx_d0_values.specs.Priced.{allowed, patient_pay, total_paid}
use Rattle.rx_fields.specs.Calendar.{Civil, date_text}
use Rattle.rx_fields.specs.Digits.{digits_text}
use Rattle.rx_fields.specs.Numbered.{Span}
use Rattle.rx_ledger.specs.declared.row.Row.{Row}
use Rattle.rx_print.specs.Dates.{dashed}
use Rattle.rx_print.specs.JsonData.{Value, Null, Text, array, object}
use Rattle.rx_report.specs.LinesData.{count_data, known_data, text_data}
use Rattle.rx_commands.specs.declared.family.families.Family.{Family}
use Rattle.rx_commands.specs.declared.family.families.FamilyMember.{FamilyMember}
use Rattle.rx_commands.specs.declared.family.families.Total.{Total}
use Rattle.rx_commands.specs.declared.family.sums.Claim.{Claim}
use Rattle.rx_commands.specs.FamilyCells.{reached_cell}

abbrev pub day_data : Civil → Value
day_data day = Text (dashed day)

-- the authorization number of the claim with which a limit was reached
abbrev pub reached_data : Option Row → Value
reached_data None = Null
reached_data (Some r) = Text (digits_text 15 r.number)

-- a sum, what is left of its limit, and the claim with which the limit was reached
abbrev pub total_data : Total → Value
total_data t =
    object ((codes "sum", count_data t.sum) ∷ (codes "left", known_data t.left) ∷ (codes "reached", reached_data t.reached) ∷ [])

abbrev pub span_members : Span → List (List ℕ × Value)
span_members span = (codes "first", day_data span.first) ∷ (codes "last", day_data span.last) ∷ []

-- a member, its coverage and its deductible
abbrev pub member_data : FamilyMember → Value
member_data m =
    object ((codes "person", Text m.member.key.person)
    ∷ (span_members m.member.coverage ++ (codes "deductible", total_data m.deductible) ∷ []))

-- a claim, with the sums over it and those before it
abbrev pub claim_members : Claim → List (List ℕ × Value)
claim_members c =
    (codes "date", text_data (date_text c.row.key.date))
    ∷ (codes "person", text_data c.row.person)
    ∷ (codes "prescription", count_data c.row.key.reference)
    ∷ (codes "provider", text_data c.row.key.provider)
    ∷ (codes "product", text_data (digits_text 11 c.row.product))
    ∷ (codes "quantity", count_data c.row.quantity)
    ∷ (codes "days", count_data c.row.days)
    ∷ (codes "allowed", count_data (allowed c.row.pricing))
    ∷ (codes "deductible", count_data c.row.pricing.deductible)
    ∷ (codes "copay", count_data c.row.pricing.copay)
    ∷ (codes "coinsurance", count_data c.row.pricing.coinsurance)
    ∷ (codes "member_pays", count_data (patient_pay c.row.pricing))
    ∷ (codes "plan_pays", count_data (total_paid c.row.pricing))
    ∷ (codes "authorization", text_data (digits_text 15 c.row.number))
    ∷ (codes "deductible_sum", count_data c.deductible.sum)
    ∷ (codes "family_deductible_sum", count_data c.family_deductible.sum)
    ∷ (codes "out_of_pocket_sum", count_data c.out_of_pocket.sum)
    ∷ (codes "deductible_left", known_data c.deductible.left)
    ∷ (codes "family_deductible_left", known_data c.family_deductible.left)
    ∷ (codes "out_of_pocket_left", known_data c.out_of_pocket.left)
    ∷ (codes "reached", text_data (reached_cell c))
    ∷ []

abbrev pub claim_data : Claim → Value
claim_data c = object (claim_members c)

-- the family: its members, its sums, and its claims by date
abbrev pub family_data : Family → Value
family_data f =
    object ((codes "family", Text f.id)
    ∷ (span_members f.period
    ++ (codes "members", array (map member_data f.members.items))
    ∷ (codes "family_deductible", total_data f.deductible)
    ∷ (codes "out_of_pocket", total_data f.out_of_pocket)
    ∷ (codes "claims", array (map claim_data f.claims.items))
    ∷ []))
