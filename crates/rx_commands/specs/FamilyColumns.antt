-- Text: a family for people. Amounts are in dollars.
use Rattle.std.specs.Prelude.{ℕ, ◌-◌, ◌==◌, if◌then◌else◌, List, [], ◌∷◌, ◌++◌, length, Option, Some, None, codes, replicate}
use Rattle.std.specs.Fmt.{decimal}
use Rattle.std.specs.List.{flat_map}
use Rattle.rx_d0_values.specs.Priced.{patient_pay}
use Rattle.rx_fields.specs.Digits.{digits_text}
use Rattle.rx_fields.specs.Numbered.{Span}
use Rattle.rx_ledger.specs.declared.row.Row.{Row}
use Rattle.rx_print.specs.Dates.{dashed}
use Rattle.rx_print.specs.Escape.{escaped}
use Rattle.rx_print.specs.Money.{money_text, right_in}
use Rattle.rx_print.specs.Said.{said, say}
use Rattle.rx_print.specs.declared.style.Style.{Style}
use Rattle.rx_print.specs.declared.style.Style.TheVariants.{Terminal}
use Rattle.rx_commands.specs.declared.family.families.Family.{Family}
use Rattle.rx_commands.specs.declared.family.families.FamilyMember.{FamilyMember}
use Rattle.rx_commands.specs.declared.family.families.Total.{Total}
use Rattle.rx_commands.specs.declared.family.columns.TheConstants.{AMOUNT, PERSON, PRESCRIPTION, PROVIDER}
use Rattle.rx_commands.specs.declared.family.sums.Claim.{Claim}
use Rattle.rx_commands.specs.FamilyCells.{reached_cell}

-- an id, whose bytes are printed as a terminal shows them
abbrev pub shown : List ℕ → List ℕ
shown bytes = escaped Terminal bytes

unfoldable pub span_text : Span → List ℕ
span_text span = dashed span.first ++ (say " to " ++ dashed span.last)

-- what is left of a limit, and the claim with which it was reached
abbrev pub left_text : Option ℕ → List ℕ
left_text None = []
left_text (Some cents) = say ", " ++ (money_text cents ++ say " left")

-- which claim it is, whose pharmacy is printed in this style
unfoldable pub fill_text : Style → Row → List ℕ
fill_text style r =
    say "rx " ++ (decimal r.key.reference ++ (say " of " ++ (dashed r.key.date ++ (say " at " ++ escaped style r.key.provider))))

unfoldable pub claim_text : Row → List ℕ
claim_text r = say ", reached with " ++ fill_text Terminal r

abbrev pub reached_text : Option Row → List ℕ
reached_text None = []
reached_text (Some r) = claim_text r

unfoldable pub total_text : Total → List ℕ
total_text t = money_text t.sum ++ (left_text t.left ++ (reached_text t.reached ++ say "\n"))

-- a total after these words
unfoldable pub named_total : List ℕ → Total → List ℕ
named_total words t = said words ++ total_text t

unfoldable pub covered_text : FamilyMember → List ℕ
covered_text m = say ", covered " ++ (span_text m.member.coverage ++ named_total (codes ": ") m.deductible)

unfoldable pub member_text : FamilyMember → List ℕ
member_text m = say "Deductible of " ++ (shown m.member.key.person ++ covered_text m)

unfoldable pub totals_text : Family → List ℕ
totals_text f =
    named_total (codes "Deductible of the family: ") f.deductible
    ++ named_total (codes "Out of pocket of the family: ") f.out_of_pocket

unfoldable pub period_text : Span → List ℕ
period_text span = say ", benefit period " ++ (span_text span ++ say "\n\n")

unfoldable pub head_text : Family → List ℕ
head_text f = say "Family " ++ (shown f.id ++ period_text f.period)

-- at the left end of a column, and two blanks
unfoldable pub left_in : ℕ → List ℕ → List ℕ
left_in width text = text ++ (replicate (width - length text) 32 ++ say "  ")

-- the limits that a claim reaches
abbrev pub mark_text : List ℕ → List ℕ
mark_text names = if length names == 0 then [] else say "  reaches " ++ names

unfoldable pub place_text : Row → List ℕ
place_text r =
    dashed r.key.date ++ (say "  " ++ (left_in PERSON (shown r.person) ++ (left_in PRESCRIPTION (decimal r.key.reference)
    ++ (left_in PROVIDER (shown r.key.provider) ++ digits_text 11 r.product))))

unfoldable pub sums_text : Claim → List ℕ
sums_text c =
    right_in AMOUNT (money_text (patient_pay c.row.pricing)) ++ (right_in AMOUNT (money_text c.deductible.sum)
    ++ (right_in AMOUNT (money_text c.family_deductible.sum) ++ right_in AMOUNT (money_text c.out_of_pocket.sum)))

unfoldable pub line_text : Claim → List ℕ
line_text c = place_text c.row ++ (sums_text c ++ (mark_text (reached_cell c) ++ say "\n"))

unfoldable pub lines_head : List ℕ
lines_head = say "\nDate        Person  Rx            Pharmacy         Product         Member pays      Deductible  Family deduct.   Out of pocket\n"

abbrev pub lines_text : List Claim → List ℕ
lines_text [] = say "\nNo claim stands.\n"
lines_text (c ∷ more) = lines_head ++ flat_map line_text (c ∷ more)

-- the family's totals, and its claims
unfoldable pub rest_text : Family → List ℕ
rest_text f = totals_text f ++ lines_text f.claims.items

unfoldable pub page_text : Family → List ℕ
page_text f = head_text f ++ (flat_map member_text f.members.items ++ rest_text f)
