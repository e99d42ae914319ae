-- Text: a family as an HTML page. What comes from a file or from the command line is escaped; amounts are in dollars.
use Rattle.std.specs.Prelude.{ℕ, List, [], ◌++◌, Option, Some, None, codes}
use Rattle.std.specs.Fmt.{decimal}
use Rattle.std.specs.List.{flat_map}
use Rattle.rx_d0_values.specs.Priced.{patient_pay, total_paid}
use Rattle.rx_fields.specs.Calendar.{Civil}
use Rattle.rx_fields.specs.Digits.{digits_text}
use Rattle.rx_ledger.specs.declared.row.Row.{Row}
use Rattle.rx_print.specs.Dates.{dashed}
use Rattle.rx_print.specs.Escape.{escaped}
use Rattle.rx_print.specs.Money.{money_text}
use Rattle.rx_print.specs.declared.style.Style.TheVariants.{Html}
use Rattle.rx_report_text.specs.Origin.{file_text, term_text}
use Rattle.rx_report_text.specs.declared.origin.InputFile.{InputFile}
use Rattle.rx_report_text.specs.declared.script.TheConstants.{POLICY}
use Rattle.rx_report_text.specs.declared.style.TheConstants.{STYLE}
use Rattle.rx_commands.specs.declared.family.families.Family.{Family}
use Rattle.rx_commands.specs.declared.family.families.FamilyMember.{FamilyMember}
use Rattle.rx_commands.specs.declared.family.families.Total.{Total}
use Rattle.rx_commands.specs.declared.family.page.FamilyOrigin.{FamilyOrigin}
use Rattle.rx_commands.specs.declared.family.page.TheConstants.{CLAIM_HEADINGS, FAMILY_STYLE, SUM_HEADINGS}
use Rattle.rx_commands.specs.declared.family.sums.Claim.{Claim}
use Rattle.rx_commands.specs.FamilyCells.{reached_cell}
use Rattle.rx_commands.specs.FamilyColumns.{fill_text, span_text}

-- ---- the head

-- nothing from outside is let in, and the page has no script; its name, and how it looks
unfoldable pub front_text : List ℕ → List ℕ
front_text id =
    codes "<!DOCTYPE html>\n<html lang=\"en\">\n<head>\n<meta charset=\"utf-8\">\n" ++ (POLICY.now
    ++ (codes "<meta name=\"viewport\" content=\"width=device-width, initial-scale=1\">\n<title>Family "
    ++ (escaped Html id ++ (codes "</title>\n<style>\n" ++ (STYLE.now ++ (FAMILY_STYLE.now
    ++ codes "</style>\n</head>\n<body>\n<a class=\"skip\" href=\"#claims\">Skip to the claims</a>\n"))))))

-- the sheet, where one was given
abbrev pub sheet_text : Option InputFile → List ℕ
sheet_text None = []
sheet_text (Some file) = file_text (codes "Sheet") file

unfoldable pub source_text : FamilyOrigin → List ℕ
source_text o =
    codes "<dl class=\"origin\">\n" ++ (sheet_text o.sheet ++ (file_text (codes "Books") o.books
    ++ (term_text (codes "Program") o.program.now ++ (term_text (codes "Made") o.made.now ++ codes "</dl>\n"))))

-- the family, its benefit period, and the page's origin
unfoldable pub header_text : FamilyOrigin → Family → List ℕ
header_text o f =
    codes "<header>\n<h1>Family " ++ (escaped Html f.id ++ (codes "</h1>\n<p>benefit period " ++ (span_text f.period
    ++ (codes "</p>\n" ++ (source_text o ++ codes "</header>\n<main>\n")))))

-- ---- the sums

-- a cell after its front, which holds the column's label
abbrev pub amount_cell : List ℕ → ℕ → List ℕ
amount_cell front cents = front ++ (money_text cents ++ codes "</td>")

-- what is left of a limit, and the claim with which it was reached; empty where it isn't known
abbrev pub left_amount : Option ℕ → List ℕ
left_amount None = codes "<td></td>"
left_amount (Some cents) = amount_cell (codes "<td><i>Left</i>") cents

unfoldable pub reached_with : Row → List ℕ
reached_with r = codes "<td><i>Reached with</i>" ++ (fill_text Html r ++ codes "</td></tr>\n")

abbrev pub fill_cell : Option Row → List ℕ
fill_cell None = codes "<td></td></tr>\n"
fill_cell (Some r) = reached_with r

unfoldable pub total_cells : Total → List ℕ
total_cells t = amount_cell (codes "<td><i>Amount</i>") t.sum ++ (left_amount t.left ++ fill_cell t.reached)

-- a member's deductible, and a sum of the whole family
unfoldable pub member_row : FamilyMember → List ℕ
member_row m =
    codes "<tr><th scope=\"row\">Deductible of " ++ (escaped Html m.member.key.person
    ++ (codes "</th><td><i>Covered</i>" ++ (span_text m.member.coverage ++ (codes "</td>" ++ total_cells m.deductible))))

unfoldable pub family_row : List ℕ → Total → List ℕ
family_row name t = codes "<tr><th scope=\"row\">" ++ (name ++ (codes "</th><td></td>" ++ total_cells t))

unfoldable pub sums_table : Family → List ℕ
sums_table f =
    SUM_HEADINGS.now ++ (flat_map member_row f.members.items
    ++ (family_row (codes "Deductible of the family") f.deductible
    ++ (family_row (codes "Out of pocket of the family") f.out_of_pocket ++ codes "</tbody>\n</table>\n")))

-- ---- the claims

abbrev pub id_cell : List ℕ → List ℕ → List ℕ
id_cell front id = front ++ (escaped Html id ++ codes "</td>")

abbrev pub date_cell : Civil → List ℕ
date_cell day = codes "<tr><th scope=\"row\">" ++ (dashed day ++ codes "</th>")

abbrev pub rx_cell : ℕ → List ℕ
rx_cell reference = codes "<td><i>Rx</i>" ++ (decimal reference ++ codes "</td>")

-- the limits that the claim reaches
abbrev pub reached_part : Claim → List ℕ
reached_part c = codes "<td><i>Reaches</i>" ++ (reached_cell c ++ codes "</td></tr>\n")

unfoldable pub place_cells : Row → List ℕ
place_cells r =
    date_cell r.key.date ++ (id_cell (codes "<td><i>Person</i>") r.person ++ (rx_cell r.key.reference
    ++ (id_cell (codes "<td><i>Pharmacy</i>") r.key.provider
    ++ id_cell (codes "<td><i>Product</i>") (digits_text 11 r.product))))

unfoldable pub sum_cells : Claim → List ℕ
sum_cells c =
    amount_cell (codes "<td><i>Member pays</i>") (patient_pay c.row.pricing)
    ++ (amount_cell (codes "<td><i>Plan pays</i>") (total_paid c.row.pricing)
    ++ (amount_cell (codes "<td><i>Deductible</i>") c.deductible.sum
    ++ (amount_cell (codes "<td><i>Family deductible</i>") c.family_deductible.sum
    ++ (amount_cell (codes "<td><i>Out of pocket</i>") c.out_of_pocket.sum ++ reached_part c))))

unfoldable pub claim_row : Claim → List ℕ
claim_row c = place_cells c.row ++ sum_cells c

unfoldable pub claims_table : List Claim → List ℕ
claims_table claims = CLAIM_HEADINGS.now ++ (flat_map claim_row claims ++ codes "</tbody>\n</table>\n")

-- the whole
unfoldable pub html_text : FamilyOrigin → Family → List ℕ
html_text o f =
    front_text f.id ++ (header_text o f ++ (sums_table f ++ (claims_table f.claims.items
    ++ codes "</main>\n</body>\n</html>\n")))
