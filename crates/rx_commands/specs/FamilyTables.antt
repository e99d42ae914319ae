-- Text: a family as a table of tabs and as JSON. Amounts are in cents, quantities in thousandths.
use Rattle.std.specs.Prelude.{ℕ, ◌==◌, if◌then◌else◌, List, [], ◌∷◌, ◌++◌, codes, length, Option, Some, None}
use Rattle.std.specs.Fmt.{decimal}
use Rattle.std.specs.List.{enumerate_from, flat_map}
use Rattle.rx_fields.specs.Calendar.{Civil}
use Rattle.rx_fields.specs.Digits.{digits_text}
use Rattle.rx_fields.specs.Numbered.{Span}
use Rattle.rx_ledger.specs.declared.row.Row.{Row}
use Rattle.rx_print.specs.Dates.{dashed}
use Rattle.rx_report.specs.Texts.{quoted}
use Rattle.rx_commands.specs.declared.family.families.Family.{Family}
use Rattle.rx_commands.specs.declared.family.families.FamilyMember.{FamilyMember}
use Rattle.rx_commands.specs.declared.family.families.Total.{Total}
use Rattle.rx_commands.specs.declared.family.cells.Column.{Column}
use Rattle.rx_commands.specs.declared.family.cells.Column.TheVariants as column
use Rattle.rx_commands.specs.declared.family.sums.Claim.{Claim}
use Rattle.rx_commands.specs.FamilyCells.{cell, is_number, name_of, others}

-- ---- a table of tabs: a heading, and a row for each claim

abbrev pub tab_name : Column → List ℕ
tab_name c = 9 ∷ name_of c

abbrev pub heading : List ℕ
heading = name_of column.Date ++ (flat_map tab_name others ++ 10 ∷ [])

abbrev pub tab_cell : Claim → Column → List ℕ
tab_cell claim c = 9 ∷ cell c claim

abbrev pub row : Claim → List ℕ
row claim = cell column.Date claim ++ (flat_map (tab_cell claim) others ++ 10 ∷ [])

abbrev pub tsv_text : List Claim → List ℕ
tsv_text claims = heading ++ flat_map row claims

-- ---- JSON

-- null where the cell is blank, a number as it is, else a string
abbrev pub json_value : Column → List ℕ → List ℕ
json_value c text = if length text == 0 then codes "null" else (if is_number c then text else quoted text)

abbrev pub json_member : Claim → Column → List ℕ
json_member claim c = 34 ∷ (name_of c ++ (34 ∷ 58 ∷ json_value c (cell c claim)))

abbrev pub comma_member : Claim → Column → List ℕ
comma_member claim c = 44 ∷ json_member claim c

-- what is left, and the authorization number of the claim with which the limit was reached
abbrev pub left_json : Option ℕ → List ℕ
left_json None = codes "null"
left_json (Some cents) = decimal cents

abbrev pub day_json : Civil → List ℕ
day_json day = quoted (dashed day)

abbrev pub reached_json : Option Row → List ℕ
reached_json None = codes "null"
reached_json (Some r) = quoted (digits_text 15 r.number)

-- each item on a line of its own, with a comma before all but the first
abbrev pub comma_after : ℕ → List ℕ
comma_after before = if before == 0 then [] else codes ",\n"

-- a claim as an object, after this many
unfoldable pub claim_json : ℕ → Claim → List ℕ
claim_json before claim =
    comma_after before ++ (123 ∷ (json_member claim column.Date ++ (flat_map (comma_member claim) others ++ 125 ∷ [])))

-- the claims with their numbers
abbrev pub claims_json : List (ℕ × Claim) → List ℕ
claims_json numbered = flat_map (λ c. claim_json c.0 c.1) numbered

-- a sum, what is left of its limit, and the claim with which the limit was reached
unfoldable pub total_json : Total → List ℕ
total_json t =
    codes "{\"sum\":" ++ (decimal t.sum ++ (codes ",\"left\":" ++ (left_json t.left ++ (codes ",\"reached\":"
    ++ (reached_json t.reached ++ codes "}")))))

unfoldable pub span_json : Span → List ℕ
span_json span = codes "\"first\":" ++ (day_json span.first ++ (codes ",\"last\":" ++ day_json span.last))

-- a member, its coverage and its deductible, after this many
unfoldable pub member_json : ℕ → FamilyMember → List ℕ
member_json before m =
    comma_after before ++ (codes "{\"person\":" ++ (quoted m.member.key.person ++ (codes "," ++ (span_json m.member.coverage
    ++ (codes ",\"deductible\":" ++ (total_json m.deductible ++ codes "}"))))))

abbrev pub members_json : List (ℕ × FamilyMember) → List ℕ
members_json numbered = flat_map (λ m. member_json m.0 m.1) numbered

unfoldable pub head_json : Family → List ℕ
head_json f = codes "{\"family\":" ++ (quoted f.id ++ (codes "," ++ span_json f.period))

unfoldable pub totals_json : Family → List ℕ
totals_json f =
    codes "\"family_deductible\":" ++ (total_json f.deductible ++ (codes ",\n\"out_of_pocket\":"
    ++ total_json f.out_of_pocket))

-- the whole
unfoldable pub family_json : Family → List ℕ
family_json f =
    head_json f ++ (codes ",\n\"members\":[" ++ (members_json (enumerate_from 0 f.members.items) ++ (codes "],\n" ++ (totals_json f
    ++ (codes ",\n\"claims\":[" ++ (claims_json (enumerate_from 0 f.claims.items) ++ codes "]}\n"))))))
