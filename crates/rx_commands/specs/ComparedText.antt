-- Text: the answers that differ, as lines for people, as a table of tabs, and as JSON.
use Rattle.std.specs.Prelude.{ℕ, zero, suc, ◌+◌, ℤ, List, [], ◌∷◌, ◌++◌, Option, Some, None, codes}
use Rattle.std.specs.List.{flat_map}
use Rattle.std.specs.Option.{option_or}
use Rattle.std.specs.Fmt.{decimal, signed_decimal}
use Rattle.rx_d0_values.specs.declared.reply.Answer.{Answer}
use Rattle.rx_d0_values.specs.declared.reply.Answer.TheVariants.{Refused}
use Rattle.rx_fields.specs.Numbered.{LotParts}
use Rattle.rx_print.specs.Escape.{escaped}
use Rattle.rx_print.specs.Money.{signed_dollars}
use Rattle.rx_print.specs.declared.style.Style.TheVariants.{Terminal}
use Rattle.rx_report.specs.Cells.{cell, name_of, reference_of}
use Rattle.rx_report.specs.Texts.{comma_member, json_member, lot_json, tab_cell, tab_name}
use Rattle.rx_report.specs.declared.column.Column.{Column}
use Rattle.rx_report.specs.declared.column.Column.TheVariants as column
use Rattle.rx_report.specs.declared.line.Line.{Line}
use Rattle.rx_report_text.specs.Shown.{shown_cell}
use Rattle.rx_report_text.specs.declared.shown.Shown.{Shown}
use Rattle.rx_report_text.specs.declared.shown.Shown.TheVariants as shown
use Rattle.rx_settle.specs.Settlement.{net}
use Rattle.rx_settle.specs.declared.tally.Tally.{Tally}
use Rattle.rx_commands.specs.Differing.{Differing, gain}
use Rattle.rx_commands.specs.declared.comparing.form.CompareForm.{CompareForm}
use Rattle.rx_commands.specs.declared.comparing.form.CompareForm.TheVariants.{Words, Tsv, Json}

-- ---- which answer it is

-- an answer where its prescription is known, else the other
abbrev pub or_known : Option ℕ → Answer → Answer → Answer
or_known None a other = other
or_known (Some r) a other = a

-- a line with what either side knows of the transaction: its prescription, member and product
unfoldable pub known : Differing → Line
known d = record d.given {
  member = option_or d.given.member d.changed.member;
  product = option_or d.given.product d.changed.product;
  answer = or_known (reference_of d.given.answer) d.given.answer d.changed.answer;
}

-- the columns that say which answer it is, after the record
abbrev pub keys : List Column
keys = column.Nth ∷ column.Provider ∷ column.Prescription ∷ column.Date ∷ column.Family ∷ column.Person ∷ column.Product ∷ []

-- those of what is answered, after the status
abbrev pub figures : List Column
figures = column.Codes ∷ column.Allowed ∷ column.Deductible ∷ column.Copay ∷ column.Coinsurance ∷ column.Member ∷ column.Plan ∷ []

abbrev pub side : List Column
side = column.Status ∷ figures

-- ---- a table of tabs: a heading, and a row for each answer that differs; amounts are in cents

-- the name of a column of the other side
abbrev pub with_name : Column → List ℕ
with_name c = 9 ∷ (codes "with_" ++ name_of c)

unfoldable pub heading : List ℕ
heading =
    name_of column.Place ++ (flat_map tab_name keys ++ (flat_map tab_name side ++ (flat_map with_name side
    ++ codes "\tdifference\n")))

unfoldable pub row : Differing → List ℕ
row d =
    cell column.Place (known d) ++ (flat_map (tab_cell (known d)) keys ++ (flat_map (tab_cell d.given) side
    ++ (flat_map (tab_cell d.changed) side ++ (9 ∷ (signed_decimal (gain d) ++ 10 ∷ [])))))

-- ---- JSON; amounts are in cents

-- a side's status and figures
unfoldable pub side_json : Line → List ℕ
side_json l = 123 ∷ (json_member l column.Status ++ (flat_map (comma_member l) figures ++ 125 ∷ []))

-- which answer it is
unfoldable pub known_json : Line → List ℕ
known_json l = 123 ∷ (json_member l column.Place ++ flat_map (comma_member l) keys)

-- both sides
unfoldable pub sides_json : Differing → List ℕ
sides_json d = codes ",\"given\":" ++ (side_json d.given ++ (codes ",\"with\":" ++ side_json d.changed))

unfoldable pub object : Differing → List ℕ
object d = known_json (known d) ++ (sides_json d ++ (codes ",\"difference\":" ++ (signed_decimal (gain d) ++ codes "}")))

-- what parts an object from this many before it
abbrev pub separator : ℕ → List ℕ
separator zero = []
separator (suc n) = codes ",\n"

unfoldable pub nets_json : Tally → Tally → List ℕ
nets_json given changed =
    codes "],\n\"net\":" ++ (signed_decimal (net given) ++ (codes ",\"with_net\":" ++ signed_decimal (net changed)))

-- the nets, their difference, and the batch
unfoldable pub json_end : LotParts → Tally → Tally → ℤ → List ℕ
json_end lot given changed difference =
    nets_json given changed ++ (codes ",\"difference\":" ++ (signed_decimal difference ++ (44 ∷ (lot_json lot ++ codes "}\n"))))

-- ---- lines for people; amounts are in dollars and cents

-- a column's cell as a terminal shows it
abbrev pub shown_text : Shown → Line → List ℕ
shown_text s l = escaped Terminal (shown_cell s l)

-- of a refusal its codes, of a claim what the plan pays for it
abbrev pub matter_of : Answer → Shown
matter_of (Refused r) = shown.Codes
matter_of other = shown.PlanPays

-- the status, and what it comes to
unfoldable pub side_words : Line → List ℕ
side_words l = shown_text shown.Answer l ++ (32 ∷ shown_text (matter_of l.answer) l)

-- which answer it is
unfoldable pub front : Line → List ℕ
front l =
    shown_text shown.Record l ++ (codes "  rx " ++ (shown_text shown.Prescription l ++ (codes "  " ++ (shown_text shown.Date l
    ++ codes "  "))))

unfoldable pub sides_words : Differing → List ℕ
sides_words d = side_words d.given ++ (codes " -> " ++ side_words d.changed)

unfoldable pub words_line : Differing → List ℕ
words_line d = front (known d) ++ (sides_words d ++ (codes "  net " ++ (signed_dollars (gain d) ++ 10 ∷ [])))

unfoldable pub nets_words : Tally → Tally → List ℕ
nets_words given changed = signed_dollars (net given) ++ (codes " -> " ++ signed_dollars (net changed))

-- how many differ, the nets, and their difference
unfoldable pub words_end : Tally → Tally → ℕ → ℤ → List ℕ
words_end given changed count difference =
    decimal count ++ (codes " differ; net " ++ (nets_words given changed ++ (codes ", difference "
    ++ (signed_dollars difference ++ 10 ∷ []))))

-- ---- each form

abbrev pub front_text : CompareForm → List ℕ
front_text Words = []
front_text Tsv = heading
front_text Json = codes "{\"lines\":["

-- an answer that differs, after this many
abbrev pub line_after : CompareForm → ℕ → Differing → List ℕ
line_after Words n d = words_line d
line_after Tsv n d = row d
line_after Json n d = separator n ++ object d

abbrev pub lines_after : CompareForm → ℕ → List Differing → List ℕ
lines_after form n [] = []
lines_after form n (d ∷ ds) = line_after form n d ++ lines_after form (n + 1) ds

-- the nets before and with the others, how many answers differ, and by how much the net does
abbrev pub end_text : CompareForm → LotParts → Tally → Tally → ℕ → ℤ → List ℕ
end_text Words lot given changed count difference = words_end given changed count difference
end_text Tsv lot given changed count difference = []
end_text Json lot given changed count difference = json_end lot given changed difference
