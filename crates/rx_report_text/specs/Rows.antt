-- Text: a claim's row on a page, and the headings of its columns.
use Rattle.std.specs.Prelude.{ℕ, List, [], ◌∷◌, ◌++◌, codes}
use Rattle.std.specs.List.{flat_map}
use Rattle.rx_d0_values.specs.declared.reply.Answer.{Answer}
use Rattle.rx_d0_values.specs.declared.reply.Answer.TheVariants.{Paid, Twice, Approved, Refused}
use Rattle.rx_explain_text.specs.Words.{name_of}
use Rattle.rx_fields.specs.Codes.{code_text}
use Rattle.rx_fields.specs.declared.code.Code.{Code}
use Rattle.rx_report.specs.declared.line.Line.{Line}
use Rattle.rx_report_text.specs.declared.shown.Shown.{Shown}
use Rattle.rx_report_text.specs.declared.shown.Shown.TheVariants as shown
use Rattle.rx_report_text.specs.Pages.{cell_text}

-- ---- the columns after record and answer

abbrev pub row_columns : List Shown
row_columns =
    shown.Authorization ∷ shown.Prescription ∷ shown.Date ∷ shown.Member ∷ shown.Product ∷ shown.Quantity ∷ shown.Days
    ∷ shown.MemberPays ∷ shown.PlanPays ∷ []

-- the heading of a column
abbrev pub title_of : Shown → List ℕ
title_of shown.Record = codes "Record"
title_of shown.Answer = codes "Answer"
title_of shown.Codes = codes "Codes"
title_of shown.Prescription = codes "Rx"
title_of shown.Date = codes "Date"
title_of shown.Member = codes "Member"
title_of shown.Allowed = codes "Allowed"
title_of shown.Deductible = codes "Deductible"
title_of shown.Copay = codes "Copay"
title_of shown.Coinsurance = codes "Coinsurance"
title_of shown.MemberPays = codes "Member pays"
title_of shown.PlanPays = codes "Plan pays"
title_of shown.Product = codes "Product"
title_of shown.Quantity = codes "Quantity"
title_of shown.Days = codes "Days"
title_of shown.Authorization = codes "Authorization"

-- the class of its cells, by which the page's style places them
abbrev pub class_of : Shown → List ℕ
class_of shown.Prescription = codes "rx"
class_of shown.Date = codes "date"
class_of shown.Member = codes "member"
class_of shown.Product = codes "product"
class_of shown.Quantity = codes "quantity"
class_of shown.Days = codes "days"
class_of shown.Authorization = codes "number"
class_of shown.MemberPays = codes "pays"
class_of shown.PlanPays = codes "plan"
class_of other = codes "other"

abbrev pub heading_text : List ℕ → List ℕ → List ℕ
heading_text class title = codes "<th scope=\"col\" class=\"" ++ (class ++ (codes "\">" ++ (title ++ codes "</th>")))

unfoldable pub title_cell : Shown → List ℕ
title_cell s = heading_text (class_of s) (title_of s)

-- the caption and the headings of a provider's claims
unfoldable pub titles_text : List ℕ
titles_text =
    codes "<table class=\"claims\">\n<caption>Claims in file order; amounts in dollars</caption>\n<thead><tr>"
    ++ (codes "<th scope=\"col\">Record</th><th scope=\"col\">Answer</th>"
    ++ (flat_map title_cell row_columns ++ codes "</tr></thead>\n"))

-- ---- a row

-- the claim is a row group, whose class is its answer and whose anchor is its record
abbrev pub group_front : Answer → List ℕ
group_front (Paid p) = codes "<tbody class=\"paid\" id=\"r"
group_front (Twice p) = codes "<tbody class=\"duplicate\" id=\"r"
group_front (Approved a) = codes "<tbody class=\"reversed\" id=\"r"
group_front (Refused r) = codes "<tbody class=\"rejected\" id=\"r"

-- the anchor, and the record as the row's heading, which leads to it
unfoldable pub record_text : Line → List ℕ
record_text l =
    group_front l.answer ++ (cell_text shown.Record l ++ (codes "\">\n<tr><th scope=\"row\"><a href=\"#r"
    ++ (cell_text shown.Record l ++ (codes "\">" ++ (cell_text shown.Record l ++ codes "</a></th>")))))

-- a reject code and its words, with markup before, between and after the two
abbrev pub code_within : List ℕ → List ℕ → List ℕ → Code → List ℕ
code_within front between end c = front ++ (code_text c ++ (between ++ (name_of c ++ end)))

abbrev pub code_words : Code → List ℕ
code_words c = code_within (codes " <span><b>") (codes "</b> ") (codes "</span>") c

-- the answer in a word, with the codes of a reject
abbrev pub answer_words : Answer → List ℕ
answer_words (Paid p) = codes "paid"
answer_words (Twice p) = codes "duplicate"
answer_words (Approved a) = codes "reversed"
answer_words (Refused r) = codes "rejected" ++ flat_map code_words r.codes

abbrev pub answer_cell : Answer → List ℕ
answer_cell a = codes "<td class=\"answer\">" ++ (answer_words a ++ codes "</td>")

abbrev pub classed_cell : List ℕ → Line → Shown → List ℕ
classed_cell class l s = codes "<td class=\"" ++ (class ++ (codes "\">" ++ (cell_text s l ++ codes "</td>")))

unfoldable pub data_cell : Line → Shown → List ℕ
data_cell l s = classed_cell (class_of s) l s

unfoldable pub row_text : Line → List ℕ
row_text l = record_text l ++ (answer_cell l.answer ++ (flat_map (data_cell l) row_columns ++ codes "</tr>\n"))
