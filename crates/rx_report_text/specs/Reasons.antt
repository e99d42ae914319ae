-- Text: how a page has why an answer was given: a table with a row for each line of the explanation.
use Rattle.std.specs.Prelude.{ℕ, ◌==◌, not, Bool, ◌&&◌, nat_eq, nat_lt, if◌then◌else◌, List, [], ◌∷◌, ◌++◌, codes, drop, length, take}
use Rattle.std.specs.List.{ends_with, flat_map, prefix_len}
use Rattle.std.specs.Option.{option_map, unwrap_or}
use Rattle.rx_print.specs.Escape.{escaped}
use Rattle.rx_print.specs.declared.style.Style.TheVariants.{Html}
use Rattle.rx_report.specs.declared.line.Line.{Line}
use Rattle.rx_report_text.specs.declared.shown.Shown.TheVariants.{Record}
use Rattle.rx_report_text.specs.declared.why.Why.{Why}
use Rattle.rx_report_text.specs.Columns.{without_end}
use Rattle.rx_report_text.specs.Pages.{cell_text}
use Rattle.rx_report_text.specs.Whys.{why_of}
use Rattle.rx_text.specs.Bytes.{cut}

-- ---- the parts of a line

-- how many bytes stand before the first of this kind
abbrev pub until : ℕ → List ℕ → ℕ
until mark text = prefix_len (λ b. not (b == mark)) text

-- a text without the blanks that it begins with
abbrev pub without_front : List ℕ → List ℕ
without_front text = drop (prefix_len (λ b. b == 32) text) text

-- a line has an amount where its first dollar sign stands after two blanks
abbrev pub has_amount : List ℕ → List ℕ → Bool
has_amount front rest = ends_with nat_eq front (32 ∷ 32 ∷ []) && nat_lt 0 (length rest)

-- ---- its row

-- a text between two pieces of markup
abbrev pub framed : List ℕ → List ℕ → List ℕ → List ℕ
framed front text end = front ++ (escaped Html text ++ end)

abbrev pub row_heading : List ℕ → List ℕ
row_heading label = framed (codes "<tr><th scope=\"row\">") label (codes "</th>")

-- a row without a label belongs to the one above it
abbrev pub label_cell : List ℕ → List ℕ
label_cell label = if length label == 0 then codes "<tr class=\"part\"><td></td>" else row_heading label

-- the label, the amount, and the words after it
unfoldable pub figure_row : List ℕ → List ℕ → List ℕ → List ℕ
figure_row label amount reason =
    label_cell label ++ (codes "<td class=\"amount\">" ++ (escaped Html amount ++ (codes "</td><td>" ++ (escaped Html reason
    ++ codes "</td></tr>\n"))))

-- of what stands before the amount, and from it on
abbrev pub parts_row : List ℕ → List ℕ → List ℕ
parts_row front rest =
    figure_row (without_end (without_front front)) (take (until 32 rest) rest) (without_front (drop (until 32 rest) rest))

abbrev pub said_row : List ℕ → List ℕ
said_row words = framed (codes "<tr><td colspan=\"3\">") words (codes "</td></tr>\n")

-- words without an amount; none for an empty line
abbrev pub words_row : List ℕ → List ℕ
words_row line = if length line == 0 then [] else said_row (without_front line)

abbrev pub cut_row : List ℕ → List ℕ → List ℕ → List ℕ
cut_row line front rest = if has_amount front rest then parts_row front rest else words_row line

unfoldable pub line_row : List ℕ → List ℕ
line_row line = cut_row line (take (until 36 line) line) (drop (until 36 line) line)

-- ---- the table

abbrev pub rows_text : List ℕ → List ℕ
rows_text text = flat_map line_row (cut 10 text)

abbrev pub reasons_text : List ℕ → List ℕ
reasons_text text =
    codes "<table class=\"reasons\">\n<thead><tr><th scope=\"col\">Figure</th><th scope=\"col\">Amount</th><th scope=\"col\">Reason</th>"
    ++ (codes "</tr></thead>\n<tbody>\n" ++ (rows_text text ++ codes "</tbody>\n</table>"))

-- where nothing says why, the command that does
abbrev pub command_text : Line → List ℕ
command_text l =
    codes "<p><code>rxbatch explain --sheet F --books F --batch F --record " ++ (cell_text Record l ++ codes "</code></p>")

abbrev pub reason_text : List Why → Line → List ℕ
reason_text whys l = unwrap_or (option_map reasons_text (why_of whys l)) (command_text l)
