-- Plumbing: what a text is read as, line by line (docs/FORMATS.md, "Books file").
use Rattle.std.specs.Prelude.{ℕ, ◌+◌, nat_lt, ◌==◌, if◌then◌else◌, List, [], ◌∷◌, length, Option, Some, None, Result, Ok, Err}
use Rattle.std.specs.List.{slice_split}
use Rattle.rx_fields.specs.declared.limits.TheConstants.{MOST_LINES}
use Rattle.rx_books_text.specs.declared.fault.BooksFault.{BooksFault}
use Rattle.rx_books_text.specs.declared.fault.BooksFault.TheVariants as fault
use Rattle.rx_books_text.specs.declared.head.Head.{Head}
use Rattle.rx_books_text.specs.declared.line.Line.{Line}
use Rattle.rx_text.specs.Results.{◌>>=◌}
use Rattle.rx_books_text.specs.LineReading.{head_of, line_of}
use Rattle.rx_books_text.specs.Printed.{PrintedParts, line_feeds}
use Rattle.rx_books_text.specs.TextFault.{is_next, is_known, with_line, no_lines}

-- the lines that line feeds end, and what stands after the last
abbrev pub lines : List ℕ → List (List ℕ)
lines text = slice_split (λ b. b == 10) text

-- line n after these parts
abbrev pub line_added : ℕ → PrintedParts → Line → Result PrintedParts BooksFault
line_added n p l =
    if is_next p l then (if is_known p l then Ok (with_line p l) else Err (fault.UnknownMember n)) else Err (fault.Order n)

abbrev pub found_line : ℕ → PrintedParts → Option Line → Result PrintedParts BooksFault
found_line n p None = Err (fault.Line n)
found_line n p (Some l) = line_added n p l

-- the same, of its text
unfoldable pub line_read : ℕ → PrintedParts → List ℕ → Result PrintedParts BooksFault
line_read n p text = found_line n p (line_of p.head.version text)

-- the lines from line n on; after the last line feed stands nothing
unfoldable pub lines_read : ℕ → PrintedParts → List (List ℕ) → Result PrintedParts BooksFault
lines_read n p [] = Ok p
lines_read n p (last ∷ []) = if length last == 0 then Ok p else Err (fault.Line n)
lines_read n p (text ∷ next ∷ texts) = line_read n p text >>= λ q. lines_read (n + 1) q (next ∷ texts)

abbrev pub behind_head : Option Head → List (List ℕ) → Result PrintedParts BooksFault
behind_head None texts = Err fault.Head
behind_head (Some h) texts = lines_read 2 (no_lines h) texts

-- the head line and the lines after it
unfoldable pub text_read : List (List ℕ) → Result PrintedParts BooksFault
text_read [] = Err fault.Head
text_read (last ∷ []) = Err fault.Head
text_read (text ∷ next ∷ texts) = behind_head (head_of text) (next ∷ texts)

-- what the text of a books file holds, or its first fault
abbrev pub printed_of : List ℕ → Result PrintedParts BooksFault
printed_of text = if nat_lt MOST_LINES (line_feeds text) then Err fault.TooMuch else text_read (lines text)
