-- Meaning: what `verify` prints.
use Rattle.std.specs.Prelude.{◌≡◌, ℕ, ◌+◌, nat_lt, if◌then◌else◌, List, [], ◌∷◌, ◌++◌}
use Rattle.std.specs.Prelude.{Option, Some, None, codes, count_by, drop, length, take}
use Rattle.std.specs.Fmt.{decimal}
use Rattle.rx_batch.specs.declared.layout.TheConstants.{ETX}
use Rattle.rx_print.specs.Escape.{escaped}
use Rattle.rx_print.specs.declared.style.Style.TheVariants.{Terminal}
use Rattle.rx_print.specs.Decimal.{grouped}
use Rattle.rx_switch.specs.Output.{Given, Texts}
use Rattle.rx_commands.specs.declared.printed.Outcome.{Outcome}
use Rattle.rx_commands.specs.declared.printed.Outcome.TheVariants as outcome
use Rattle.rx_commands.specs.declared.printed.Printed.{Printed}
use Rattle.rx_commands.specs.declared.verdict.lines.Cut.{Cut}
use Rattle.rx_commands.specs.declared.verdict.lines.Cut.TheVariants.{Line, Record}
use Rattle.rx_commands.specs.declared.verdict.lines.TheConstants.{LONGEST}
use Rattle.rx_commands.specs.Difference.{is_end, piece_of}
use Rattle.rx_commands.specs.Verified.{Differences, IsVerified, are_none}

-- a file's size, after the words that say which it is
unfoldable pub sized : List ℕ → List ℕ → List ℕ
sized words file = words ++ grouped (length file)

abbrev pub same_line : Texts → List ℕ
same_line t =
    sized (codes "same: response ") t.response
    ++ (sized (codes " bytes, books ") t.books ++ (sized (codes ", settlement ") t.settlement ++ 10 ∷ []))

-- the byte that ends a line or a record, the word for it, and the number of the first: a record 0 is the header
abbrev pub end_of : Cut → ℕ
end_of Line = 10
end_of Record = ETX

abbrev pub word_of : Cut → List ℕ
word_of Line = codes "line"
word_of Record = codes "record"

abbrev pub first_of : Cut → ℕ
first_of Line = 1
first_of Record = 0

-- bytes as a terminal shows them, of more than 60 the first 60 and two dots
abbrev pub front_text : List ℕ → List ℕ
front_text bytes =
    if nat_lt LONGEST (length bytes) then escaped Terminal (take LONGEST bytes) ++ codes ".." else escaped Terminal bytes

-- what stands in a file from a place to the end of its line or record
abbrev pub shown_piece : Cut → List ℕ → ℕ → List ℕ
shown_piece cut text at = front_text (piece_of (end_of cut) (drop at text))

-- which line or record differs, and from which byte of the file on
abbrev pub place_words : List ℕ → Cut → ℕ → ℕ → List ℕ
place_words name cut number at =
    name ++ (codes ": " ++ (word_of cut ++ (codes " " ++ (decimal (number + first_of cut)
    ++ (codes " differs from byte " ++ (decimal at ++ codes ": file "))))))

-- that, and what the file has there and what the run
abbrev pub place_line : List ℕ → Cut → List ℕ → List ℕ → ℕ → List ℕ
place_line name cut ours theirs at =
    place_words name cut (count_by (is_end (end_of cut)) (take at ours)) at
    ++ (shown_piece cut theirs at ++ (codes ", replay " ++ (shown_piece cut ours at ++ 10 ∷ [])))

abbrev pub option_line : List ℕ → Cut → List ℕ → List ℕ → Option ℕ → List ℕ
option_line name cut ours theirs None = []
option_line name cut ours theirs (Some at) = place_line name cut ours theirs at

-- a line for each file that differs
abbrev pub difference_lines : Texts → Texts → Differences → List ℕ
difference_lines ours theirs d =
    option_line (codes "response") Record ours.response theirs.response d.response
    ++ (option_line (codes "books") Line ours.books theirs.books d.books
    ++ option_line (codes "settlement") Line ours.settlement theirs.settlement d.settlement)

abbrev pub verdict_text : Texts → Texts → Differences → List ℕ
verdict_text ours theirs d = if are_none d then same_line ours else difference_lines ours theirs d

-- it is done where each file is the same
abbrev pub outcome_by : Differences → Outcome
outcome_by d = if are_none d then outcome.Done else outcome.Differs

-- a run of what is given was done again, files with these texts were compared with it, and this is what is printed
pub record IsVerdict (given : Given) (theirs : Texts) (p : Printed) : Type 0 where
  pub ours : Texts
  pub differences : Differences
  pub verified : IsVerified given ours theirs differences
  pub text_is : p.text.items ≡ verdict_text ours theirs differences
  pub outcome_is : p.outcome ≡ outcome_by differences
