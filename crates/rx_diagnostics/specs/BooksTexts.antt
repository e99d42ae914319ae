-- Text: what is said of faults of a books file: what stands there, and what is expected.
use Rattle.std.specs.Prelude.{ℕ, ◌+◌, ◌-◌, Bool, not, ◌||◌, ◌==◌, nat_lt, nat_eq, if◌then◌else◌}
use Rattle.std.specs.Prelude.{List, [], ◌∷◌, ◌++◌, codes, length, Option, Some, None, option_map, string_bytes}
use Rattle.std.specs.Fmt.{decimal}
use Rattle.std.specs.List.{ends_with}
use Rattle.std.specs.Result.{result_unwrap_or}
use Rattle.std.specs.Str.{bytes_eq}
use Rattle.rx_books_text.specs.declared.fault.BooksFault.{BooksFault}
use Rattle.rx_books_text.specs.declared.fault.BooksFault.TheVariants as fault
use Rattle.rx_books_text.specs.LineReading.{head_of}
use Rattle.rx_books_text.specs.declared.head.Head.{Head}
use Rattle.rx_books_text.specs.declared.version.Version.{Version}
use Rattle.rx_books_text.specs.declared.version.Version.TheVariants as version
use Rattle.rx_fields.specs.Digits.{number_of}
use Rattle.rx_fields.specs.declared.limits.TheConstants.{MOST_CENTS, MOST_LINES}
use Rattle.rx_diagnostics.specs.BooksFields.{claim_fields, date_fault, first_claim_fields, first_fault, member_fields}
use Rattle.rx_diagnostics.specs.BooksFields.{short_total_fields, total_fields}
use Rattle.rx_diagnostics.specs.BooksMembers.{is_listed, nearest, persons_above}
use Rattle.rx_diagnostics.specs.BooksTotals.{totals_text}
use Rattle.rx_diagnostics.specs.Looks.{begins, has_mark, looks_like}
use Rattle.rx_diagnostics.specs.Parts.{field_of, fields, line_feeds, line_of}
use Rattle.rx_diagnostics.specs.Quoting.{quoted_text, shown_text}
use Rattle.rx_diagnostics.specs.declared.books_field.Field.{Field}
use Rattle.rx_diagnostics.specs.declared.books_order.LineKind.{LineKind}
use Rattle.rx_diagnostics.specs.declared.books_order.LineKind.TheVariants as kind
use Rattle.rx_diagnostics.specs.declared.words.Said.{Said}

-- what is said of a fault, and the command that mends the file, empty where no one step does
pub record Telling : Type 0 where
  pub text : List ℕ
  pub mend : List ℕ

abbrev pub plain : List ℕ → Telling
plain text = record { text = text; mend = [] }

abbrev pub mended : List ℕ → List ℕ → Telling
mended text mend = record { text = text; mend = mend }

-- ---- the head line

-- a field of the head line that is no date
unfoldable pub day_fault : ℕ → List ℕ → List ℕ → Option (List ℕ)
day_fault number name field =
    option_map (λ fault. codes "field " ++ (decimal number ++ (codes ", " ++ (name ++ (codes " "
    ++ (quoted_text field ++ (codes ": " ++ fault))))))) (date_fault field)

-- the fault of the first day, or else of the last; or else that they stand the wrong way round
unfoldable pub days_text : Option (List ℕ) → Option (List ℕ) → List ℕ → List ℕ
days_text (Some first) last line = first
days_text None (Some last) line = last
days_text None None line =
    codes "the last day " ++ (quoted_text (field_of line 4)
    ++ (codes " is before the first, " ++ quoted_text (field_of line 3)))

abbrev pub is_version : List ℕ → Bool
is_version field = bytes_eq field (codes "1") || bytes_eq field (codes "2") || bytes_eq field (codes "3")

unfoldable pub fields_text : ℕ → List ℕ
fields_text count = decimal count ++ codes " fields: a head line has 4, e.g. BOOKS|3|20260101|20261231"

unfoldable pub version_text : List ℕ → List ℕ
version_text version = codes "version " ++ (quoted_text version ++ codes ": versions 1, 2 and 3 are read")

-- a head line by its fields: how many there are, its version, its days
unfoldable pub head_fields_text : List ℕ → List ℕ
head_fields_text line =
    if not (fields line == 4) then fields_text (fields line)
    else (if not (is_version (field_of line 2)) then version_text (field_of line 2)
    else days_text (day_fault 3 (codes "first day") (field_of line 3)) (day_fault 4 (codes "last day") (field_of line 4)) line)

-- a file that doesn't begin as books do
abbrev pub no_label_text : Option (List ℕ) → List ℕ → List ℕ
no_label_text (Some kind) line = codes "no head line: this looks like " ++ kind
no_label_text None line =
    quoted_text line ++ codes " isn't a head line: expected BOOKS|3|first|last, e.g. BOOKS|3|20260101|20261231"

-- a first line that is no head line
unfoldable pub head_telling : List ℕ → List ℕ → Telling
head_telling text line =
    if length text == 0 then plain (codes "the file is empty: expected a head line, e.g. BOOKS|3|20260101|20261231")
    else (if has_mark text
    then mended (codes "the file begins with a byte order mark (EF BB BF)") (codes "sed -i '1s/^\\xef\\xbb\\xbf//'")
    else (if ends_with nat_eq line (13 ∷ [])
    then mended (codes "the line ends with CR LF: expected LF") (codes "sed -i 's/\\r$//'")
    else (if not (begins line (codes "BOOKS|")) then plain (no_label_text (looks_like text) line)
    else (if line_feeds text == 0 then mended (codes "the line has no line feed at its end") (codes "echo >>")
    else plain (head_fields_text line)))))

-- ---- the order of lines

-- the kinds of lines in their order
abbrev pub kind_of : List ℕ → LineKind
kind_of line = if begins line (codes "M") then kind.Member else (if begins line (codes "C") then kind.Claim else kind.Total)

abbrev pub rank_of : LineKind → ℕ
rank_of kind.Member = 1
rank_of kind.Claim = 2
rank_of kind.Total = 3

abbrev pub called : LineKind → List ℕ
called kind.Member = codes "member"
called kind.Claim = codes "claim"
called kind.Total = codes "total"

-- in what order the lines of a kind stand
abbrev pub order_of : LineKind → List ℕ
order_of kind.Member = codes "members ascend by family, then person"
order_of kind.Claim = codes "claims ascend by provider, reference and date"
order_of kind.Total = codes "totals ascend by family"

-- the command that puts the head line first, then the members, the claims and all other lines, each of them by their key
abbrev pub sort_command : List ℕ
sort_command =
    codes "LC_ALL=C sh -c 'for k in B M C \"[^BMC]\"; do grep \"^$k\" \"$1\" | sort -t\"|\" -k2,2 -k3,3$([ \"$k\" = C ] && echo n)"
    ++ codes " -k4,4; done > \"$1.new\" && mv \"$1.new\" \"$1\"' sh"

-- the key of a line: family and person, or provider, reference and date, or family
abbrev pub key_of : List ℕ → List ℕ
key_of line =
    let second = shown_text (field_of line 2) in let third = shown_text (field_of line 3) in
    if begins line (codes "M") then second ++ (codes "/" ++ third)
    else (if begins line (codes "C") then second ++ (codes "/" ++ (third ++ (codes "/" ++ shown_text (field_of line 4))))
    else second)

-- a line and the one above it with the same key
abbrev pub twice_text : List ℕ → ℕ → List ℕ
twice_text key number =
    key ++ (codes " is listed twice, first at line " ++ (decimal (number - 1) ++ codes ": delete one of these lines"))

abbrev pub after_text : List ℕ → List ℕ → List ℕ → List ℕ
after_text key before order = key ++ (codes " comes after " ++ (before ++ (codes ": " ++ order)))

unfoldable pub keys_telling : List ℕ → List ℕ → List ℕ → ℕ → Telling
keys_telling key before order number =
    if bytes_eq key before then plain (twice_text key number) else mended (after_text key before order) sort_command

abbrev pub kinds_text : LineKind → LineKind → List ℕ
kinds_text one other =
    codes "a " ++ (called one ++ (codes " line comes after a " ++ (called other
    ++ codes " line: first come all M, then all C, then all T")))

-- a line of this number that stands out of order, and the line above
unfoldable pub order_telling : List ℕ → List ℕ → ℕ → Telling
order_telling line above number =
    if not (rank_of (kind_of line) == rank_of (kind_of above))
    then mended (kinds_text (kind_of line) (kind_of above)) sort_command
    else keys_telling (key_of line) (key_of above) (order_of (kind_of line)) number

-- ---- a line after the head

-- the version that the head line says, 3 where it says none
abbrev pub version_in : Option Head → Version
version_in None = version.Three
version_in (Some h) = h.version

abbrev pub version_of : List ℕ → Version
version_of text = version_in (head_of (line_of text 1))

abbrev pub digit_of : Version → ℕ
digit_of version.One = 1
digit_of version.Two = 2
digit_of version.Three = 3

-- the fields of a line of a kind, after the kind
abbrev pub fields_of : LineKind → Version → List Field
fields_of kind.Member v = member_fields
fields_of kind.Claim version.One = first_claim_fields
fields_of kind.Claim v = claim_fields
fields_of kind.Total version.Three = total_fields
fields_of kind.Total v = short_total_fields

-- a line of another number of fields
abbrev pub count_text : ℕ → LineKind → Version → ℕ → List ℕ
count_text count k v expected =
    decimal count ++ (codes " fields: a " ++ (called k ++ (codes " line of version " ++ (decimal (digit_of v)
    ++ (codes " has " ++ decimal expected)))))

-- the number that a field is; 0 if it is none
abbrev pub number_at : List ℕ → ℕ → ℕ
number_at line number = result_unwrap_or (number_of 19 (field_of line number)) 0

-- what the member pays of a claim: deductible and copay, and from version 2 on the coinsurance
abbrev pub share_of : Version → List ℕ → ℕ
share_of version.One line = number_at line 12 + number_at line 13
share_of v line = number_at line 12 + number_at line 13 + number_at line 14

abbrev pub share_name : Version → List ℕ
share_name version.One = codes "FH + FI"
share_name v = codes "FH + FI + 4U"

-- the figures of a claim: more than may be paid, or a larger share
abbrev pub claim_text : ℕ → List ℕ → ℕ → List ℕ
claim_text paid name share =
    if nat_lt MOST_CENTS paid
    then codes "F6 + F7 = " ++ (decimal paid ++ (codes ": expected at most " ++ (decimal MOST_CENTS ++ codes " cents")))
    else name ++ (codes " = " ++ (decimal share ++ (codes ": expected at most F6 + F7 = " ++ decimal paid)))

-- a line whose fields are right one by one
abbrev pub figures_text : List ℕ → Version → List ℕ
figures_text line v =
    if begins line (codes "M")
    then codes "the last day " ++ (quoted_text (field_of line 5)
    ++ (codes " is before the first, " ++ quoted_text (field_of line 4)))
    else claim_text (number_at line 10 + number_at line 11) (share_name v) (share_of v line)

abbrev pub first_or : Option (List ℕ) → List ℕ → List ℕ
first_or (Some text) other = text
first_or None other = other

-- a line by its fields: how many there are, the first that is wrong, or its figures together
unfoldable pub line_fields_text : List ℕ → LineKind → Version → List Field → List ℕ
line_fields_text line k v fs =
    if not (fields line == length fs + 1) then count_text (fields line) k v (length fs + 1)
    else first_or (first_fault 2 fs line) (figures_text line v)

-- a line begins with its kind
abbrev pub has_kind : List ℕ → Bool
has_kind line = begins line (codes "M|") || begins line (codes "C|") || begins line (codes "T|")

unfoldable pub kind_text : List ℕ → Version → List ℕ
kind_text line v =
    if has_kind line then line_fields_text line (kind_of line) v (fields_of (kind_of line) v)
    else quoted_text line ++ codes ": a line begins M|, C| or T|"

-- a line ends with a blank or a tab
abbrev pub ends_blank : List ℕ → Bool
ends_blank line = ends_with nat_eq line (codes " ") || ends_with nat_eq line (9 ∷ [])

-- a line begins with its kind in a small letter
abbrev pub has_small_kind : List ℕ → Bool
has_small_kind line = begins line (codes "m|") || begins line (codes "c|") || begins line (codes "t|")

-- a line that one command mends
unfoldable pub line_mended : List ℕ → Option Telling
line_mended line =
    if length line == 0 then Some (mended (codes "the line is empty") (codes "sed -i '/^$/d'"))
    else (if ends_with nat_eq line (13 ∷ [])
    then Some (mended (codes "the line ends with CR LF: expected LF") (codes "sed -i 's/\\r$//'"))
    else (if ends_blank line then Some (mended (codes "the line ends with a blank") (codes "sed -i 's/[[:blank:]]*$//'"))
    else (if begins line (codes "#")
    then Some (mended (codes "the line begins with #: books have no comments") (codes "sed -i '/^#/d'"))
    else (if has_small_kind line
    then Some (mended (codes "a line begins M|, C| or T|, in capitals") (codes "sed -i 's/^m|/M|/;s/^c|/C|/;s/^t|/T|/'"))
    else None))))

abbrev pub telling_or : Option Telling → Telling → Telling
telling_or (Some telling) other = telling
telling_or None other = other

-- a line that is none of the head's version
unfoldable pub line_telling : List ℕ → ℕ → Telling
line_telling text number =
    if nat_lt (line_feeds text) number
    then mended (codes "the last line has no line feed at its end") (codes "echo >>")
    else telling_or (line_mended (line_of text number)) (plain (kind_text (line_of text number) (version_of text)))

-- ---- a member who isn't listed

abbrev pub memberless_text : List ℕ → List ℕ
memberless_text family =
    codes "family " ++ (shown_text family ++ codes " has a total line and no member: no M line above has this family")

-- with the nearest person of the family that is listed
abbrev pub unlisted_text : List ℕ → List ℕ → Option (List ℕ) → List ℕ
unlisted_text family person (Some listed) =
    codes "member " ++ (shown_text family ++ (codes "/" ++ (shown_text person
    ++ (codes " isn't listed: the nearest person of the family is " ++ (shown_text family ++ (codes "/" ++ shown_text listed))))))
unlisted_text family person None =
    codes "member " ++ (shown_text family ++ (codes "/" ++ (shown_text person
    ++ (codes " isn't listed: no M line above has family " ++ shown_text family))))

-- a claim above the line of its member
abbrev pub below_text : List ℕ → List ℕ → List ℕ
below_text family person =
    codes "member " ++ (shown_text family ++ (codes "/" ++ (shown_text person
    ++ codes " is listed only below this claim: first come all M, then all C, then all T")))

abbrev pub claim_telling : List ℕ → ℕ → List ℕ → List ℕ → Telling
claim_telling text number family person =
    if is_listed text family person then mended (below_text family person) sort_command
    else plain (unlisted_text family person (nearest person (persons_above text number family)))

-- a total whose family has no member, or a claim whose member isn't listed, or only below
unfoldable pub unknown_telling : List ℕ → ℕ → Telling
unknown_telling text number =
    let line = line_of text number in
    if begins line (codes "T") then plain (memberless_text (field_of line 2))
    else claim_telling text number (field_of line 5) (field_of line 6)

-- ---- each fault

abbrev pub too_many_text : List ℕ → List ℕ
too_many_text text = decimal (line_feeds text) ++ (codes " line feeds: at most " ++ (decimal MOST_LINES ++ codes " are read"))

abbrev pub no_memory_text : List ℕ
no_memory_text = codes "out of memory"

abbrev pub telling_of : Said → Telling
telling_of said = record { text = string_bytes said.text; mend = said.mend.now }

-- what is said of each fault
abbrev pub books_telling : List ℕ → BooksFault → Telling
books_telling text fault.Head = head_telling text (line_of text 1)
books_telling text (fault.Line n) = line_telling text n
books_telling text (fault.Order n) = order_telling (line_of text n) (line_of text (n - 1)) n
books_telling text (fault.UnknownMember n) = unknown_telling text n
books_telling text (fault.Totals n) = plain (totals_text text n)
books_telling text fault.TooMuch = plain (too_many_text text)
books_telling text fault.Memory = plain no_memory_text

-- the same where the text can't be read again
abbrev pub unread_books_text : BooksFault → List ℕ
unread_books_text fault.Head = codes "no head line: expected BOOKS|3|first|last, e.g. BOOKS|3|20260101|20261231"
unread_books_text (fault.Line n) = codes "no line of the head's version, or no line feed at its end"
unread_books_text (fault.Order n) = codes "the line is out of order"
unread_books_text (fault.UnknownMember n) = codes "a member who isn't listed, or a family without one"
unread_books_text (fault.Totals n) = codes "a figure isn't the sum over the claims, or a total line is missing"
unread_books_text fault.TooMuch = codes "more than " ++ (decimal MOST_LINES ++ codes " lines")
unread_books_text fault.Memory = no_memory_text
