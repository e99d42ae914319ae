-- Meaning: what is said of faults of a plan sheet: where each stands, what is there, and what is expected.
use Rattle.std.specs.Prelude.{◌≡◌, ℕ, ◌+◌, ◌≤◌, not, ◌==◌, if◌then◌else◌, List, [], ◌++◌, bit_and, codes, count_by, drop, length, take}
use Rattle.std.specs.Prelude.{Bool, MatchBool, Option, Some, None, Result, Ok, Err, string_bytes}
use Rattle.std.specs.Str.{IsValidUpTo, bytes_eq, is_utf8}
use Rattle.toml.specs.Data.{Members, get_member}
use Rattle.toml.specs.Parse.{parse_document}
use Rattle.rx_ledger.specs.declared.sheet_key.SheetKey.{SheetKey}
use Rattle.rx_ledger.specs.declared.sheet_key.SheetKey.TheVariants as key
use Rattle.rx_sheet.specs.Names.{name_of}
use Rattle.rx_sheet.specs.SheetText.{tree_of}
use Rattle.rx_sheet.specs.declared.fault.SheetFault.{SheetFault}
use Rattle.rx_sheet.specs.declared.fault.SheetFault.TheVariants as fault
use Rattle.rx_diagnostics.specs.KnownKeys.{sheet_keys}
use Rattle.rx_diagnostics.specs.Likeness.{nearest}
use Rattle.rx_diagnostics.specs.Looks.{begins, looks_like}
use Rattle.rx_diagnostics.specs.Parts.{line_feeds, line_of}
use Rattle.rx_diagnostics.specs.Quoting.{quoted_text}
use Rattle.rx_diagnostics.specs.SheetDrugs.{TellsOfDrugs, no_key_text, table_under}
use Rattle.rx_diagnostics.specs.SheetNames.{meant_text, names_in}
use Rattle.rx_diagnostics.specs.SheetPlaces.{sheet_place}
use Rattle.rx_diagnostics.specs.SheetTexts.{missing_text, no_memory_text, wrong_text}
use Rattle.rx_diagnostics.specs.SheetValues.{TellsDay, TellsValue}
use Rattle.rx_diagnostics.specs.declared.place.Place.{Place}
use Rattle.rx_diagnostics.specs.declared.place.Place.TheVariants as place
use Rattle.rx_diagnostics.specs.declared.words.Words.{Words}

-- the words are about this place, and no one step mends it
abbrev pub AreAt : Place → List ℕ → Words → Type 0
AreAt at said words = (words.place ≡ at) × ((string_bytes words.text ≡ said) × (words.mend.now ≡ []))

abbrev pub AreOfWhole : List ℕ → Words → Type 0
AreOfWhole said words = AreAt place.Whole said words

-- ---- a text that is no TOML

-- the byte begins a character of UTF-8
abbrev pub begins_character : ℕ → Bool
begins_character b = not (bit_and b 192 == 128)

-- the number of the line that goes on after this many bytes of a text, from 1
abbrev pub line_after : List ℕ → ℕ → ℕ
line_after text n = line_feeds (take n text) + 1

-- that line and the column there, from 1; a column counts characters
abbrev pub place_after : List ℕ → ℕ → Place
place_after text n =
    place.Column (line_after text n) (count_by begins_character (line_of (take n text) (line_after text n)) + 1)

-- the words are about the place after this many bytes, and quote its line
pub record AreAfter (text : List ℕ) (n : ℕ) (said more mend : List ℕ) (words : Words) : Type 0 where
  pub within : n ≤ length text
  pub place_is : words.place ≡ place_after text n
  pub text_is : string_bytes words.text
      ≡ said ++ (codes ": " ++ (quoted_text (line_of text (line_after text n)) ++ more))
  pub mend_is : words.mend.now ≡ mend

-- what follows begins with the comma of a number
abbrev pub comma_text : List ℕ → List ℕ
comma_text rest = if begins rest (codes ",") then codes ": a number has no comma" else []

-- the command that writes a text in Latin-1 as UTF-8
abbrev pub utf8_command : List ℕ
utf8_command = codes "sh -c 'iconv -f latin1 -t utf-8 \"$1\" > \"$1.new\" && mv \"$1.new\" \"$1\"' sh"

-- the longest front that is UTF-8 ends there
abbrev pub TellsOfBytes : List ℕ → Words → Type 0
TellsOfBytes text words =
    (n : ℕ) × (IsValidUpTo text n × AreAfter text n (codes "not UTF-8") [] utf8_command words)

-- where TOML's reader stopped, and its message; which these are, no definition fixes
abbrev pub TellsOfReading : List ℕ → Option Members → Words → Type 0
TellsOfReading text None words =
    (n : ℕ) × ((message : List ℕ) × AreAfter text n (codes "not TOML: " ++ message) (comma_text (drop n text)) [] words)
TellsOfReading text (Some sheet) words = AreOfWhole (codes "not TOML") words

-- what a text looks like, unless like a sheet
abbrev pub unless_sheet : Option (List ℕ) → Option (List ℕ)
unless_sheet None = None
unless_sheet (Some kind) = if bytes_eq kind (codes "a plan sheet") then None else Some kind

abbrev pub TellsOfKind : List ℕ → Option (List ℕ) → Words → Type 0
TellsOfKind text (Some kind) words = AreOfWhole (codes "not TOML: this looks like " ++ kind) words
TellsOfKind text None words =
    MatchBool (is_utf8 text) (TellsOfReading text (parse_document text) words) (TellsOfBytes text words)

-- ---- keys

-- a value that is wrong
abbrev pub TellsWrongIn : SheetKey → Members → List ℕ → Type 0
TellsWrongIn key.PeriodFirst sheet said =
    TellsDay key.PeriodFirst (get_member (name_of key.PeriodFirst) sheet) (get_member (codes "period_first") sheet) said
TellsWrongIn key.PeriodLast sheet said =
    TellsDay key.PeriodLast (get_member (name_of key.PeriodLast) sheet) (get_member (codes "period_first") sheet) said
TellsWrongIn key.Tiers sheet said = TellsOfDrugs key.Tiers sheet said
TellsWrongIn key.Drugs sheet said = TellsOfDrugs key.Drugs sheet said
TellsWrongIn key.Tier sheet said = TellsOfDrugs key.Tier sheet said
TellsWrongIn key.Price sheet said = TellsOfDrugs key.Price sheet said
TellsWrongIn k sheet said = TellsValue k (get_member (name_of k) sheet) said

-- the same, unless the text is a sheet's no longer
abbrev pub TellsWrong : SheetKey → Result Members SheetFault → List ℕ → Type 0
TellsWrong k (Ok sheet) said = TellsWrongIn k sheet said
TellsWrong k (Err f) said = said ≡ wrong_text k

-- of the keys that are none of a sheet's, the one that is most like a missing one may be meant
unfoldable pub meant_for : List ℕ → SheetKey → Members → List ℕ
meant_for text k sheet = meant_text text (nearest (name_of k) (names_in sheet_keys sheet))

-- a key that isn't there
abbrev pub missing_in : List ℕ → SheetKey → Members → List ℕ
missing_in text key.Tier sheet = no_key_text key.Tier (table_under key.Drugs sheet)
missing_in text key.Price sheet = no_key_text key.Price (table_under key.Drugs sheet)
missing_in text k sheet = missing_text k ++ meant_for text k sheet

abbrev pub missing_said : List ℕ → SheetKey → Result Members SheetFault → List ℕ
missing_said text k (Ok sheet) = missing_in text k sheet
missing_said text k (Err f) = missing_text k

-- the same, unless the file is empty
abbrev pub missing_of : SheetKey → List ℕ → List ℕ
missing_of k text =
    if length text == 0 then codes "the file is empty: expected a plan sheet, which has a line as bin = \"900001\""
    else missing_said text k (tree_of text)

-- ---- each fault

abbrev pub TellsOfSheet : List ℕ → SheetFault → Words → Type 0
TellsOfSheet text fault.NotToml words = TellsOfKind text (unless_sheet (looks_like text)) words
TellsOfSheet text (fault.Missing k) words = AreAt (sheet_place text (fault.Missing k)) (missing_of k text) words
TellsOfSheet text (fault.Wrong k) words =
    (said : List ℕ) × (TellsWrong k (tree_of text) said × AreAt (sheet_place text (fault.Wrong k)) said words)
TellsOfSheet text fault.Memory words = AreOfWhole no_memory_text words
