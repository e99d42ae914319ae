-- Text: the lines about the keys of a plan sheet that are ignored.
use Rattle.std.specs.Prelude.{ℕ, if◌then◌else◌, List, [], ◌∷◌, ◌++◌, codes, map}
use Rattle.std.specs.Prelude.{Option, Some, None, Result, Ok, Err, option_and_then}
use Rattle.toml.specs.Data.{Data, Members, no_members, member, as_table, get_member}
use Rattle.rx_sheet.specs.SheetText.{tree_of}
use Rattle.rx_sheet.specs.declared.fault.SheetFault.{SheetFault}
pub use Rattle.rx_diagnostics.specs.KnownKeys.{is_among, sheet_keys, texts_of}
use Rattle.rx_diagnostics.specs.Likeness.{nearest}
use Rattle.rx_check.specs.declared.ignored.Part.{Part}
use Rattle.rx_check.specs.declared.ignored.Part.TheVariants as part
use Rattle.rx_check.specs.declared.ignored.TheConstants.{DRUG_KEYS, TIER_KEYS}

-- the keys of a drug, and of a tier that is a table
abbrev pub drug_keys : List (List ℕ)
drug_keys = map (λ t. t.now) DRUG_KEYS

abbrev pub tier_keys : List (List ℕ)
tier_keys = map (λ t. t.now) TIER_KEYS

-- which key may be meant, or where a key of the sheet belongs
abbrev pub hint : List ℕ → Option (List ℕ) → List ℕ
hint name (Some like) = codes ": " ++ (like ++ codes " may be meant")
hint name None = if is_among name sheet_keys then codes ": it belongs above the first table" else []

abbrev pub line_with : List ℕ → List ℕ → List ℕ → List ℕ
line_with within name hint = within ++ (codes "key " ++ (name ++ (codes " is ignored" ++ hint)))

abbrev pub ignored_line : List ℕ → List (List ℕ) → List ℕ → List ℕ
ignored_line within known name = line_with within name (hint name (nearest name known))

-- a name that isn't among the known ones is ignored
abbrev pub name_lines : List ℕ → List (List ℕ) → List ℕ → List (List ℕ)
name_lines within known name = if is_among name known then [] else ignored_line within known name ∷ []

-- the lines of each member of a table, one after another
abbrev pub each_of : (List ℕ → Data → List (List ℕ)) → Members → List (List ℕ)
each_of lines no_members = []
each_of lines (member name value rest) = lines name value ++ each_of lines rest

-- the lines of a table, if there is one
abbrev pub lines_of : (Members → List (List ℕ)) → Option Members → List (List ℕ)
lines_of lines None = []
lines_of lines (Some members) = lines members

-- each name of a table that isn't among the known ones
abbrev pub table_lines : List ℕ → List (List ℕ) → Members → List (List ℕ)
table_lines within known members = each_of (λ name value. name_lines within known name) members

-- a tier that has the name of a key of the sheet: that key stands below the wrong table
abbrev pub misplaced_line : List ℕ → List ℕ
misplaced_line name = codes "tier " ++ (name ++ codes " has the name of a key of the sheet: that key belongs above [tiers]")

abbrev pub misplaced_lines : List ℕ → List (List ℕ)
misplaced_lines name = if is_among name sheet_keys then misplaced_line name ∷ [] else []

-- the names in the table of a tier or of a drug, if it is a table
abbrev pub named_lines : List ℕ → List ℕ → List (List ℕ) → Data → List (List ℕ)
named_lines part name known value =
    lines_of (table_lines (part ++ (codes " " ++ (name ++ codes ": "))) known) (as_table value)

abbrev pub tier_lines : List ℕ → Data → List (List ℕ)
tier_lines name tier = misplaced_lines name ++ named_lines (codes "tier") name tier_keys tier

abbrev pub drug_lines : List ℕ → Data → List (List ℕ)
drug_lines product drug = named_lines (codes "drug") product drug_keys drug

-- those of a tier, or of a drug
abbrev pub part_lines : Part → List ℕ → Data → List (List ℕ)
part_lines part.Tier name value = tier_lines name value
part_lines part.Drug name value = drug_lines name value

-- the table under a name, if there is one
abbrev pub table_at : List ℕ → Members → Option Members
table_at name sheet = option_and_then as_table (get_member name sheet)

-- the sheet's own keys, then the tiers and what they hold, then what the drugs hold
abbrev pub sheet_lines : Members → List (List ℕ)
sheet_lines sheet =
    table_lines [] sheet_keys sheet ++ lines_of (each_of (part_lines part.Tier)) (table_at (codes "tiers") sheet)
    ++ lines_of (each_of (part_lines part.Drug)) (table_at (codes "drugs") sheet)

-- a text that is no TOML document has none
abbrev pub lines_if_read : Result Members SheetFault → List (List ℕ)
lines_if_read (Ok sheet) = sheet_lines sheet
lines_if_read (Err fault) = []

abbrev pub ignored_lines : List ℕ → List (List ℕ)
ignored_lines text = lines_if_read (tree_of text)
