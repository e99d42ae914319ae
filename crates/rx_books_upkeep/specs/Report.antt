-- Meaning: the report of a loading: a heading, and a line for each member of the table, in the order of family and person
-- (docs/FORMATS.md, "Members report").
use Rattle.std.specs.Prelude.{ℕ, List, [], ◌∷◌, ◌++◌, codes}
use Rattle.std.specs.List.{flat_map, join_with_byte}
use Rattle.rx_fields.specs.Calendar.{date_text}
use Rattle.rx_books_upkeep.specs.declared.change.Change.{Change}
use Rattle.rx_books_upkeep.specs.declared.change.Change.TheVariants.{CameIn, Changed, Stayed}
use Rattle.rx_books_upkeep.specs.declared.change.MemberChange.{MemberChange}

-- fields with a tab between each two, and a line feed after the last
abbrev pub tabbed : List (List ℕ) → List ℕ
tabbed fields = join_with_byte 9 fields ++ 10 ∷ []

abbrev pub change_text : Change → List ℕ
change_text CameIn = codes "came in"
change_text Changed = codes "changed"
change_text Stayed = codes "stayed"

abbrev pub report_heading : List ℕ
report_heading =
    tabbed (codes "family" ∷ codes "person" ∷ codes "first" ∷ codes "last" ∷ codes "change" ∷ [])

-- the member, its coverage in the table, and what the table did
abbrev pub change_line : MemberChange → List ℕ
change_line c =
    tabbed (c.member.key.family ∷ c.member.key.person ∷ date_text c.member.coverage.first
    ∷ date_text c.member.coverage.last ∷ change_text c.change ∷ [])

abbrev pub changes_text : List MemberChange → List ℕ
changes_text cs = report_heading ++ flat_map change_line cs
