-- Text: an account as a JSON object. Amounts are in cents.
use Rattle.std.specs.Prelude.{ℕ, List, [], ◌∷◌, ◌++◌, Option, Some, None, codes}
use Rattle.std.specs.Fmt.{decimal, signed_decimal}
use Rattle.std.specs.List.{flat_map}
use Rattle.std.specs.Result.{result_ok}
use Rattle.rx_fields.specs.Numbered.{LotParts}
use Rattle.rx_fields.specs.declared.stamp.Stamp.{Stamp}
use Rattle.rx_fields.specs.Text.{id_of}
use Rattle.rx_report.specs.Texts.{batch_json, lines_json, quoted}
use Rattle.rx_report.specs.declared.portion.Portion.{Portion}
use Rattle.rx_report.specs.declared.portion.Portion.TheVariants as portion
use Rattle.rx_report.specs.declared.section.Account.{Account}
use Rattle.rx_report.specs.declared.section.Section.{Section}
use Rattle.rx_settle.specs.Settlement.{net}
use Rattle.rx_settle.specs.declared.tally.Tally.{Tally}

-- whose lines they are, where they aren't all
abbrev pub portion_json : Portion → List ℕ
portion_json portion.Whole = []
portion_json (portion.Provider id) = codes "\"only_provider\":" ++ (quoted id.now ++ codes ",")
portion_json (portion.Family id) = codes "\"only_family\":" ++ (quoted id.now ++ codes ",")

-- an id, or null
abbrev pub known_json : Option (List ℕ) → List ℕ
known_json None = codes "null"
known_json (Some id) = quoted id

-- the provider that a field names
abbrev pub provider_json : List ℕ → List ℕ
provider_json field = known_json (result_ok (id_of 15 field))

-- the counts, and the net
abbrev pub counts_json : Tally → List ℕ
counts_json t =
    codes "\"paid\":" ++ (decimal t.paid ++ (codes ",\"duplicate\":" ++ (decimal t.duplicate
    ++ (codes ",\"approved\":" ++ (decimal t.approved ++ (codes ",\"rejected\":" ++ (decimal t.rejected
    ++ codes ",\"net\":")))))))

unfoldable pub tally_json : Tally → List ℕ
tally_json t = counts_json t ++ signed_decimal (net t)

-- a provider with its counts, its net and its lines
unfoldable pub section_json : Section → List ℕ
section_json s =
    codes "{\"provider\":" ++ (provider_json s.provider ++ (codes "," ++ (tally_json s.tally
    ++ (codes ",\"lines\":" ++ (lines_json s.lines.now ++ codes "}")))))

-- each on a line of its own, a comma after the one before it
abbrev pub first_section : Section → List ℕ
first_section s = 10 ∷ section_json s

abbrev pub comma_section : Section → List ℕ
comma_section s = 44 ∷ first_section s

unfoldable pub sections_json : List Section → List ℕ
sections_json [] = []
sections_json (s ∷ more) = first_section s ++ flat_map comma_section more

abbrev pub end_json : LotParts → Option Stamp → Tally → List ℕ
end_json lot stamp total = codes "],\"total\":{" ++ (tally_json total ++ (codes "}," ++ (batch_json lot stamp ++ codes "}\n")))

-- the whole
abbrev pub account_json : LotParts → Option Stamp → Portion → Account → List ℕ
account_json lot stamp p account =
    codes "{" ++ (portion_json p ++ (codes "\"sections\":[" ++ (sections_json account.sections.items
    ++ end_json lot stamp account.total)))
