-- Meaning: an account as a value of JSON. Amounts are in cents.
use Rattle.std.specs.Prelude.{ℕ, List, [], ◌∷◌, ◌++◌, map, Option, Some, None, codes}
use Rattle.std.specs.Result.{result_ok}
use Rattle.rx_fields.specs.Numbered.{LotParts}
use Rattle.rx_fields.specs.declared.stamp.Stamp.{Stamp}
use Rattle.rx_fields.specs.Text.{id_of}
use Rattle.rx_print.specs.JsonData.{Value, Null, Number, Text, array, object}
use Rattle.rx_report.specs.LinesData.{batch_members, count_data, lines_data}
use Rattle.rx_report.specs.declared.portion.Portion.{Portion}
use Rattle.rx_report.specs.declared.portion.Portion.TheVariants as portion
use Rattle.rx_report.specs.declared.section.Account.{Account}
use Rattle.rx_report.specs.declared.section.Section.{Section}
use Rattle.rx_settle.specs.Settlement.{net}
use Rattle.rx_settle.specs.declared.tally.Tally.{Tally}

-- whose lines they are, where they aren't all
abbrev pub portion_data : Portion → List (List ℕ × Value)
portion_data portion.Whole = []
portion_data (portion.Provider id) = (codes "only_provider", Text id.now) ∷ []
portion_data (portion.Family id) = (codes "only_family", Text id.now) ∷ []

-- the provider that a field names, or null
abbrev pub id_data : Option (List ℕ) → Value
id_data None = Null
id_data (Some id) = Text id

abbrev pub tally_data : Tally → List (List ℕ × Value)
tally_data t =
    (codes "paid", count_data t.paid) ∷ (codes "duplicate", count_data t.duplicate) ∷ (codes "approved", count_data t.approved)
    ∷ (codes "rejected", count_data t.rejected) ∷ (codes "net", Number (net t)) ∷ []

abbrev pub section_data : Section → Value
section_data s =
    object ((codes "provider", id_data (result_ok (id_of 15 s.provider)))
    ∷ (tally_data s.tally ++ (codes "lines", lines_data s.lines.now) ∷ []))

abbrev pub account_data : LotParts → Option Stamp → Portion → Account → Value
account_data lot stamp p account =
    object (portion_data p ++ (codes "sections", array (map section_data account.sections.items))
    ∷ (codes "total", object (tally_data account.total)) ∷ batch_members lot stamp)
