-- Text: how a page says at its head what it was made from, by what and when.
use Rattle.std.specs.Prelude.{ℕ, List, [], ◌++◌, Option, Some, None, codes}
use Rattle.rx_fields.specs.declared.door.Door.{Door}
use Rattle.rx_fields.specs.declared.stamp.Stamp.{Stamp}
use Rattle.rx_print.specs.Escape.{escaped}
use Rattle.rx_print.specs.declared.style.Style.TheVariants.{Html}
use Rattle.rx_report_text.specs.declared.origin.PageHead.{PageHead}
use Rattle.rx_report_text.specs.declared.origin.Origin.{Origin}
use Rattle.rx_report_text.specs.declared.origin.InputFile.{InputFile}
use Rattle.rx_report_text.specs.Stamps.{stamp_words}

-- the plan, by what a transmission has to name
unfoldable pub plan_text : Door → List ℕ
plan_text door =
    codes "<dl class=\"origin\">\n<dt>Plan</dt><dd>BIN " ++ (escaped Html door.bin ++ (codes ", PCN " ++ (escaped Html door.pcn
    ++ codes "</dd>\n")))

-- the stamp of the run, where it is known
abbrev pub stamp_text : Option Stamp → List ℕ
stamp_text None = []
stamp_text (Some s) = codes "<dt>Stamp</dt><dd>" ++ (escaped Html (stamp_words s) ++ codes "</dd>\n")

-- a file: its path as it was given, and the SHA-256 of its bytes
abbrev pub file_text : List ℕ → InputFile → List ℕ
file_text name s =
    codes "<dt>" ++ (name ++ (codes "</dt><dd>" ++ (escaped Html s.path.now ++ (codes " <code>" ++ (escaped Html s.sha256.now
    ++ codes "</code></dd>\n")))))

unfoldable pub files_text : Origin → List ℕ
files_text o =
    file_text (codes "Sheet") o.sheet ++ (file_text (codes "Books") o.books ++ file_text (codes "Batch file") o.batch)

abbrev pub term_text : List ℕ → List ℕ → List ℕ
term_text name text = codes "<dt>" ++ (name ++ (codes "</dt><dd>" ++ (escaped Html text ++ codes "</dd>\n")))

-- the program and the time
unfoldable pub made_text : Origin → List ℕ
made_text o =
    term_text (codes "Program") o.program.now ++ (term_text (codes "Made") o.made.now ++ codes "</dl>\n")

abbrev pub origin_text : PageHead → List ℕ
origin_text head =
    plan_text head.door ++ (stamp_text head.stamp ++ (files_text head.origin ++ made_text head.origin))
