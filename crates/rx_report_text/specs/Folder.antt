-- Text: the pages of an account in a folder: the first has a row for each provider, and each provider has a page.
use Rattle.std.specs.Prelude.{ℕ, List, [], ◌∷◌, codes, map}
use Rattle.std.specs.List.{enumerate_from}
use Rattle.rx_report.specs.declared.portion.Portion.{Portion}
use Rattle.rx_report.specs.declared.section.Account.{Account}
use Rattle.rx_report.specs.declared.section.Section.{Section}
use Rattle.rx_report_text.specs.declared.folder.PageFile.{PageFile}
use Rattle.rx_report_text.specs.declared.layout.Layout.TheVariants.{Index, Leaf}
use Rattle.rx_report_text.specs.declared.origin.PageHead.{PageHead}
use Rattle.rx_report_text.specs.declared.why.Why.{Why}
use Rattle.rx_report_text.specs.Layouts.{page_name}
use Rattle.rx_report_text.specs.Whole.{parts_of_page}

-- a page's file and its text
abbrev pub file_of : PageFile → List ℕ × List ℕ
file_of f = (f.name.items, f.text.items)

-- the page of one section: its lines and its tally, and nothing of another
abbrev pub leaf_text : PageHead → Portion → List Why → Section → List ℕ
leaf_text head p whys s = parts_of_page (Leaf s.provider) head p (s ∷ []) s.tally whys

-- with its file's name, after this many
abbrev pub leaf : PageHead → Portion → List Why → ℕ → Section → List ℕ × List ℕ
leaf head p whys before s = (page_name before, leaf_text head p whys s)

-- those of the sections after these numbers
abbrev pub leaves : PageHead → Portion → List Why → List (ℕ × Section) → List (List ℕ × List ℕ)
leaves head p whys numbered = map (λ s. leaf head p whys s.0 s.1) numbered

abbrev pub index_text : PageHead → Portion → Account → List ℕ
index_text head p account = parts_of_page Index head p account.sections.items account.total []

-- the page that leads to the others, and the page of each section
abbrev pub folder : PageHead → Portion → Account → List Why → List (List ℕ × List ℕ)
folder head p account whys =
    (codes "index.html", index_text head p account) ∷ leaves head p whys (enumerate_from 0 account.sections.items)
