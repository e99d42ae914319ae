-- Text: the whole page of an account.
use Rattle.std.specs.Prelude.{ℕ, Bool, true, false, List, [], ◌++◌, codes}
use Rattle.std.specs.List.{enumerate_from}
use Rattle.rx_print.specs.Dates.{dashed}
use Rattle.rx_print.specs.Escape.{escaped}
use Rattle.rx_print.specs.declared.style.Style.TheVariants.{Html}
use Rattle.rx_fields.specs.Digits.{digits_text}
use Rattle.rx_fields.specs.Numbered.{LotParts}
use Rattle.rx_report.specs.declared.portion.Portion.{Portion}
use Rattle.rx_report.specs.declared.portion.Portion.TheVariants as portion
use Rattle.rx_report.specs.declared.section.Account.{Account}
use Rattle.rx_report.specs.declared.section.Section.{Section}
use Rattle.rx_report_text.specs.declared.layout.Layout.{Layout}
use Rattle.rx_report_text.specs.declared.layout.Layout.TheVariants.{Claims, Commands, Index, Leaf}
use Rattle.rx_report_text.specs.declared.origin.Origin.{Origin}
use Rattle.rx_report_text.specs.declared.origin.PageHead.{PageHead}
use Rattle.rx_report_text.specs.declared.script.TheConstants.{POLICY, SCRIPT}
use Rattle.rx_report_text.specs.declared.style.TheConstants.{STYLE}
use Rattle.rx_report_text.specs.declared.why.Why.{Why}
use Rattle.rx_report_text.specs.Claims.{sections_text}
use Rattle.rx_report_text.specs.ClaimsShown.{shows_claims}
use Rattle.rx_report_text.specs.Layouts.{has_claims, layout_of}
use Rattle.rx_report_text.specs.Origin.{origin_text}
use Rattle.rx_report_text.specs.Pages.{provider_text}
use Rattle.rx_report_text.specs.Providers.{table_text}
use Rattle.rx_report_text.specs.Rejects.{rejects_text}
use Rattle.rx_report_text.specs.Summary.{summary_text}
use Rattle.rx_settle.specs.declared.tally.Tally.{Tally}

-- the batch number, as text
abbrev pub lot_text : LotParts → List ℕ
lot_text lot = codes "Batch " ++ escaped Html (digits_text 7 lot.number)

-- nothing from outside is let in, no font, no picture, and no script but the page's own
abbrev pub policy_text : List ℕ
policy_text =
    codes "<!DOCTYPE html>\n<html lang=\"en\">\n<head>\n<meta charset=\"utf-8\">\n"
    ++ (POLICY.now
    ++ codes "<meta name=\"viewport\" content=\"width=device-width, initial-scale=1\">\n<title>")

-- what the page is called
abbrev pub called_text : Layout → LotParts → List ℕ
called_text Claims lot = lot_text lot
called_text Commands lot = lot_text lot
called_text Index lot = lot_text lot
called_text (Leaf field) lot = lot_text lot ++ (codes ", provider " ++ provider_text field)

-- the first link, past what stands at the head
abbrev pub skip_text : Layout → List ℕ
skip_text Index = codes "<a class=\"skip\" href=\"#providers\">Skip to the providers</a>\n"
skip_text other = codes "<a class=\"skip\" href=\"#claims\">Skip to the claims</a>\n"

-- how the page looks; on paper the batch stands at the head of each sheet, as a string of digits and letters
abbrev pub style_text : LotParts → List ℕ
style_text lot =
    codes "<style>\n" ++ (STYLE.now ++ (codes "@page{@top-left{content:'" ++ (lot_text lot ++ codes "'}}\n</style>\n")))

-- the page's name, and how it looks
unfoldable pub head_text : Layout → LotParts → List ℕ
head_text layout lot =
    policy_text ++ (called_text layout lot ++ (codes "</title>\n" ++ (style_text lot
    ++ (codes "</head>\n<body>\n" ++ skip_text layout))))

-- the front of the header; of a page in a folder with the way to the first
abbrev pub header_text : Layout → List ℕ
header_text (Leaf field) = codes "<header>\n<p><a href=\"index.html\">All providers of this batch</a></p>\n<h1>"
header_text other = codes "<header>\n<h1>"

abbrev pub family_text : List ℕ → List ℕ
family_text id = codes ", the lines of family " ++ (escaped Html id ++ codes "; counts and net are of these")

-- whose lines the page has
abbrev pub portion_text : Portion → List ℕ
portion_text portion.Whole = codes ", all providers"
portion_text (portion.Provider id) = codes ", only provider " ++ escaped Html id.now
portion_text (portion.Family id) = family_text id.now

-- the same on a page that names its provider
abbrev pub leaf_portion_text : Portion → List ℕ
leaf_portion_text portion.Whole = []
leaf_portion_text (portion.Provider id) = []
leaf_portion_text (portion.Family id) = family_text id.now

abbrev pub whose_text : Layout → Portion → List ℕ
whose_text Claims p = portion_text p
whose_text Commands p = portion_text p
whose_text Index p = portion_text p
whose_text (Leaf field) p = codes ", only provider " ++ (provider_text field ++ leaf_portion_text p)

-- how claims are printed, on a page that has them, and the end of the header
abbrev pub print_text : Bool → List ℕ
print_text true =
    codes "<label class=\"print\"><input type=\"checkbox\" id=\"short\"> print without explanations</label>\n</header>\n<main>\n"
print_text false = codes "</header>\n<main>\n"

-- the batch, its date, whose lines the page has, and its origin
unfoldable pub title_text : Layout → PageHead → Portion → List ℕ
title_text layout head p =
    header_text layout ++ (lot_text head.lot ++ (codes "</h1>\n<p>created " ++ (escaped Html (dashed head.lot.created)
    ++ (whose_text layout p ++ (codes "; amounts in dollars</p>\n" ++ (origin_text head
    ++ print_text (has_claims layout)))))))

-- in place of this many claims, the command for a folder of pages, with the paths of the files
abbrev pub too_many_text : Origin → List ℕ
too_many_text o =
    codes "<p>These are too many claims for one page. A page for each provider, and one that leads to them, are made by</p>\n"
    ++ (codes "<pre>rxbatch report " ++ (escaped Html o.options.now ++ codes " --html-dir DIR</pre>\n"))

-- where the first link of a page with claims leads
abbrev pub claims_part : List ℕ → List ℕ
claims_part text = codes "<div id=\"claims\">\n" ++ (text ++ codes "</div>\n</main>\n")

-- the claims of each provider, or how they are had; a page that leads to others has neither
unfoldable pub below_table : Layout → PageHead → List Section → List Why → List ℕ
below_table Claims head sections whys = claims_part (sections_text whys (enumerate_from 0 sections))
below_table Commands head sections whys = claims_part (too_many_text head.origin)
below_table Index head sections whys = codes "</main>\n"
below_table (Leaf field) head sections whys = claims_part (sections_text whys (enumerate_from 0 sections))

-- the script is fixed text: it holds no byte of a file
abbrev pub end_text : List ℕ
end_text = codes "<script>" ++ (SCRIPT.now ++ codes "</script>\n</body>\n</html>\n")

-- head, title, what these sections come to, why answers were rejected, the table of providers and what stands below it
abbrev pub parts_of_page : Layout → PageHead → Portion → List Section → Tally → List Why → List ℕ
parts_of_page layout head p sections total whys =
    head_text layout head.lot ++ (title_text layout head p ++ (summary_text total ++ (rejects_text (has_claims layout) sections
    ++ (table_text layout p sections total ++ (below_table layout head sections whys ++ end_text)))))

-- a page for itself
abbrev pub page_text : PageHead → Portion → Account → List Why → List ℕ
page_text head p account whys =
    parts_of_page (layout_of (shows_claims p account.sections.items)) head p account.sections.items account.total whys
