-- The text of an account hangs on the parts of its sections and its total.
use Rattle.std.proofs.Common.{◌≡◌, ℕ, List, [], ◌∷◌, ◌++◌, map, codes, length, Option, refl, sym, ap, ◌∙◌}
use Rattle.std.specs.List.{flat_map, fold}
use Rattle.rx_fields.specs.Numbered.{LotParts}
use Rattle.rx_fields.specs.declared.stamp.Stamp.{Stamp}
use Rattle.rx_print.specs.Escape.{escaped}
use Rattle.rx_print.specs.declared.style.Style.TheVariants.{Terminal}
use Rattle.rx_report.specs.Accounts.{parts_of}
use Rattle.rx_report.specs.Texts.{lines_json}
use Rattle.rx_report.specs.declared.portion.Portion.{Portion}
use Rattle.rx_report.specs.declared.section.Account.{Account}
use Rattle.rx_report.specs.declared.section.Section.{Section}
use Rattle.rx_report_text.specs.Columns.{account_text, columns_text, headings, line_row, scope_text, section_text, stamp_line, tally_line}
use Rattle.rx_report_text.specs.Columns.{wide, wide_columns, widened, width_of}
use Rattle.rx_report_text.specs.Json.{account_json, comma_section, end_json, first_section, portion_json, provider_json, section_json}
use Rattle.rx_report_text.specs.Json.{sections_json, tally_json}
use Rattle.rx_report_text.specs.Shown.{columns, heading_of}
use Rattle.rx_report_text.specs.declared.shown.Shown.{Shown}
use Rattle.rx_settle.specs.Providers.{named}
use Rattle.rx_commands.proofs.OwnSection.{Part}

-- ---- columns

-- in columns that have room for all of these
abbrev part_text : List Section → Part → List ℕ
part_text all p =
    codes "provider " ++ (escaped Terminal (named p.0) ++ (tally_line p.1.0
    ++ (headings (wide_columns all) ++ (flat_map (line_row (wide_columns all)) p.1.1 ++ 10 ∷ []))))

sections-text : (all xs : List Section)
    → flat_map (section_text (wide_columns all)) xs ≡ flat_map (part_text all) (map parts_of xs)
unfolding section_text
sections-text all [] = refl
sections-text all (x ∷ xs) = ap (λ text. section_text (wide_columns all) x ++ text) (sections-text all xs)

widths : (s : Shown) (least : ℕ) (xs : List Section)
    → fold (λ w x. widened s w x.lines.now) least xs ≡ fold (λ w (p : Part). widened s w p.1.1) least (map parts_of xs)
widths s least [] = refl
widths s least (x ∷ xs) = widths s (widened s least x.lines.now) xs

module _ (xs ys : List Section) (same : map parts_of xs ≡ map parts_of ys) where
  width-same : (s : Shown) → width_of xs s ≡ width_of ys s
  width-same s =
      widths s (length (heading_of s)) xs
      ∙ ap (fold (λ w (p : Part). widened s w p.1.1) (length (heading_of s))) same
      ∙ sym (widths s (length (heading_of s)) ys)

  wide-same : (s : Shown) → wide xs s ≡ wide ys s
  wide-same s = λ i. record { shown = s; width = width-same s i }

  all-wide : (ss : List Shown) → map (wide xs) ss ≡ map (wide ys) ss
  all-wide [] = refl
  all-wide (s ∷ ss) = λ i. wide-same s i ∷ all-wide ss i

  wide-columns-same : wide_columns xs ≡ wide_columns ys
  unfolding wide_columns
  wide-columns-same = all-wide columns

sections-same : (all xs ys : List Section) → map parts_of xs ≡ map parts_of ys
    → flat_map (section_text (wide_columns all)) xs ≡ flat_map (section_text (wide_columns all)) ys
sections-same all xs ys same = sections-text all xs ∙ ap (flat_map (part_text all)) same ∙ sym (sections-text all ys)

pub columns-same : (stamp : Option Stamp) (p q : Portion) (a b : Account) → scope_text p ≡ scope_text q
    → map parts_of a.sections.items ≡ map parts_of b.sections.items → a.total ≡ b.total
    → columns_text stamp p a ≡ columns_text stamp q b
unfolding account_text
columns-same stamp p q a b scope parts total =
    ap (λ cs. stamp_line stamp ++ (flat_map (section_text cs) a.sections.items ++ (scope_text p ++ tally_line a.total)))
    (wide-columns-same a.sections.items b.sections.items parts)
    ∙ ap (λ text. stamp_line stamp ++ (text ++ (scope_text p ++ tally_line a.total)))
    (sections-same b.sections.items a.sections.items b.sections.items parts)
    ∙ (λ i. stamp_line stamp ++ (flat_map (section_text (wide_columns b.sections.items)) b.sections.items
    ++ (scope i ++ tally_line (total i))))

-- ---- JSON

abbrev part_json : Part → List ℕ
part_json p =
    codes "{\"provider\":" ++ (provider_json p.0 ++ (codes "," ++ (tally_json p.1.0
    ++ (codes ",\"lines\":" ++ (lines_json p.1.1 ++ codes "}")))))

abbrev parts_json : List Part → List ℕ
parts_json [] = []
parts_json (p ∷ ps) = (10 ∷ part_json p) ++ flat_map (λ q. 44 ∷ 10 ∷ part_json q) ps

commas : (xs : List Section) → flat_map comma_section xs ≡ flat_map (λ q. 44 ∷ 10 ∷ part_json q) (map parts_of xs)
unfolding section_json
commas [] = refl
commas (x ∷ xs) = ap (λ text. comma_section x ++ text) (commas xs)

sections-json : (xs : List Section) → sections_json xs ≡ parts_json (map parts_of xs)
unfolding sections_json section_json
sections-json [] = refl
sections-json (x ∷ xs) = ap (λ text. first_section x ++ text) (commas xs)

pub json-same : (lot : LotParts) (stamp : Option Stamp) (p q : Portion) (a b : Account) → portion_json p ≡ portion_json q
    → map parts_of a.sections.items ≡ map parts_of b.sections.items → a.total ≡ b.total
    → account_json lot stamp p a ≡ account_json lot stamp q b
json-same lot stamp p q a b portions parts total =
    let sections = sections-json a.sections.items ∙ ap parts_json parts ∙ sym (sections-json b.sections.items) in
    λ i. codes "{" ++ (portions i ++ (codes "\"sections\":[" ++ (sections i ++ end_json lot stamp (total i))))
