-- An account, written as JSON, is read as its value.
use Rattle.std.proofs.Common.{◌≡◌, ℕ, pos, true, List, [], ◌∷◌, ◌++◌, map, Option, Some, None, codes, refl, ap, ◌∙◌, append_assoc}
use Rattle.std.specs.Fmt.{decimal, signed_decimal}
use Rattle.std.specs.List.{flat_map}
use Rattle.std.specs.Result.{result_ok}
use Rattle.rx_fields.specs.Numbered.{LotParts}
use Rattle.rx_fields.specs.declared.stamp.Stamp.{Stamp}
use Rattle.rx_fields.specs.Text.{id_of}
use Rattle.rx_print.proofs.JsonPieces.{AreMembers, IsItem, IsText, array_is, braces_is, each_item_is, item_is, line_begins, line_ends}
use Rattle.rx_print.proofs.JsonPieces.{members_are, members_at, named_is, no_items_are, null_text_is, number_text_is, text_at, text_is}
use Rattle.rx_print.proofs.JsonWords.{is_name}
use Rattle.rx_print.specs.JsonData.{Value, Number, Text, array, object}
use Rattle.rx_report.proofs.LinesRead.{batch_members_are, lines_are}
use Rattle.rx_report.specs.LinesData.{batch_members, count_data, lines_data}
use Rattle.rx_report.specs.Texts.{batch_json, lines_json, quoted}
use Rattle.rx_report.specs.declared.portion.Portion.{Portion}
use Rattle.rx_report.specs.declared.portion.Portion.TheVariants as portion
use Rattle.rx_report.specs.declared.section.Account.{Account}
use Rattle.rx_report.specs.declared.section.Section.{Section}
use Rattle.rx_report_text.specs.AccountData.{account_data, id_data, section_data, tally_data}
use Rattle.rx_report_text.specs.Json.{account_json, comma_section, end_json, first_section, known_json, portion_json}
use Rattle.rx_report_text.specs.Json.{provider_json, section_json, sections_json, tally_json}
use Rattle.rx_settle.specs.Settlement.{net}
use Rattle.rx_settle.specs.declared.tally.Tally.{Tally}

id_is : (d : ℕ) (id : Option (List ℕ)) → IsText d (known_json id) (id_data id)
id_is d None = null_text_is d
id_is d (Some id) = text_is d id

-- ---- counts and net

abbrev count_text : List ℕ → ℕ → List ℕ
count_text name n = 44 ∷ 34 ∷ (name ++ (34 ∷ 58 ∷ decimal n))

abbrev net_text : Tally → List ℕ
net_text t = 44 ∷ 34 ∷ (codes "net" ++ (34 ∷ 58 ∷ signed_decimal (net t)))

abbrev counts_text : Tally → List ℕ
counts_text t =
    count_text (codes "paid") t.paid ++ (count_text (codes "duplicate") t.duplicate
    ++ (count_text (codes "approved") t.approved ++ (count_text (codes "rejected") t.rejected ++ net_text t)))

tally_apart : (t : Tally) → 44 ∷ tally_json t ≡ counts_text t
unfolding tally_json
tally_apart t = simp append_assoc refl

tally_is : (d : ℕ) (t : Tally) → AreMembers d (44 ∷ tally_json t) (tally_data t)
tally_is d t =
    members_at d _ (counts_text t) (tally_data t) (tally_apart t)
    (members_are d _ _ (_ ∷ []) _ (named_is d (codes "paid") _ (count_data t.paid) refl (number_text_is d (pos t.paid)))
    (members_are d _ _ (_ ∷ []) _ (named_is d (codes "duplicate") _ (count_data t.duplicate) refl (number_text_is d (pos t.duplicate)))
    (members_are d _ _ (_ ∷ []) _ (named_is d (codes "approved") _ (count_data t.approved) refl (number_text_is d (pos t.approved)))
    (members_are d _ _ (_ ∷ []) _ (named_is d (codes "rejected") _ (count_data t.rejected) refl (number_text_is d (pos t.rejected)))
    (named_is d (codes "net") _ (Number (net t)) refl (number_text_is d (net t)))))))

-- ---- a section

abbrev section_text : Section → List ℕ
section_text s =
    codes "\"provider\":" ++ (provider_json s.provider ++ ((44 ∷ tally_json s.tally) ++ (codes ",\"lines\":" ++ lines_json s.lines.now)))

section_apart : (s : Section) → section_json s ≡ 123 ∷ (section_text s ++ 125 ∷ [])
unfolding section_json
section_apart s = simp append_assoc refl

section_is : (s : Section) → IsText 3 (section_json s) (section_data s)
section_is s =
    text_at 3 (section_json s) _ (section_data s) (section_apart s)
    (braces_is 2 (section_text s) (codes "provider", id_data (result_ok (id_of 15 s.provider)))
    (tally_data s.tally ++ (codes "lines", lines_data s.lines.now) ∷ [])
    (members_are 2 (44 ∷ (codes "\"provider\":" ++ provider_json s.provider)) _ (_ ∷ []) _
    (named_is 2 (codes "provider") _ _ refl (id_is 2 (result_ok (id_of 15 s.provider))))
    (members_are 2 (44 ∷ tally_json s.tally) _ (tally_data s.tally) _ (tally_is 2 s.tally)
    (named_is 2 (codes "lines") _ (lines_data s.lines.now) refl (lines_are s.lines.now)))))

other_is : (s : Section) → IsItem 3 (comma_section s) (section_data s)
other_is s = item_is 3 (first_section s) (section_data s) (line_begins 3 (section_json s) (section_data s) (section_is s))

sections_apart : (s : Section) (more : List Section)
    → 91 ∷ (sections_json (s ∷ more) ++ 93 ∷ []) ≡ 91 ∷ (first_section s ++ (flat_map comma_section more ++ 93 ∷ []))
unfolding sections_json
sections_apart s more = simp append_assoc refl

sections_are : (ss : List Section) → IsText 4 (91 ∷ (sections_json ss ++ 93 ∷ [])) (array (map section_data ss))
unfolding sections_json
sections_are [] = no_items_are 3
sections_are (s ∷ more) =
    text_at 4 (91 ∷ (sections_json (s ∷ more) ++ 93 ∷ [])) _ (array (map section_data (s ∷ more))) (sections_apart s more)
    (array_is 3 (first_section s) (flat_map comma_section more) (section_data s) (map section_data more)
    (line_begins 3 (section_json s) (section_data s) (section_is s)) (each_item_is 3 comma_section section_data other_is more))

-- ---- the account

abbrev sections_text : Account → List ℕ
sections_text a = 91 ∷ (sections_json a.sections.items ++ 93 ∷ [])

abbrev total_text : Account → List ℕ
total_text a = 123 ∷ (tally_json a.total ++ 125 ∷ [])

abbrev rest_text : LotParts → Option Stamp → Account → List ℕ
rest_text lot stamp a =
    codes "\"sections\":" ++ (sections_text a ++ ((codes ",\"total\":" ++ total_text a) ++ (44 ∷ batch_json lot stamp)))

abbrev rest_data : LotParts → Option Stamp → Account → List (List ℕ × Value)
rest_data lot stamp a =
    (codes "sections", array (map section_data a.sections.items)) ∷ (codes "total", object (tally_data a.total))
    ∷ batch_members lot stamp

total_is : (a : Account) → IsText 4 (total_text a) (object (tally_data a.total))
total_is a =
    braces_is 3 (tally_json a.total) (codes "paid", count_data a.total.paid) _ (tally_is 3 a.total)

rest_are : (lot : LotParts) (stamp : Option Stamp) (a : Account) → AreMembers 4 (44 ∷ rest_text lot stamp a) (rest_data lot stamp a)
rest_are lot stamp a =
    members_are 4 (44 ∷ (codes "\"sections\":" ++ sections_text a)) _ (_ ∷ []) _
    (named_is 4 (codes "sections") _ (array (map section_data a.sections.items)) refl (sections_are a.sections.items))
    (members_are 4 (codes ",\"total\":" ++ total_text a) _ (_ ∷ []) _
    (named_is 4 (codes "total") _ (object (tally_data a.total)) refl (total_is a))
    (batch_members_are 3 lot stamp))

-- an account of one provider or of one family: its name and id first
only_is : (lot : LotParts) (stamp : Option Stamp) (a : Account) (name id : List ℕ) → is_name name ≡ true
    → IsText 5 (123 ∷ (((34 ∷ (name ++ (34 ∷ 58 ∷ quoted id))) ++ (44 ∷ rest_text lot stamp a)) ++ 125 ∷ []))
    (object ((name, Text id) ∷ rest_data lot stamp a))
only_is lot stamp a name id itself =
    braces_is 4 _ (name, Text id) (rest_data lot stamp a)
    (members_are 4 (44 ∷ 34 ∷ (name ++ (34 ∷ 58 ∷ quoted id))) (44 ∷ rest_text lot stamp a) (_ ∷ []) (rest_data lot stamp a)
    (named_is 4 name (quoted id) (Text id) itself (text_is 4 id)) (rest_are lot stamp a))

account_apart : (lot : LotParts) (stamp : Option Stamp) (a : Account) (front : List ℕ)
    → codes "{" ++ (front ++ (codes "\"sections\":[" ++ (sections_json a.sections.items ++ end_json lot stamp a.total)))
    ≡ (123 ∷ ((front ++ rest_text lot stamp a) ++ 125 ∷ [])) ++ 10 ∷ []
account_apart lot stamp a front = simp append_assoc refl

only_apart : (lot : LotParts) (stamp : Option Stamp) (a : Account) (name id : List ℕ)
    → (34 ∷ (name ++ (34 ∷ 58 ∷ (quoted id ++ codes ",")))) ++ rest_text lot stamp a
    ≡ (34 ∷ (name ++ (34 ∷ 58 ∷ quoted id))) ++ (44 ∷ rest_text lot stamp a)
only_apart lot stamp a name id = simp append_assoc refl

abbrev whole_of : List ℕ → List ℕ
whole_of text = (123 ∷ (text ++ 125 ∷ [])) ++ 10 ∷ []

pub account_is : (lot : LotParts) (stamp : Option Stamp) (p : Portion) (a : Account)
    → IsText 5 (account_json lot stamp p a) (account_data lot stamp p a)
account_is lot stamp portion.Whole a =
    text_at 5 _ (whole_of (rest_text lot stamp a)) (account_data lot stamp portion.Whole a) (account_apart lot stamp a [])
    (line_ends 5 _ _ (braces_is 4 (rest_text lot stamp a) (codes "sections", array (map section_data a.sections.items)) _
    (rest_are lot stamp a)))
account_is lot stamp (portion.Provider id) a =
    text_at 5 _ _ (account_data lot stamp (portion.Provider id) a)
    (account_apart lot stamp a (portion_json (portion.Provider id))
    ∙ ap whole_of (only_apart lot stamp a (codes "only_provider") id.now))
    (line_ends 5 _ _ (only_is lot stamp a (codes "only_provider") id.now refl))
account_is lot stamp (portion.Family id) a =
    text_at 5 _ _ (account_data lot stamp (portion.Family id) a)
    (account_apart lot stamp a (portion_json (portion.Family id))
    ∙ ap whole_of (only_apart lot stamp a (codes "only_family") id.now))
    (line_ends 5 _ _ (only_is lot stamp a (codes "only_family") id.now refl))
