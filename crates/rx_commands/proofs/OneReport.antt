-- Two jobs that differ only in names of other pharmacies' claims give a pharmacy one report.
use Rattle.std.specs.Prelude.{slice_get, ◌||◌, ◌==◌, if◌then◌else◌, not}
use Rattle.std.proofs.Common.{◌≡◌, ℕ, suc, ◌+◌, List, [], map, length, Bool, true, false, Option, Some, refl, sym, ap, subst}
use Rattle.std.proofs.Common.{◌∙◌, ◌++◌, codes, inl, inr, arith}
use Rattle.std.proofs.lemmas.List.{length-map}
use Rattle.std.specs.Option.{option_map}
use Rattle.std.specs.List.{filter, list_any}
use Rattle.std.proofs.lemmas.Bool.{cases_Bool}
use Rattle.std.proofs.lemmas.Option.{same_Some}
use Rattle.rx_batch.specs.declared.detail.Detail.{Detail}
use Rattle.rx_commands.specs.Elsewhere.{DifferElsewhere, Job, asked_of, is_own_record}
use Rattle.rx_commands.specs.Forms.{IsInForm, IsReportText, IsText, kept_of}
use Rattle.rx_commands.specs.Lines.{at_of}
use Rattle.rx_commands.specs.OthersReport.{IsNoPage, IsPortionOf, IsSameReport}
use Rattle.rx_commands.specs.Reported.{IsReported}
use Rattle.rx_commands.specs.Reversed.{member_before, with_member, with_reversed}
use Rattle.rx_commands.specs.Tiers.{SheetTable, table_of_text}
use Rattle.rx_commands.specs.declared.batch_report.Report.{Report}
use Rattle.rx_commands.specs.declared.replay.batch.Adjudicated.{Adjudicated}
use Rattle.rx_commands.specs.declared.report_forms.Form.{Form}
use Rattle.rx_commands.specs.declared.report_forms.Form.TheVariants as form
use Rattle.rx_commands.specs.declared.report_forms.PrintedReport.{PrintedReport}
use Rattle.rx_commands.proofs.BackAlike.{back, back-alike, back-is}
use Rattle.rx_commands.proofs.Items.{item_of}
use Rattle.rx_commands.proofs.KeptAlike.{AreAlike, IsEither, is_line_of, is_to, lines-alike}
use Rattle.rx_commands.proofs.NamesFound.{item-mapped}
use Rattle.rx_commands.proofs.NamesReplies.{reply-kept}
use Rattle.rx_commands.proofs.OneReading.{batch-of, books-same, files-same, good-same}
use Rattle.rx_commands.proofs.OwnHeader.{not-named}
use Rattle.rx_commands.proofs.OwnSection.{Part, own-parts, parts-are}
use Rattle.rx_commands.proofs.PartsText.{columns-same, json-same}
use Rattle.rx_commands.proofs.Replied.{one_each}
use Rattle.rx_d0_request.specs.Request.{transmission_of}
use Rattle.rx_d0_values.specs.declared.reply.Reply.{Reply}
use Rattle.rx_d0_values.specs.declared.transmission.Transmission.{Transmission}
use Rattle.rx_explain.specs.Names.{AgreesBody, Names, body_named, ledger_named}
use Rattle.rx_explain.specs.Spots.{item, spot_at}
use Rattle.rx_explain.specs.declared.at.At.{At}
use Rattle.rx_explain.proofs.Laws.{reply_at}
use Rattle.rx_explain.proofs.NamesApart.{All-item, item-map, item-unmap}
use Rattle.rx_explain.proofs.NamesFolded.{InOrder}
use Rattle.rx_fields.specs.Numbered.{LotParts}
use Rattle.rx_fields.specs.declared.stamp.Stamp.{Stamp}
use Rattle.rx_ledger.specs.Fold.{fold_replies}
use Rattle.rx_ledger.specs.Ledger.{Ledger}
use Rattle.rx_ledger.specs.Plan.{Plan}
use Rattle.rx_print.specs.Escape.{escaped}
use Rattle.rx_print.specs.declared.style.Style.TheVariants.{Terminal}
use Rattle.rx_report.specs.Accounts.{IsAccount, is_in, is_of, names_provider, parts_of, with_lines}
use Rattle.rx_report.specs.Groups.{grouped}
use Rattle.rx_report.specs.Lines.{answer_of, line_of, lines_of}
use Rattle.rx_report.specs.Texts.{claims_json, quoted, tsv_text}
use Rattle.rx_report.specs.declared.line.Line.{Line}
use Rattle.rx_report.specs.declared.portion.Portion.{Portion}
use Rattle.rx_report.specs.declared.portion.Portion.TheVariants as portion
use Rattle.rx_report.specs.declared.section.Account.{Account}
use Rattle.rx_report_text.specs.Columns.{columns_text, scope_text}
use Rattle.rx_report_text.specs.Json.{account_json, portion_json}
use Rattle.rx_settle.specs.Answers.{is_approved, tally}
use Rattle.rx_settle.specs.Counting.{tallies_of}
use Rattle.rx_settle.specs.declared.settlement.Settled.{Settled}
use Rattle.rx_settle.specs.declared.tally.Tally.{Tally}

-- ---- the report of a job

record IsReportOf (plan : Plan) (opening : Ledger) (lot : LotParts) (details : List Detail) (r : Report) : Type 0 where
  lot_is : r.batch.lot ≡ lot
  sheet_is : r.batch.sheet ≡ plan
  opening_is : r.batch.opening.ledger ≡ opening
  asked_are : r.batch.asked.items ≡ asked_of plan details
  replies_are : r.batch.replies.items ≡ fold_replies lot plan 1 (asked_of plan details) opening

report-of : (sheet books batch : List ℕ) (plan : Plan) (r : Report) (job : Job sheet books batch plan)
    → IsReported sheet books batch r → IsReportOf plan job.opening job.head.lot job.details r
report-of sheet books batch plan r job is =
    let plans : r.batch.sheet ≡ plan = good-same _ _ r.batch.sheet plan is.accepted.sheet_is job.sheet_is refl in
    let ledgers : r.batch.opening.ledger ≡ job.opening =
    books-same books is.period job.period r.batch.opening.ledger job.opening is.books_are job.books_are in
    let batches : batch-of is.head r.batch.details ≡ batch-of job.head job.details =
    files-same batch is.head job.head r.batch.details job.details is.accepted.batch_is job.batch_is in
    let lots : r.batch.lot ≡ job.head.lot = is.lot_is ∙ (λ i. (batches i).head.lot) in
    let asked : r.batch.asked.items ≡ asked_of plan job.details = is.asked_are ∙ (λ i. asked_of (plans i) (batches i).details) in
    record {
      lot_is = lots;
      sheet_is = plans;
      opening_is = ledgers;
      asked_are = asked;
      replies_are = is.replies_are ∙ (λ i. fold_replies (lots i) (plans i) 1 (asked i) (ledgers i));
    }

-- ---- the line of a reversal

with-reversed-keeps : (b : Adjudicated) (l : Line) → (with_reversed b l).provider ≡ l.provider
with-reversed-keeps b l = by (is_approved l.answer)
  where
    by : (approved : Bool)
        → (if approved then with_member l (member_before b (at_of l) (spot_at b.asked.items (at_of l))) else l).provider ≡ l.provider
    by true = refl
    by false = refl

twice : (b : Bool) → (b || b) ≡ true → b ≡ true
twice true is = refl
twice false is = is

or-parts : (b c : Bool) → (b || c) ≡ false → (b ≡ false) × (c ≡ false)
or-parts true c is = absurd (let e : true ≡ false = is in cc)
or-parts false c is = (refl, is)

by-number : {X : Type 0} (xs : List X) (k : ℕ) → item xs (1 + k) ≡ slice_get xs k
by-number xs k = (let e : 1 + k ≡ suc k = omega arith in ap (item xs) e) ∙ item_of xs k

-- ---- two jobs

module _ (own sheet books batch other_books other_batch : List ℕ)
    (d : DifferElsewhere own sheet books batch other_books other_batch) (some : ¬ (own ≡ [])) where
  abbrev n : Names
  n = d.differ.names

  abbrev asks : Detail → Transmission
  asks detail = transmission_of d.plan.figures.door detail.text

  abbrev L : Ledger
  L = d.one.opening

  abbrev lot : LotParts
  lot = d.one.head.lot

  abbrev ts : List Transmission
  ts = map asks d.one.details

  abbrev us : List Transmission
  us = map asks d.other.details

  abbrev rs : List Reply
  rs = fold_replies lot d.plan 1 ts L

  abbrev ss : List Reply
  ss = fold_replies lot d.plan 1 us (ledger_named n L)

  in-order : InOrder n L
  in-order =
      record {
        members_rise = d.one.books_are.printed.ledger.members_rise;
        rows_rise = d.one.books_are.printed.ledger.rows_rise;
        agreed = d.differ.claims_agree;
      }

  is-other : (r : Report) → IsReported sheet other_books other_batch r → IsReportOf d.plan (ledger_named n L) lot d.other.details r
  is-other r is =
      subst (λ (K : Ledger). IsReportOf d.plan K lot d.other.details r) d.differ.books_are
      (subst (λ (l : LotParts). IsReportOf d.plan d.other.opening l d.other.details r) d.same_lot
      (report-of sheet other_books other_batch d.plan r d.other is))

  -- ---- the records at a place

  strange : (details : List Detail) (K : Ledger) (k : ℕ) (t : Transmission) (r : Reply)
      → slice_get (map asks details) k ≡ Some t → slice_get (fold_replies lot d.plan 1 (map asks details) K) k ≡ Some r
      → is_own_record own (Some t) ≡ false → is_to own r ≡ false
  strange details K k t r there replied other =
      let asked = item-unmap asks details k t there in
      let same = same_Some _ r (sym (reply_at lot d.plan (map asks details) 1 K k t there) ∙ replied) in
      ap (is_to own) (sym same) ∙ ap (λ (x : Transmission). names_provider own x.echo.provider) (sym asked.1.1)
      ∙ not-named own some d.plan.figures.door asked.0.text
      (ap (λ x. is_own_record own (Some x)) asked.1.1 ∙ other)

  -- a record that is the same in both keeps its names, and has the same reply
  reply-same : (k : ℕ) (t : Transmission) → slice_get ts k ≡ Some t → slice_get us k ≡ Some t → slice_get ss k ≡ slice_get rs k
  reply-same k t here there =
      let kept : Some (body_named n t.body) ≡ Some t.body =
      sym (item-map (λ (x : Transmission). body_named n x.body) ts k t here) ∙ ap (λ bs. slice_get bs k) (sym d.differ.records_are)
      ∙ item-map (λ (x : Transmission). x.body) us k t there in
      reply-kept lot d.plan n d.differ.are_names ts us L k t d.differ.records_are d.differ.records_agree
      (All-item (λ x. AgreesBody n d.plan x.body) ts k t d.differ.records_agree here) in-order here there
      (same_Some (body_named n t.body) t.body kept)

  module _ (r s : Report) (r-is : IsReportOf d.plan L lot d.one.details r)
      (s-is : IsReportOf d.plan (ledger_named n L) lot d.other.details s) where
    reversed-alike : (l : Line) → is_own_record own (item ts l.place) ≡ true → item us l.place ≡ item ts l.place
        → with_reversed r.batch l ≡ with_reversed s.batch l
    reversed-alike l mine same =
        let at : At = at_of l in
        let one : member_before r.batch at (spot_at r.batch.asked.items at) ≡ back lot d.plan ts L at (spot_at ts at) =
        back-is r.batch at (spot_at r.batch.asked.items at)
        ∙ (λ i. back (r-is.lot_is i) (r-is.sheet_is i) (r-is.asked_are i) (r-is.opening_is i) at (spot_at (r-is.asked_are i) at)) in
        let other : member_before s.batch at (spot_at s.batch.asked.items at) ≡ back lot d.plan us (ledger_named n L) at (spot_at us at) =
        back-is s.batch at (spot_at s.batch.asked.items at)
        ∙ (λ i. back (s-is.lot_is i) (s-is.sheet_is i) (s-is.asked_are i) (s-is.opening_is i) at (spot_at (s-is.asked_are i) at)) in
        let alike : back lot d.plan us d.other.opening at (spot_at us at) ≡ back lot d.plan ts L at (spot_at ts at) =
        back-alike own lot d.plan ts us L d.other.opening d.differ in-order at mine same in
        let named : back lot d.plan us (ledger_named n L) at (spot_at us at) ≡ back lot d.plan us d.other.opening at (spot_at us at) =
        ap (λ K. back lot d.plan us K at (spot_at us at)) (sym d.differ.books_are) in
        ap (λ m. if is_approved l.answer then with_member l m else l) (one ∙ sym (other ∙ named ∙ alike))

    abbrev f : Line → Line
    f = with_reversed r.batch

    abbrev g : Line → Line
    g = with_reversed s.batch

    abbrev f-keeps : (l : Line) → (f l).provider ≡ l.provider
    f-keeps = with-reversed-keeps r.batch

    abbrev g-keeps : (l : Line) → (g l).provider ≡ l.provider
    g-keeps = with-reversed-keeps s.batch

    owned : (k : ℕ) (t : Transmission) (x : Reply) (u : Transmission) (y : Reply) → slice_get ts k ≡ Some t → slice_get rs k ≡ Some x
        → slice_get us k ≡ Some u → slice_get ss k ≡ Some y
        → (is_own_record own (item ts (1 + k)) || is_own_record own (item us (1 + k))) ≡ true
        → IsEither own f g f-keeps g-keeps (1 + k) t x u y
    owned k t x u y t-is x-is u-is y-is mine =
        let same : item us (1 + k) ≡ item ts (1 + k) =
        item-mapped asks d.other.details (1 + k) ∙ ap (option_map asks) (d.own_records (1 + k) mine)
        ∙ sym (item-mapped asks d.one.details (1 + k)) in
        let here : is_own_record own (item ts (1 + k)) ≡ true =
        twice (is_own_record own (item ts (1 + k)))
        (ap (λ o. is_own_record own (item ts (1 + k)) || is_own_record own o) (sym same) ∙ mine) in
        let there : slice_get us k ≡ Some t = sym (by-number us k) ∙ same ∙ by-number ts k ∙ t-is in
        inl (record {
          transmission_is = same_Some u t (sym u-is ∙ there);
          reply_is = same_Some y x (sym y-is ∙ reply-same k t t-is there ∙ x-is);
          lines_are = λ before a. reversed-alike (line_of (1 + k) t x before a) here same;
        })

    each : (k : ℕ) (t : Transmission) (x : Reply) (u : Transmission) (y : Reply) → slice_get ts k ≡ Some t → slice_get rs k ≡ Some x
        → slice_get us k ≡ Some u → slice_get ss k ≡ Some y → IsEither own f g f-keeps g-keeps (1 + k) t x u y
    each k t x u y t-is x-is u-is y-is = elim (cases_Bool (is_own_record own (item ts (1 + k)) || is_own_record own (item us (1 + k)))) [
      | inl mine ↦ owned k t x u y t-is x-is u-is y-is mine
      | inr none ↦
          let parts = or-parts (is_own_record own (item ts (1 + k))) (is_own_record own (item us (1 + k))) none in
          inr (
            strange d.one.details L k t x t-is x-is (ap (is_own_record own) (sym (by-number ts k ∙ t-is)) ∙ parts.0),
            strange d.other.details (ledger_named n L) k u y u-is y-is (ap (is_own_record own) (sym (by-number us k ∙ u-is)) ∙ parts.1),
          )
    ]

    alike : AreAlike own f g f-keeps g-keeps 1 ts rs us ss
    alike =
        let bodies : length us ≡ length ts =
        sym (length-map us (λ (u : Transmission). u.body)) ∙ ap length d.differ.records_are
        ∙ length-map ts (λ (t : Transmission). body_named n t.body) in
        lines-alike own f g f-keeps g-keeps 1 ts rs us ss (one_each lot d.plan 1 ts L) bodies
        (one_each lot d.plan 1 us (ledger_named n L) ∙ bodies) each

    -- ---- the lines that are kept, and the account

    lines-are : r.lines.items ≡ map (with_reversed r.batch) (lines_of r.batch.asked.items r.batch.replies.items)
        → s.lines.items ≡ map (with_reversed s.batch) (lines_of s.batch.asked.items s.batch.replies.items)
        → filter (is_line_of own) r.lines.items ≡ filter (is_line_of own) s.lines.items
    lines-are one other =
        ap (filter (is_line_of own)) (one ∙ (λ i. map f (lines_of (r-is.asked_are i) (r-is.replies_are i)))) ∙ alike.0
        ∙ sym (ap (filter (is_line_of own)) (other ∙ (λ i. map g (lines_of (s-is.asked_are i) (s-is.replies_are i)))))

    any-same : list_any (is_to own) r.batch.replies.items ≡ list_any (is_to own) s.batch.replies.items
    any-same = ap (list_any (is_to own)) r-is.replies_are ∙ alike.1 ∙ sym (ap (list_any (is_to own)) s-is.replies_are)

-- ---- a pharmacy's portion

module _ (own : List ℕ) where
  own-kept : (p : Portion) → IsPortionOf own p → (ls : List Line) → filter (is_in p) ls ≡ filter (is_line_of own) ls
  own-kept portion.Whole is ls = absurd is
  own-kept (portion.Provider id) is ls = ap (λ o. filter (is_line_of o) ls) is
  own-kept (portion.Family id) is ls = absurd is

  own-account : (p : Portion) → IsPortionOf own p → (t : Settled) (kept : List Line) (groups : List (List ℕ × List Line))
      (sections : List Part) (total : Tally) → IsAccount p t kept groups sections total
      → sections ≡ map (with_lines groups) (filter (is_of own) t.providers.entries)
  own-account portion.Whole is t kept groups sections total account = absurd is
  own-account (portion.Provider id) is t kept groups sections total account =
      account.0 ∙ ap (λ o. map (with_lines groups) (filter (is_of o) t.providers.entries)) is
  own-account (portion.Family id) is t kept groups sections total account = absurd is

  own-scope : (p : Portion) → IsPortionOf own p
      → (scope_text p ≡ codes "all of provider " ++ escaped Terminal own)
      × (portion_json p ≡ codes "\"only_provider\":" ++ (quoted own ++ codes ","))
  own-scope portion.Whole is = absurd is
  own-scope (portion.Provider id) is =
      (ap (λ o. codes "all of provider " ++ escaped Terminal o) is, ap (λ o. codes "\"only_provider\":" ++ (quoted o ++ codes ",")) is)
  own-scope (portion.Family id) is = absurd is

  parts-of-form : (p : Portion) → IsPortionOf own p → (f : Form) (tiers : SheetTable) (r : Report) (text : List ℕ)
      → r.settled.providers.entries ≡ tallies_of r.batch.replies.items → (x : IsInForm p f tiers r text)
      → map parts_of x.account.sections.items ≡ own-parts own (list_any (is_to own) r.batch.replies.items) (kept_of p r)
  parts-of-form p is f tiers r text tallies x =
      parts-are own r.batch.replies.items (kept_of p r) (map parts_of x.account.sections.items) x.account.total
      (own-account p is r.settled (kept_of p r) (grouped (kept_of p r)) (map parts_of x.account.sections.items) x.account.total x.account_is
      ∙ ap (λ es. map (with_lines (grouped (kept_of p r))) (filter (is_of own) es)) tallies) x.adds_up

-- ---- the text

module _ (p q : Portion) (scopes : scope_text p ≡ scope_text q) (portions : portion_json p ≡ portion_json q) (r s : Report)
    (lots : r.batch.lot ≡ s.batch.lot) (stamps : r.stamp ≡ s.stamp) (ks ls : List Line) (kept : ks ≡ ls) (a b : Account)
    (parts : map parts_of a.sections.items ≡ map parts_of b.sections.items) (totals : a.total ≡ b.total) (tiers : SheetTable) where
  form-same : (f : Form) → IsNoPage f → (x y : List ℕ) → IsText p f tiers r ks a x → IsText q f tiers s ls b y → x ≡ y
  form-same form.Columns paged x y is was =
      is ∙ ap (λ stamp. columns_text stamp p a) stamps ∙ columns-same s.stamp p q a b scopes parts totals ∙ sym was
  form-same form.Tsv paged x y is was = is ∙ (λ i. tsv_text (lots i) (stamps i) (kept i)) ∙ sym was
  form-same form.Json paged x y is was =
      is ∙ (λ i. account_json (lots i) (stamps i) p a) ∙ json-same s.batch.lot s.stamp p q a b portions parts totals ∙ sym was
  form-same form.Jsonl paged x y is was = is ∙ (λ i. claims_json (lots i) (stamps i) (kept i)) ∙ sym was
  form-same (form.Html origin) paged x y is was = absurd paged

pub one-report : (own sheet books batch other_books other_batch : List ℕ) → ¬ (own ≡ [])
    → DifferElsewhere own sheet books batch other_books other_batch → (stamp : Option Stamp) (f : Form) → IsNoPage f
    → (p q : Portion) → IsPortionOf own p → IsPortionOf own q → (one other : PrintedReport)
    → IsReportText sheet books batch stamp p f one → IsReportText sheet other_books other_batch stamp q f other
    → IsSameReport one other
one-report own sheet books batch other_books other_batch some d stamp f paged p q p-is q-is one other first second =
    let r : Report = first.report in
    let s : Report = second.report in
    let r-is = report-of sheet books batch d.plan r d.one first.reported in
    let s-is = is-other own sheet books batch other_books other_batch d some s second.reported in
    let kept : kept_of p r ≡ kept_of q s =
    own-kept own p p-is r.lines.items
    ∙ lines-are own sheet books batch other_books other_batch d some r s r-is s-is first.reported.contents.lines_are
    second.reported.contents.lines_are
    ∙ sym (own-kept own q q-is s.lines.items) in
    let any = any-same own sheet books batch other_books other_batch d some r s r-is s-is in
    let x = first.is_printed.in_form in
    let y = second.is_printed.in_form in
    let parts : map parts_of x.account.sections.items ≡ map parts_of y.account.sections.items =
    parts-of-form own p p-is f (table_of_text sheet) r one.text.items first.reported.contents.providers_are x
    ∙ (λ i. own-parts own (any i) (kept i))
    ∙ sym (parts-of-form own q q-is f (table_of_text sheet) s other.text.items second.reported.contents.providers_are y) in
    let totals : x.account.total ≡ y.account.total =
    x.adds_up.total_is ∙ ap (λ ls. tally (map answer_of ls)) kept ∙ sym y.adds_up.total_is in
    let scopes = own-scope own p p-is in
    let others = own-scope own q q-is in
    record {
      text_is =
          form-same p q (scopes.0 ∙ sym others.0) (scopes.1 ∙ sym others.1) r s (r-is.lot_is ∙ sym s-is.lot_is)
          (first.stamp_is ∙ sym second.stamp_is) (kept_of p r) (kept_of q s) kept x.account y.account parts totals (table_of_text sheet) f
          paged one.text.items other.text.items x.text_is y.text_is;
      lines_are =
          first.is_printed.lines_are ∙ ap (λ ls. not (length ls == 0)) kept ∙ sym second.is_printed.lines_are;
    }
