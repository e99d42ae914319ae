-- Two jobs that differ only in names of other pharmacies' claims give a pharmacy one text.
use Rattle.std.specs.Prelude.{if◌then◌else◌}
use Rattle.std.proofs.Common.{◌≡◌, ℕ, List, Bool, true, false, Option, Some, None, refl, sym, ap, subst, ◌∙◌}
use Rattle.rx_batch.specs.declared.batch.Batch.{Batch}
use Rattle.rx_batch.specs.declared.detail.Detail.{Detail}
use Rattle.rx_batch.specs.declared.head.Kind.TheVariants.{Response}
use Rattle.rx_commands.specs.Elsewhere.{DifferElsewhere, IsSamePrinted, Job, asked_of}
use Rattle.rx_commands.specs.Explaining.{IsFileOf, IsPrinted, is_any_other, is_found, outcome_by, place_asked, shown_text}
use Rattle.rx_commands.specs.ForProvider.{IsWorded, PrintsFor, own_asked, text_by}
use Rattle.rx_commands.specs.Retraced.{AreExplained, IsRetraced}
use Rattle.rx_commands.specs.Tiers.{SheetTable, table_of, table_of_text}
use Rattle.rx_commands.specs.declared.manner.Manner.{Manner}
use Rattle.rx_commands.specs.declared.printed.Printed.{Printed}
use Rattle.rx_commands.specs.declared.retraced.Retraced.{Retraced}
use Rattle.rx_commands.proofs.Beside.{AreBeside}
use Rattle.rx_commands.proofs.Elsewhere.{all-same}
use Rattle.rx_commands.proofs.OneReading.{batch-of, books-same, files-same, good-same}
use Rattle.rx_d0_request.specs.Request.{transmission_of}
use Rattle.rx_d0_values.specs.declared.reply.Reply.{Reply}
use Rattle.rx_d0_values.specs.declared.transmission.Transmission.{Transmission}
use Rattle.rx_explain.specs.Names.{Names, ledger_named}
use Rattle.rx_explain.specs.declared.explanation.Explanation.{Explanation}
use Rattle.rx_explain.specs.declared.finding.Query.{Query}
use Rattle.rx_explain.proofs.NamesFolded.{InOrder}
use Rattle.rx_explain_text.specs.Absent.{absent_for}
use Rattle.rx_fields.specs.Numbered.{LotParts}
use Rattle.rx_ledger.specs.Fold.{fold_replies}
use Rattle.rx_ledger.specs.Ledger.{Ledger}
use Rattle.rx_ledger.specs.Plan.{Plan}
use Rattle.rx_show.specs.ResponseFile.{as_batch}

-- ---- a response file

responses-same : (response : Option (List ℕ)) (one other : Option Batch) → IsFileOf response one → IsFileOf response other
    → one ≡ other
responses-same None one other is was = is ∙ sym was
responses-same (Some bytes) one other (read, said, is) (again, too, was) =
    let same : batch-of said.asked read.details ≡ batch-of too.asked again.details =
    files-same (as_batch bytes) said.asked too.asked read.details again.details said.file too.file in
    let heads : read.head ≡ again.head =
    said.head_is ∙ ap (λ (b : Batch). record b.head { kind = Response }) same ∙ sym too.head_is in
    let batches : read ≡ again = λ i. record { head = heads i; details = (same i).details } in
    is ∙ ap Some batches ∙ sym was

-- ---- a batch that was replayed, of a job

record IsReplayed (plan : Plan) (opening : Ledger) (lot : LotParts) (details : List Detail) (tiers : SheetTable) (w : Query)
    (r : Retraced) : Type 0 where
  lot_is : r.lot ≡ lot
  figures_are : r.figures ≡ plan.figures
  tiers_are : table_of r.tiers ≡ tiers
  details_are : r.details ≡ details
  asked_are : r.asked.items ≡ asked_of plan details
  replies_are : r.replies.items ≡ fold_replies lot plan 1 (asked_of plan details) opening
  explanations_are : AreExplained lot plan (asked_of plan details) opening w
      (fold_replies lot plan 1 (asked_of plan details) opening) r.explanations.items

-- by what a batch is explained
record Basis : Type 0 where
  lot : LotParts
  plan : Plan
  asked : List Transmission
  opening : Ledger
  replies : List Reply

abbrev Explains : Query → List (Option Explanation) → Basis → Type 0
Explains w xs b = AreExplained b.lot b.plan b.asked b.opening w b.replies xs

replayed : (sheet books batch : List ℕ) (plan : Plan) (w : Query) (r : Retraced) (job : Job sheet books batch plan)
    → IsRetraced sheet books batch w r → IsReplayed plan job.opening job.head.lot job.details (table_of_text sheet) w r
replayed sheet books batch plan w r job is =
    let plans : is.plan ≡ plan = good-same _ _ is.plan plan is.sheet_is job.sheet_is refl in
    let ledgers : is.opening ≡ job.opening =
    books-same books is.period job.period is.opening job.opening is.books_are job.books_are in
    let batches : batch-of is.head r.details ≡ batch-of job.head job.details =
    files-same batch is.head job.head r.details job.details is.batch_is job.batch_is in
    let asked : r.asked.items ≡ asked_of plan job.details =
    is.asked_are ∙ (λ i. asked_of (plans i) (batches i).details) in
    let replies : r.replies.items ≡ fold_replies job.head.lot plan 1 (asked_of plan job.details) job.opening =
    is.replies_are ∙ (λ i. fold_replies (batches i).head.lot (plans i) 1 (asked i) (ledgers i)) in
    let from : Basis =
    record { lot = is.head.lot; plan = is.plan; asked = r.asked.items; opening = is.opening; replies = r.replies.items } in
    let to : Basis =
    record {
      lot = job.head.lot;
      plan = plan;
      asked = asked_of plan job.details;
      opening = job.opening;
      replies = fold_replies job.head.lot plan 1 (asked_of plan job.details) job.opening;
    } in
    let bases : from ≡ to =
    λ i. record {
      lot = (batches i).head.lot;
      plan = plans i;
      asked = asked i;
      opening = ledgers i;
      replies = replies i;
    } in
    record {
      lot_is = is.lot_is ∙ ap (λ (b : Batch). b.head.lot) batches;
      figures_are = is.figures_are ∙ ap (λ (p : Plan). p.figures) plans;
      tiers_are = is.tiers_are;
      details_are = ap (λ (b : Batch). b.details) batches;
      asked_are = asked;
      replies_are = replies;
      explanations_are = subst (Explains w r.explanations.items) bases is.explanations_are;
    }

-- ---- the text

-- where nothing is found a line that names the pharmacy
texts-by : (found differs : Bool) (w : Query) (own shown absent : List ℕ)
    → text_by (outcome_by found differs) w own (if found then shown else absent) ≡ (if found then shown else absent_for w own)
texts-by true true w own shown absent = refl
texts-by true false w own shown absent = refl
texts-by false differs w own shown absent = refl

printed-text : (own : List ℕ) (w : Query) (m : Manner) (r : Retraced) (file : Option Batch) (whole p : Printed)
    → IsPrinted m r w file whole → IsWorded own w whole p
    → p.text.items ≡ (if is_found r w then shown_text m r w file else absent_for w own)
printed-text own w m r file whole p printed worded =
    worded.text_is ∙ (λ i. text_by (printed.outcome_is i) w own (printed.text_is i))
    ∙ texts-by (is_found r w) (is_any_other r w file) w own (shown_text m r w file) _

-- ---- two jobs

module _ (own sheet books batch other_books other_batch : List ℕ)
    (d : DifferElsewhere own sheet books batch other_books other_batch) (w : Query) (response : Option (List ℕ)) (m : Manner)
    (p q : Printed) (one : PrintsFor sheet books batch own w response m p)
    (other : PrintsFor sheet other_books other_batch own w response m q) where
  abbrev tiers : SheetTable
  tiers = table_of_text sheet

  abbrev n : Names
  n = d.differ.names

  abbrev asks : Detail → Transmission
  asks detail = transmission_of d.plan.figures.door detail.text

  is-one : IsReplayed d.plan d.one.opening d.one.head.lot d.one.details tiers w one.retraced
  is-one = replayed sheet books batch d.plan w one.retraced d.one one.retraced_is

  is-other : IsReplayed d.plan (ledger_named n d.one.opening) d.one.head.lot d.other.details tiers w other.retraced
  is-other =
      subst (λ (K : Ledger). IsReplayed d.plan K d.one.head.lot d.other.details tiers w other.retraced) d.differ.books_are
      (subst (λ (l : LotParts). IsReplayed d.plan d.other.opening l d.other.details tiers w other.retraced) d.same_lot
      (replayed sheet other_books other_batch d.plan w other.retraced d.other other.retraced_is))

  in-order : InOrder n d.one.opening
  in-order =
      record {
        members_rise = d.one.books_are.printed.ledger.members_rise;
        rows_rise = d.one.books_are.printed.ledger.rows_rise;
        agreed = d.differ.claims_agree;
      }

  abbrev r : Retraced
  r = one.printed.seen

  abbrev s : Retraced
  s = other.printed.seen

  beside : AreBeside r s
  beside =
      record {
        lot_is = one.printed.seen_is.lot_is ∙ is-one.lot_is ∙ sym is-other.lot_is ∙ sym other.printed.seen_is.lot_is;
        figures_are =
            one.printed.seen_is.figures_are ∙ is-one.figures_are ∙ sym is-other.figures_are ∙ sym other.printed.seen_is.figures_are;
        tiers_are =
            ap table_of one.printed.seen_is.tiers_are ∙ is-one.tiers_are ∙ sym is-other.tiers_are
            ∙ sym (ap table_of other.printed.seen_is.tiers_are);
      }

  abbrev file : Option Batch
  file = one.printed.printed.file

  same : (shown_text m r w file ≡ shown_text m s w file) × (is_any_other r w file ≡ is_any_other s w file)
      × (is_found r w ≡ is_found s w)
  same =
      all-same asks own d.plan d.one.details d.other.details d.one.opening n d.differ.are_names d.differ.records_are
      d.differ.claims_agree d.differ.records_agree d.own_name d.differ.own_claims d.differ.own_records d.own_records in-order
      d.one.head.lot w r s beside
      (one.printed.seen_is.details_are ∙ is-one.details_are) (other.printed.seen_is.details_are ∙ is-other.details_are)
      (one.printed.seen_is.replies_are ∙ is-one.replies_are) (other.printed.seen_is.replies_are ∙ is-other.replies_are)
      (one.printed.seen_is.asked_are ∙ ap (own_asked own (place_asked w)) is-one.asked_are)
      (other.printed.seen_is.asked_are ∙ ap (own_asked own (place_asked w)) is-other.asked_are)
      one.retraced.explanations.items other.retraced.explanations.items is-one.explanations_are is-other.explanations_are
      one.printed.seen_is.explanations_are other.printed.seen_is.explanations_are m file

  files : file ≡ other.printed.printed.file
  files = responses-same response file other.printed.printed.file one.printed.printed.file_is other.printed.printed.file_is

  pub one-text : IsSamePrinted p q
  one-text =
      record {
        text_is =
            printed-text own w m r file one.printed.whole p one.printed.printed.printed one.printed.worded
            ∙ (λ i. if same.2 i then same.0 i else absent_for w own)
            ∙ ap (λ f. if is_found s w then shown_text m s w f else absent_for w own) files
            ∙ sym (printed-text own w m s other.printed.printed.file other.printed.whole q other.printed.printed.printed
            other.printed.worded);
        outcome_is =
            one.printed.worded.outcome_is ∙ one.printed.printed.printed.outcome_is
            ∙ (λ i. outcome_by (same.2 i) (same.1 i))
            ∙ ap (λ f. outcome_by (is_found s w) (is_any_other s w f)) files
            ∙ sym (other.printed.worded.outcome_is ∙ other.printed.printed.printed.outcome_is);
      }
