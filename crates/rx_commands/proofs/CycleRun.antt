-- A batch file that is read holds no STX or ETX in its fields; so a run's response file comes to the run's settlement.
use Rattle.std.proofs.Common.{◌≡◌, ◌∙◌, ◌-◌, ◌==◌, ◌&&◌, ℕ, false, List, [], ◌∷◌, None, Some, Ok, codes, drop, length}
use Rattle.std.proofs.Common.{sym, ap, subst}
use Rattle.std.specs.Prelude.{slice_index, slice_range}
use Rattle.std.specs.List.{All, AllZip}
use Rattle.std.proofs.lemmas.List.{length-map}
use Rattle.std.proofs.lemmas.List.Elements.{All-nil, All-cons, All-take, All-drop}
use Rattle.rx_text.specs.Options.{◌>>=◌}
use Rattle.rx_text.proofs.Steps.{bind_some, guarded, some_same}
use Rattle.rx_fields.specs.Clock.{time_of}
use Rattle.rx_fields.specs.Numbered.{LotParts}
use Rattle.rx_fields.specs.TimeOfDay.{Clock}
use Rattle.rx_fields.specs.declared.stamp.Stamp.{Stamp}
use Rattle.rx_batch.specs.declared.detail.Detail.{Detail}
use Rattle.rx_batch.specs.declared.head.FileType.{FileType}
use Rattle.rx_batch.specs.declared.head.Head.{Head}
use Rattle.rx_batch.specs.declared.head.Kind.TheVariants.{Transmission as RequestKind}
use Rattle.rx_batch.specs.declared.layout.TheConstants.{BATCH_NUMBER_AT, CREATION_DATE_AT, CREATION_TIME_AT}
use Rattle.rx_batch.specs.Grammar.{IsDetail, IsFile, IsInside, IsSpaced, Spaced, is_mark}
use Rattle.rx_batch.specs.Header.{file_of, head_of, is_kind, lot_in}
use Rattle.rx_d0_values.specs.declared.reply.Reply.{Reply}
use Rattle.rx_d0_values.specs.declared.transmission.Transmission.{Transmission}
use Rattle.rx_ledger.specs.Fold.{fold_replies}
use Rattle.rx_ledger.specs.Ledger.{Ledger}
use Rattle.rx_ledger.specs.Plan.{Plan}
use Rattle.rx_response.specs.Response.{response_text}
use Rattle.rx_settle.specs.Settlement.{settlement_text}
use Rattle.rx_switch.specs.Output.{Accepted, Given, IsRefused, replies, stamp_for, texts_of}
use Rattle.rx_switch.specs.Output.IsRefused.{sheet as run_sheet, books as run_books, batch as run_batch, memory as run_memory}
use Rattle.rx_switch.specs.Planned.{IsNotPlanned}
use Rattle.rx_switch.specs.Planned.IsNotPlanned.{sheet as wrong_sheet, books as wrong_books, batch as wrong_batch, memory as no_memory}
use Rattle.rx_switch.specs.declared.fault.SwitchFault.{SwitchFault}
use Rattle.rx_wave.specs.Decoding.{transmissions_of}
use Rattle.rx_commands.proofs.Replied.{one_each}
use Rattle.rx_commands.specs.Cycle.{IsCycleText, IsSettlementOf}
use Rattle.rx_commands.specs.CycleSteps.{IsSent}

range_inside : (from to : ℕ) (body : List ℕ) → IsInside body → IsInside (slice_range body from to)
range_inside from to body inside =
    All-take (λ (b : ℕ). is_mark b ≡ false) (to - from) (drop from body)
    (All-drop (λ (b : ℕ). is_mark b ≡ false) from body inside)

-- the header of these fields
abbrev head_with : List ℕ → LotParts → Clock → FileType → Head
head_with body lot time file =
    record {
      kind = RequestKind;
      sender = slice_range body 3 27;
      lot = lot;
      time = time;
      file = file;
      receiver = slice_range body 49 73;
    }

-- the two fields of a header
head_inside : (body : List ℕ) (head : Head) → IsInside body → head_of body ≡ Some head
    → IsInside head.sender × IsInside head.receiver
head_inside body head inside is =
    let number = lot_in (slice_range body BATCH_NUMBER_AT CREATION_DATE_AT) (slice_range body CREATION_DATE_AT CREATION_TIME_AT) in
    let clock = time_of (slice_range body CREATION_TIME_AT 46) in
    let type = file_of (slice_index body 46) in
    let read = guarded (length body == 73 && slice_index body 2 == 84 && is_kind (codes "12") (slice_range body 47 49))
    (number >>= λ lot. clock >>= λ time. type >>= λ file. Some (head_with body lot time file)) head is in
    let lot = bind_some number (λ lot. clock >>= λ time. type >>= λ file. Some (head_with body lot time file)) head read.1 in
    let time = bind_some clock (λ time. type >>= λ file. Some (head_with body lot.0 time file)) head lot.2 in
    let file = bind_some type (λ file. Some (head_with body lot.0 time.0 file)) head time.2 in
    let made : head_with body lot.0 time.0 file.0 ≡ head = some_same {x = head_with body lot.0 time.0 file.0} {y = head} file.2 in (
      subst (λ (h : Head). IsInside h.sender) {x = head_with body lot.0 time.0 file.0} {y = head} made (range_inside 3 27 body inside),
      subst (λ (h : Head). IsInside h.receiver) {x = head_with body lot.0 time.0 file.0} {y = head} made (range_inside 49 73 body inside),
    )

references_inside : (rs : List Spaced) (ds : List Detail) → AllZip (λ r d. IsSpaced r × IsDetail r.body d) rs ds
    → All (λ d. IsInside d.reference) ds
references_inside [] [] all = All-nil (λ (d : Detail). IsInside d.reference)
references_inside [] (d ∷ ds) all = absurd all
references_inside (r ∷ rs) [] all = absurd all
references_inside (r ∷ rs) (d ∷ ds) all =
    All-cons (λ (x : Detail). IsInside x.reference) d ds
    (subst (λ (x : Detail). IsInside x.reference) (sym all.0.1.2) (range_inside 2 12 r.body all.0.0.1))
    (references_inside rs ds all.1)

pub is_sent : (bytes : List ℕ) (head : Head) (details : List Detail) → IsFile bytes head details → IsSent head details
is_sent bytes head details file =
    let ends = head_inside file.header.body head file.header_is.0.1 file.header_is.1.1 in
    record {
      sender = ends.0;
      receiver = ends.1;
      references = references_inside file.records details file.details_are;
    }

-- there are as many replies as details
pub as_many_replies : (lot : LotParts) (plan : Plan) (L : Ledger) (details : List Detail) (ts : List Transmission)
    (rs : List Reply) → ts ≡ transmissions_of plan.figures.door details → rs ≡ fold_replies lot plan 1 ts L
    → length details ≡ length rs
as_many_replies lot plan L details ts rs asked replied =
    sym (ap length replied ∙ one_each lot plan 1 ts L ∙ ap length asked
    ∙ length-map details _)

-- what is printed of the response file of a run
pub settlement_of_replies : (x : Accepted) (rs : List Reply) (text : List ℕ) → rs ≡ replies x
    → text ≡ settlement_text x.head.lot x.stamp rs
    → IsCycleText (response_text x.head x.stamp x.details rs ∷ []) None text → IsSettlementOf (texts_of x) text
settlement_of_replies x rs text are is printed = record {
  printed = subst (λ (rs : List Reply). IsCycleText (response_text x.head x.stamp x.details rs ∷ []) None text) are printed;
  same = is ∙ ap (settlement_text x.head.lot x.stamp) are;
}

-- what is refused once the stamp is read
pub refused_by : (g : Given) (s : Stamp) (f : SwitchFault) → stamp_for g.workers g.stamp ≡ Ok s
    → IsNotPlanned g.sheet g.books g.batch f → IsRefused g f
refused_by g s f is (wrong_sheet e wrong) = run_sheet s e is wrong
refused_by g s f is (wrong_books e plan sheet wrong) = run_books s plan e is sheet wrong
refused_by g s f is (wrong_batch e plan period opening sheet books wrong) =
    run_batch s plan period opening e is sheet books wrong
refused_by g s f is no_memory = run_memory s is
