-- Two reports of one batch are compared as a whole.
use Rattle.std.proofs.Common.{◌≡◌, ℕ, ◌-ℤ◌, List, length, map, refl, sym, ap, ◌∙◌, subst, inl, inr}
use Rattle.std.specs.List.{AllZip}
use Rattle.std.proofs.lemmas.Bool.{cases_Bool}
use Rattle.std.proofs.lemmas.List.{length-map}
use Rattle.rx_batch.specs.declared.batch.Batch.{Batch}
use Rattle.rx_batch.specs.declared.detail.Detail.{Detail}
use Rattle.rx_batch.specs.declared.head.Head.{Head}
use Rattle.rx_batch.specs.Grammar.{IsFile}
use Rattle.rx_batch.proofs.Readings.{batch_ok, file_is_read}
use Rattle.rx_d0_values.specs.declared.reply.Reply.{Reply}
use Rattle.rx_d0_reply.specs.Text.{reply_text}
use Rattle.rx_explain.specs.Spots.{item}
use Rattle.rx_ledger.specs.Fold.{fold_replies}
use Rattle.rx_report.specs.Lines.{answer_of, lines_of}
use Rattle.rx_report.proofs.Counted.{counted}
use Rattle.rx_settle.specs.Answers.{answers_of, is_approved}
use Rattle.rx_settle.specs.Settlement.{net}
use Rattle.rx_wave.specs.Decoding.{transmissions_of}
use Rattle.rx_commands.proofs.Counts.{Alike, all_alike}
use Rattle.rx_commands.proofs.Differences.{Keeps, aligned, entry_answers, exact, kept_answers, kept_ats, nets_apart, same_by_lines}
use Rattle.rx_commands.proofs.Replied.{one_each}
use Rattle.rx_commands.specs.Compare.{AreRead}
use Rattle.rx_commands.specs.Differing.{Entry, HasNoLine, IsWhole, change, differing, entries_by, entry_in}
use Rattle.rx_commands.specs.Lines.{at_of}
use Rattle.rx_commands.specs.Reported.{IsReported}
use Rattle.rx_commands.specs.Reversed.{with_reversed}
use Rattle.rx_commands.specs.declared.batch_report.Report.{Report}
use Rattle.rx_commands.specs.declared.replay.batch.Adjudicated.{Adjudicated}

-- a reversal's line with the member of its claim keeps place and answer
keeps_reversed : (b : Adjudicated) → Keeps (with_reversed b)
keeps_reversed b =
    record {
      at = λ l. elim (cases_Bool (is_approved l.answer)) [
        | inl here ↦ rw here refl
        | inr other ↦ rw other refl
      ];
      answer = λ l. elim (cases_Bool (is_approved l.answer)) [
        | inl here ↦ rw here refl
        | inr other ↦ rw other refl
      ];
    }

same_ok : (x y : Batch) → batch_ok x ≡ batch_ok y → x ≡ y
same_ok x y e = cc

-- what is reported was accepted
pub are_read : (sheet books batch : List ℕ) (r : Report) → IsReported sheet books batch r → AreRead sheet books batch
are_read sheet books batch r is = record {
  plan = r.batch.sheet;
  period = is.period;
  opening = r.batch.opening.ledger;
  head = is.head;
  details = r.batch.details;
  accepted = is.accepted;
  books_are = is.books_are;
}

-- a batch file has one list of details
details_once : (text : List ℕ) (h g : Head) (ds es : List Detail) → IsFile text h ds → IsFile text g es → ds ≡ es
details_once text h g ds es one other =
    ap (λ (b : Batch). b.details) (same_ok (record { head = h; details = ds }) (record { head = g; details = es })
    (sym (file_is_read text h ds one) ∙ file_is_read text g es other))

module _ (sheet books batch : List ℕ) (r : Report) (is : IsReported sheet books batch r) where
  pub replied : length r.batch.asked.items ≡ length r.batch.replies.items
  replied = sym (ap length is.replies_are
      ∙ one_each r.batch.lot r.batch.sheet 1 r.batch.asked.items r.batch.opening.ledger)

  pub answers_are : map answer_of r.lines.items ≡ answers_of r.batch.replies.items
  answers_are =
      ap (map answer_of) is.contents.lines_are
      ∙ kept_answers (with_reversed r.batch) (keeps_reversed r.batch) (lines_of r.batch.asked.items r.batch.replies.items)
      ∙ counted r.batch.asked.items r.batch.replies.items (lines_of r.batch.asked.items r.batch.replies.items) refl replied

  pub entries_so : map (λ (t : Entry). t.line.answer) (entries_by r) ≡ answers_of r.batch.replies.items
  entries_so = entry_answers r.batch.replies.items r.lines.items ∙ answers_are

  pub entries_each : length (entries_by r) ≡ length r.lines.items
  entries_each = length-map r.lines.items (entry_in r.batch.replies.items)

module _ (sheet books other_sheet other_books batch : List ℕ) (r s : Report) (one : IsReported sheet books batch r)
    (two : IsReported other_sheet other_books batch s) where
  details_same : r.batch.details ≡ s.batch.details
  details_same =
      details_once batch one.head two.head r.batch.details s.batch.details one.accepted.batch_is two.accepted.batch_is

  alike : AllZip Alike r.batch.replies.items s.batch.replies.items
  alike =
      let b = r.batch in
      let c = s.batch in
      let mine : List Reply =
      fold_replies b.lot b.sheet 1 (transmissions_of b.sheet.figures.door b.details) b.opening.ledger in
      let others : List Reply =
      fold_replies c.lot c.sheet 1 (transmissions_of c.sheet.figures.door b.details) c.opening.ledger in
      let is : b.replies.items ≡ mine =
      one.replies_are ∙ ap (λ ts. fold_replies b.lot b.sheet 1 ts b.opening.ledger) one.asked_are in
      let are : c.replies.items ≡ others =
      two.replies_are ∙ ap (λ ts. fold_replies c.lot c.sheet 1 ts c.opening.ledger)
      (two.asked_are ∙ ap (transmissions_of c.sheet.figures.door) (sym details_same)) in
      subst (λ (xs : List Reply). AllZip Alike xs c.replies.items) (sym is)
      (subst (λ (ys : List Reply). AllZip Alike mine ys) (sym are)
      (all_alike b.lot c.lot b.sheet c.sheet b.sheet.figures.door c.sheet.figures.door 1 b.details b.opening.ledger
      c.opening.ledger))

  aligned_so : map at_of r.lines.items ≡ map at_of s.lines.items
  aligned_so =
      ap (map at_of) one.contents.lines_are
      ∙ kept_ats (with_reversed r.batch) (keeps_reversed r.batch) (lines_of r.batch.asked.items r.batch.replies.items)
      ∙ aligned 1 r.batch.asked.items s.batch.asked.items r.batch.replies.items s.batch.replies.items
      (replied sheet books batch r one) (replied other_sheet other_books batch s two) alike
      ∙ sym (ap (map at_of) two.contents.lines_are
      ∙ kept_ats (with_reversed s.batch) (keeps_reversed s.batch) (lines_of s.batch.asked.items s.batch.replies.items))

  as_many : length (entries_by r) ≡ length (entries_by s)
  as_many =
      entries_each sheet books batch r one ∙ sym (length-map r.lines.items at_of) ∙ ap length aligned_so
      ∙ length-map s.lines.items at_of ∙ sym (entries_each other_sheet other_books batch s two)

  others_so : (place : ℕ) → HasNoLine place (differing r s)
      → item (map reply_text r.batch.replies.items) place ≡ item (map reply_text s.batch.replies.items) place
  others_so place none =
      same_by_lines (with_reversed r.batch) (with_reversed s.batch) (keeps_reversed r.batch) (keeps_reversed s.batch)
      r.batch.asked.items s.batch.asked.items r.batch.replies.items s.batch.replies.items
      (replied sheet books batch r one) (replied other_sheet other_books batch s two) alike r.lines.items s.lines.items
      one.contents.lines_are two.contents.lines_are place none

  nets_so : net s.settled.total -ℤ net r.settled.total ≡ change (differing r s)
  nets_so =
      nets_apart (entries_by r) (entries_by s) (answers_of r.batch.replies.items) (answers_of s.batch.replies.items)
      r.settled.total s.settled.total one.contents.total_is two.contents.total_is
      (entries_so sheet books batch r one) (entries_so other_sheet other_books batch s two) as_many

  pub whole : IsWhole r s (differing r s)
  whole = record {
    given_all = entries_so sheet books batch r one;
    changed_all = entries_so other_sheet other_books batch s two;
    aligned = aligned_so;
    exact = exact;
    others = others_so;
    nets = nets_so;
  }
