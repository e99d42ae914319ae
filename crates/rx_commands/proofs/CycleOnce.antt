-- Files answer one list of batches, and are then not refused.
use Rattle.std.proofs.Common.{◌≡◌, ℕ, List, [], ◌∷◌, ◌++◌, Option, Some, length, refl, sym, ap, ◌∙◌, subst}
use Rattle.std.specs.List.{AllZip}
use Rattle.rx_batch.specs.declared.batch.Batch.{Batch}
use Rattle.rx_batch.specs.declared.detail.Detail.{Detail}
use Rattle.rx_batch.specs.declared.fault.BatchFault.{BatchFault}
use Rattle.rx_batch.specs.declared.head.Head.{Head}
use Rattle.rx_batch.specs.declared.head.Kind.TheVariants.{Response}
use Rattle.rx_batch.specs.Reading.{batch_of}
use Rattle.rx_batch.proofs.Readings.{batch_ok, failed, fault_is_read, file_is_read}
use Rattle.rx_d0_values.specs.declared.reply.Reply.{Reply}
use Rattle.rx_d0_reply.specs.Reading.{reply_in}
use Rattle.rx_d0_reply.proofs.ReplyLaws.{reply_again}
use Rattle.rx_settle.specs.declared.batch_run.BatchRun.{BatchRun}
use Rattle.rx_show.specs.Found.{IsTextOf}
use Rattle.rx_show.specs.ResponseFile.{IsResponse, as_batch}
use Rattle.rx_commands.specs.declared.cycle.fault.CycleFault.{CycleFault}
use Rattle.rx_commands.specs.declared.cycle.fault.CycleFault.TheVariants as fault
use Rattle.rx_commands.specs.Cycle.{AreTexts, Answered, IsAnswered, IsBadFile, IsCycleText, IsNotSettled}
use Rattle.rx_commands.specs.Cycle.{cycle_text, text_by}
use Rattle.rx_commands.specs.CycleSteps.{AreAnswers}
use Rattle.rx_commands.specs.Cycle.IsNotSettled.{bad, memory}

-- ---- one file

same_some : {X : Type 0} (x y : X) → Some x ≡ Some y → x ≡ y
same_some x y e = cc

same_ok : (x y : Batch) → batch_ok x ≡ batch_ok y → x ≡ y
same_ok x y e = cc

ok_is_no_fault : (x : Batch) (f : BatchFault) → batch_ok x ≡ failed f → ⊥
ok_is_no_fault x f e = absurd cc

reply_once : (text : List ℕ) (r s : Reply) → IsTextOf text r → IsTextOf text s → r ≡ s
reply_once text r s one other = same_some r s
    (sym (reply_again r one.0) ∙ ap reply_in (sym one.1 ∙ other.1) ∙ reply_again s other.0)

texts_once : (details : List Detail) (rs ss : List Reply) → AreTexts details rs → AreTexts details ss → rs ≡ ss
texts_once [] [] [] one other = refl
texts_once [] [] (s ∷ ss) one other = absurd other
texts_once [] (r ∷ rs) ss one other = absurd one
texts_once (d ∷ details) [] ss one other = absurd one
texts_once (d ∷ details) (r ∷ rs) [] one other = absurd other
texts_once (d ∷ details) (r ∷ rs) (s ∷ ss) one other =
    λ j. reply_once d.text r s one.0 other.0 j ∷ texts_once details rs ss one.1 other.1 j

-- the batch that a response file is with the type exchanged
read_as : (bytes : List ℕ) (head : Head) (details : List Detail) (is : IsResponse bytes head details)
    → batch_of (as_batch bytes) ≡ batch_ok (record { head = is.asked; details = details })
read_as bytes head details is = file_is_read (as_batch bytes) is.asked details is.file

response_once : (bytes : List ℕ) (h g : Head) (ds es : List Detail) → IsResponse bytes h ds → IsResponse bytes g es
    → (h ≡ g) × (ds ≡ es)
response_once bytes h g ds es one other =
    let same : record { head = one.asked; details = ds } ≡ record { head = other.asked; details = es } =
    same_ok (record { head = one.asked; details = ds }) (record { head = other.asked; details = es })
    (sym (read_as bytes h ds one) ∙ read_as bytes g es other) in (
      one.head_is ∙ ap (λ (b : Batch). record b.head { kind = Response }) same ∙ sym other.head_is,
      ap (λ (b : Batch). b.details) same,
    )

answered_once : (bytes : List ℕ) (a b : Answered) → IsAnswered bytes a → IsAnswered bytes b → a ≡ b
answered_once bytes a b one other =
    let same = response_once bytes a.head b.head one.details other.details one.file other.file in
    let replies : a.replies ≡ b.replies = texts_once one.details a.replies b.replies one.texts
    (subst (λ (ds : List Detail). AreTexts ds b.replies) (sym same.1) other.texts) in
    λ j. record { head = same.0 j; replies = replies j }

-- ---- all files

all_once : (files : List (List ℕ)) (xs ys : List Answered) → AllZip IsAnswered files xs → AllZip IsAnswered files ys → xs ≡ ys
all_once [] [] [] one other = refl
all_once [] [] (y ∷ ys) one other = absurd other
all_once [] (x ∷ xs) ys one other = absurd one
all_once (f ∷ files) [] ys one other = absurd one
all_once (f ∷ files) (x ∷ xs) [] one other = absurd other
all_once (f ∷ files) (x ∷ xs) (y ∷ ys) one other =
    λ j. answered_once f x y one.0 other.0 j ∷ all_once files xs ys one.1 other.1 j

-- what stands after the front of two lists
zipped_at : {A B : Type 0} (R : A → B → Type 0) (xs : List A) (x : A) (rest : List A) (ys : List B)
    → AllZip R (xs ++ x ∷ rest) ys → (y : B) × R x y
zipped_at R [] x rest [] are = absurd are
zipped_at R [] x rest (y ∷ ys) are = (y, are.0)
zipped_at R (z ∷ xs) x rest [] are = absurd are
zipped_at R (z ∷ xs) x rest (y ∷ ys) are = zipped_at R xs x rest ys are.1

-- a file that answers a batch is no bad one
good_file : (at : ℕ) (bytes : List ℕ) (a : Answered) (f : CycleFault) → IsAnswered bytes a → IsBadFile at bytes f
    → f ≡ fault.Memory
good_file at bytes a (fault.NoResponse file f) is wrong =
    absurd (ok_is_no_fault (record { head = is.file.asked; details = is.details }) f
    (sym (read_as bytes a.head is.details is.file) ∙ fault_is_read (as_batch bytes) f wrong.1))
good_file at bytes a (fault.NoReply file place f) is wrong =
    let held = wrong.1 in
    let same = response_once bytes a.head held.head is.details held.details is.file held.file in
    let texts : AreTexts (held.first.whole ++ held.first.detail ∷ held.first.rest) a.replies =
    subst (λ (ds : List Detail). AreTexts ds a.replies) (same.1 ∙ held.first.cut) is.texts in
    let reply = zipped_at (λ (d : Detail) (r : Reply). IsTextOf d.text r) held.first.whole held.first.detail held.first.rest
    a.replies texts in
    absurd (held.first.unreadable.0 reply.0 reply.1)
good_file at bytes a fault.Memory is wrong = refl

pub not_refused : (files : List (List ℕ)) (batches : List Answered) (f : CycleFault) → AllZip IsAnswered files batches
    → IsNotSettled files f → f ≡ fault.Memory
not_refused files batches f each (bad whole rest before bytes g cut are is) =
    let here = zipped_at IsAnswered whole bytes rest batches
    (subst (λ (fs : List (List ℕ)). AllZip IsAnswered fs batches) cut each) in
    good_file (length whole) bytes here.0 f here.1 is
not_refused files batches f each memory = refl

-- what is printed of files is what their batches come to
pub settled_once : (files : List (List ℕ)) (batches : List Answered) (only : Option (List ℕ)) (text : List ℕ)
    → AllZip IsAnswered files batches → IsCycleText files only text → text ≡ cycle_text only batches
settled_once files batches only text each is =
    is.text_is ∙ ap (cycle_text only) (all_once files is.batches batches is.each each)

-- what is printed of files that are read
pub is_cycle_text : (files : List (List ℕ)) (only : Option (List ℕ)) (runs : List BatchRun) (replies : List Reply)
    (text : List ℕ) → AreAnswers files runs replies → text ≡ text_by only runs replies → IsCycleText files only text
is_cycle_text files only runs replies text are is = record {
  batches = are.batches;
  each = are.each;
  text_is = is ∙ (λ j. text_by only (are.runs_are j) (are.replies_are j));
}
