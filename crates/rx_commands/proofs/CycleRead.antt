-- One more response file of a pay cycle is read, or refused; one more detail holds a reply, or none.
use Rattle.std.proofs.Common.{◌≡◌, ◌<◌, ◌≤◌, ℕ, ◌+◌, List, [], ◌∷◌, ◌++◌, get_or, length, map, take, drop, refl, sym, ap, ◌∙◌, subst}
use Rattle.std.proofs.Common.{append_assoc, arith}
use Rattle.std.specs.List.{AllZip}
use Rattle.std.specs.Vec.{vec_items}
use Rattle.std.specs.declared.vec.Vec.{Vec}
use Rattle.std.proofs.lemmas.Grind.{flat_map-append}
use Rattle.std.proofs.lemmas.List.{append-nil, drop_more, length-map, length-take-le, map-append, take-append-drop, take_all, take_more}
use Rattle.std.proofs.lemmas.Slice.Zip.{all_zipped_more}
use Rattle.rx_batch.specs.declared.detail.Detail.{Detail}
use Rattle.rx_batch.specs.declared.fault.BatchFault.{BatchFault}
use Rattle.rx_batch.specs.declared.fault.BatchFault.TheVariants as batch
use Rattle.rx_batch.specs.declared.head.Head.{Head}
use Rattle.rx_batch.specs.Fault.{UnlessMemory}
use Rattle.rx_batch.specs.Reading.{HasFault}
use Rattle.rx_d0_values.specs.declared.reply.Reply.{Reply}
use Rattle.rx_settle.specs.declared.batch_run.BatchRun.{BatchRun}
use Rattle.rx_show.specs.Found.{IsTextOf}
use Rattle.rx_show.specs.ResponseFile.{IsResponse, as_batch}
use Rattle.rx_commands.specs.declared.cycle.fault.CycleFault.{CycleFault}
use Rattle.rx_commands.specs.declared.cycle.fault.CycleFault.TheVariants as fault
use Rattle.rx_commands.specs.Cycle.{Answered, IsAnswered, IsBadFile, IsNotSettled, replies_in, run_of}
use Rattle.rx_commands.specs.Cycle.IsNotSettled.{bad}
use Rattle.rx_commands.specs.CycleSteps.{AreAnswers, AreAppended, IsAppended, IsBadDetail, IsNoText, IsNotRead, of_response}

-- ---- lists

-- a list is what stands before a place, what stands there, and the rest
cut_at : {X : Type 0} (xs : List X) (i : ℕ) (x : X) → i < length xs → x ≡ get_or xs i x
    → xs ≡ take i xs ++ x ∷ drop (i + 1) xs
cut_at xs i x lt is =
    sym (take-append-drop i xs) ∙ ap (λ ys. take i xs ++ ys) (drop_more xs i x lt ∙ ap (λ y. y ∷ drop (i + 1) xs) (sym is))

one_more : {X : Type 0} (xs : List X) (i : ℕ) (x : X) → i < length xs → x ≡ get_or xs i x
    → take (i + 1) xs ≡ take i xs ++ x ∷ []
one_more xs i x lt is = take_more xs i x lt ∙ ap (λ z. take i xs ++ z ∷ []) (sym is)

-- ---- details

pub detail_more : (details : List Detail) (i : ℕ) (d : Detail) (old new : List Reply) (r : Reply) → i < length details
    → d ≡ get_or details i d → AreAppended (take i details) old new → IsTextOf d.text r
    → AreAppended (take (i + 1) details) old (new ++ r ∷ [])
detail_more details i d old new r lt is so here = record {
  more = so.more ++ r ∷ [];
  texts = subst (λ ds. AllZip (λ (x : Detail) (y : Reply). IsTextOf x.text y) ds (so.more ++ r ∷ []))
      (sym (one_more details i d lt is))
      (all_zipped_more (λ (x : Detail) (y : Reply). IsTextOf x.text y) (take i details) so.more d r so.texts here);
  joined = ap (λ rs. rs ++ r ∷ []) so.joined ∙ append_assoc old so.more (r ∷ []);
}

pub bad_detail : (at : ℕ) (details : List Detail) (i : ℕ) (d : Detail) (old new : List Reply) (f : CycleFault)
    → i < length details → d ≡ get_or details i d → AreAppended (take i details) old new → IsNoText at (i + 1) d.text f
    → IsBadDetail at details f
bad_detail at details i d old new (fault.NoResponse file g) lt is so fails = fails
bad_detail at details i d old new (fault.NoReply file place g) lt is so fails = (
  fails.0,
  record {
    whole = take i details;
    detail = d;
    rest = drop (i + 1) details;
    replies = so.more;
    cut = cut_at details i d lt is;
    texts = so.texts;
    place_is = fails.1 ∙ ap (λ n. n + 1) (sym (length-take-le i details (omega arith)));
    unreadable = fails.2;
  },
)
bad_detail at details i d old new fault.Memory lt is so fails = tt

-- ---- a file

pub appended : (bytes : List ℕ) (head : Head) (details : List Detail) (runs new_runs : List BatchRun)
    (replies new_replies : List Reply) → IsResponse bytes head details → new_runs ≡ runs ++ run_of head ∷ []
    → AreAppended details replies new_replies → IsAppended bytes runs replies new_runs new_replies
appended bytes head details runs new_runs replies new_replies is joined more = record {
  batch = record { head = head; replies = more.more };
  answered = record { details = details; file = is; texts = more.texts };
  runs_joined = joined;
  replies_joined = more.joined;
}

-- what the reader of response files refuses
pub not_response : (at : ℕ) (bytes : List ℕ) (f : BatchFault) → UnlessMemory f (HasFault (as_batch bytes) f)
    → IsNotRead at bytes (of_response at f)
not_response at bytes (batch.Outside p) is = (refl, is)
not_response at bytes (batch.NoHeader p) is = (refl, is)
not_response at bytes (batch.HeaderShape p) is = (refl, is)
not_response at bytes (batch.Unclosed p) is = (refl, is)
not_response at bytes (batch.RecordKind p) is = (refl, is)
not_response at bytes (batch.DetailShape p) is = (refl, is)
not_response at bytes (batch.TrailerShape p) is = (refl, is)
not_response at bytes (batch.NoTrailer p) is = (refl, is)
not_response at bytes (batch.NumberDiffers p) is = (refl, is)
not_response at bytes (batch.CountDiffers p) is = (refl, is)
not_response at bytes (batch.AfterTrailer p) is = (refl, is)
not_response at bytes (batch.TooMuch p) is = (refl, is)
not_response at bytes batch.Memory is = tt

-- ---- files

module _ {Z : Type 0} (files : List (Vec ℕ Z)) (i : ℕ) (file : Vec ℕ Z) (runs : List BatchRun) (replies : List Reply) where
  pub file_more : (new_runs : List BatchRun) (new_replies : List Reply) → i < length files → file ≡ get_or files i file
      → AreAnswers (map vec_items (take i files)) runs replies → IsAppended file.items runs replies new_runs new_replies
      → AreAnswers (map vec_items (take (i + 1) files)) new_runs new_replies
  file_more new_runs new_replies lt is so here =
      let more : map vec_items (take (i + 1) files) ≡ map vec_items (take i files) ++ file.items ∷ [] =
      ap (map vec_items) (one_more files i file lt is) ∙ map-append vec_items (take i files) (file ∷ []) in
      record {
        batches = so.batches ++ here.batch ∷ [];
        each = subst (λ bs. AllZip IsAnswered bs (so.batches ++ here.batch ∷ [])) (sym more)
            (all_zipped_more IsAnswered (map vec_items (take i files)) so.batches file.items here.batch so.each here.answered);
        runs_are = here.runs_joined ∙ ap (λ rs. rs ++ run_of here.batch.head ∷ []) so.runs_are
            ∙ sym (map-append (λ (b : Answered). run_of b.head) so.batches (here.batch ∷ []));
        replies_are = here.replies_joined ∙ ap (λ rs. rs ++ here.batch.replies) so.replies_are
            ∙ sym (flat_map-append (λ (b : Answered). b.replies) so.batches (here.batch ∷ [])
            ∙ ap (λ rs. replies_in so.batches ++ rs) (append-nil here.batch.replies));
      }

  pub bad_file : (f : CycleFault) → i < length files → file ≡ get_or files i file
      → AreAnswers (map vec_items (take i files)) runs replies → IsBadFile i file.items f
      → IsNotSettled (map vec_items files) f
  bad_file f lt is so fails =
      let front = map vec_items (take i files) in
      let cut : map vec_items files ≡ front ++ file.items ∷ map vec_items (drop (i + 1) files) =
      ap (map vec_items) (cut_at files i file lt is) ∙ map-append vec_items (take i files) (file ∷ drop (i + 1) files) in
      let long : length front ≡ i = length-map (take i files) vec_items ∙ length-take-le i files (omega arith) in
      bad front (map vec_items (drop (i + 1) files)) so.batches file.items f cut so.each
      (subst (λ (n : ℕ). IsBadFile n file.items f) (sym long) fails)

-- after the last of them
pub all_read : {Z : Type 0} (files : List (Vec ℕ Z)) (i : ℕ) (runs : List BatchRun) (replies : List Reply) → length files ≤ i
    → AreAnswers (map vec_items (take i files)) runs replies → AreAnswers (map vec_items files) runs replies
all_read files i runs replies le so =
    subst (λ fs. AreAnswers (map vec_items fs) runs replies) (take_all i files le) so
