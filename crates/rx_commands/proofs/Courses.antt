-- A batch of which one more record is done.
use Rattle.std.proofs.Common.{◌≡◌, ℕ, ◌+◌, ◌<◌, ◌++◌, [], ◌∷◌, List, get_or, length, take, sym, ap, subst, ◌∙◌, arith}
use Rattle.std.proofs.lemmas.Option.{same_Some}
use Rattle.rx_d0_values.specs.declared.reply.Reply.{Reply}
use Rattle.rx_d0_values.specs.declared.transmission.Transmission.{Transmission}
use Rattle.rx_serial.specs.Underway.{scope_of}
use Rattle.rx_ledger.specs.Basis.{HoldsRecord, Scope}
use Rattle.rx_ledger.specs.Fold.{fold_ledger, fold_replies, ledger_after, reply_to}
use Rattle.rx_ledger.specs.Ledger.{Ledger}
use Rattle.rx_commands.specs.Courses.{IsCourse}
use Rattle.rx_commands.specs.declared.replay.batch.Batch.{Batch}
use Rattle.rx_commands.specs.declared.replay.course.Course.{Course}
use Rattle.rx_commands.proofs.Folded.{ledger_more, replies_more}

pub course_more : (b : Batch) (c d : Course) (t : Transmission) → IsCourse b c → c.done < length b.asked.now
    → t ≡ get_or b.asked.now c.done t → d.done ≡ c.done + 1
    → d.order.books.ledger ≡ ledger_after b.lot b.sheet.now (c.done + 1) t c.order.books.ledger
    → d.replies.items ≡ c.replies.items ++ reply_to b.lot b.sheet.now (c.done + 1) t c.order.books.ledger ∷ []
    → scope_of d.order ≡ scope_of c.order → IsCourse b d
course_more b c d t is within here done after replied scope =
    let lot = b.lot in
    let plan = b.sheet.now in
    let asked = b.asked.now in
    let opening = b.opening.now.ledger in
    record {
      few = is.few;
      within = omega (arith, done);
      period = same_Some _ _ (ap (λ (s : Scope). s.period) scope) ∙ is.period;
      awaited = λ i e inside L.
          subst (λ (s : Scope). HoldsRecord s L (get_or asked i e).body) (sym scope) (is.awaited i e inside L);
      ledger = after ∙ ap (ledger_after lot plan (c.done + 1) t) is.ledger
          ∙ sym (ledger_more lot plan asked c.done t within here opening)
          ∙ ap (λ (n : ℕ). fold_ledger lot plan 1 (take n asked) opening) (sym done);
      replies = replied
          ∙ ap (λ (rs : List Reply). rs ++ reply_to lot plan (c.done + 1) t c.order.books.ledger ∷ []) is.replies
          ∙ ap (λ (L : Ledger). fold_replies lot plan 1 (take c.done asked) opening ++ reply_to lot plan (c.done + 1) t L ∷ [])
          is.ledger
          ∙ sym (replies_more lot plan asked c.done t within here opening)
          ∙ ap (λ (n : ℕ). fold_replies lot plan 1 (take n asked) opening) (sym done);
    }
