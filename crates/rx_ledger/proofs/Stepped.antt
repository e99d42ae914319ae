-- One transaction of a record, and those after it.
use Rattle.std.proofs.Common.{◌≡◌, ℕ, ◌+◌, ◌<◌, ◌++◌, List, [], ◌∷◌, drop, get_or, length, add-one, append_assoc, sym, ap, ◌∙◌}
use Rattle.std.proofs.Common.{drop-cons}
use Rattle.rx_d0_values.specs.declared.reply.Answer.{Answer}
use Rattle.rx_d0_values.specs.declared.transaction.Transaction.{Transaction}
use Rattle.rx_d0_values.specs.declared.transmission.Heard.{Heard as HeardRecord}
use Rattle.rx_fields.specs.Numbered.{LotParts}
use Rattle.rx_ledger.specs.Answers.{after, answer}
use Rattle.rx_ledger.specs.Fold.{answers_from, asked, ledger_from}
use Rattle.rx_ledger.specs.Ledger.{Ledger}
use Rattle.rx_ledger.specs.Plan.{Plan}

module _ (lot : LotParts) (plan : Plan) (place : ℕ) (h : HeardRecord) (list : List Transaction) (at : ℕ) (t : Transaction)
    (now next : Ledger) (given : Answer) (within : at < length list) (is : t ≡ get_or list at t)
    (answered : given ≡ answer (asked lot plan place h (at + 1)) now t)
    (changed : next ≡ after (asked lot plan place h (at + 1)) now t given) where
  rest_is : drop at list ≡ t ∷ drop (at + 1) list
  rest_is = rw add-one (drop-cons list at t within) ∙ ap (λ u. u ∷ drop (at + 1) list) (sym is)

  next_is : next ≡ after (asked lot plan place h (at + 1)) now t (answer (asked lot plan place h (at + 1)) now t)
  next_is = changed ∙ ap (after (asked lot plan place h (at + 1)) now t) answered

  -- the answers from the next transaction on
  pub answers_next : (done : List Answer) → (done ++ given ∷ []) ++ answers_from lot plan place h (at + 1 + 1) (drop (at + 1) list) next
      ≡ done ++ answers_from lot plan place h (at + 1) (drop at list) now
  answers_next done =
      append_assoc done (given ∷ []) _
      ∙ ap (λ x. done ++ x)
      (ap (λ g. g ∷ answers_from lot plan place h (at + 1 + 1) (drop (at + 1) list) next) answered
      ∙ ap (λ L. answer (asked lot plan place h (at + 1)) now t ∷ answers_from lot plan place h (at + 1 + 1) (drop (at + 1) list) L) next_is
      ∙ ap (λ ts. answers_from lot plan place h (at + 1) ts now) (sym rest_is))

  -- the ledger after the transactions from the next one on
  pub ledger_next : ledger_from lot plan place h (at + 1 + 1) (drop (at + 1) list) next
      ≡ ledger_from lot plan place h (at + 1) (drop at list) now
  ledger_next =
      ap (ledger_from lot plan place h (at + 1 + 1) (drop (at + 1) list)) next_is
      ∙ ap (λ ts. ledger_from lot plan place h (at + 1) ts now) (sym rest_is)
