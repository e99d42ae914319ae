-- One record of a batch, and those after it.
use Rattle.std.proofs.Common.{◌≡◌, ℕ, ◌+◌, ◌<◌, ◌++◌, List, [], ◌∷◌, drop, drop-cons, get_or, length, add-one, append_assoc, sym, ap, ◌∙◌}
use Rattle.rx_d0_values.specs.declared.reply.Reply.{Reply}
use Rattle.rx_d0_values.specs.declared.transmission.Transmission.{Transmission}
use Rattle.rx_fields.specs.Numbered.{LotParts}
use Rattle.rx_ledger.specs.Fold.{fold_ledger, fold_replies, ledger_after, reply_to}
use Rattle.rx_ledger.specs.Ledger.{Ledger}
use Rattle.rx_ledger.specs.Plan.{Plan}

module _ (lot : LotParts) (plan : Plan) (list : List Transmission) (at : ℕ) (t : Transmission) (now next : Ledger)
    (reply : Reply) (within : at < length list) (is : t ≡ get_or list at t) (replied : reply ≡ reply_to lot plan (at + 1) t now)
    (changed : next ≡ ledger_after lot plan (at + 1) t now) where
  rest_is : drop at list ≡ t ∷ drop (at + 1) list
  rest_is = rw add-one (drop-cons list at t within) ∙ ap (λ u. u ∷ drop (at + 1) list) (sym is)

  -- the replies from the next record on
  pub replies_next : (done : List Reply)
      → (done ++ reply ∷ []) ++ fold_replies lot plan (at + 1 + 1) (drop (at + 1) list) next
      ≡ done ++ fold_replies lot plan (at + 1) (drop at list) now
  replies_next done =
      append_assoc done (reply ∷ []) _
      ∙ ap (λ x. done ++ x)
      (ap (λ r. r ∷ fold_replies lot plan (at + 1 + 1) (drop (at + 1) list) next) replied
      ∙ ap (λ L. reply_to lot plan (at + 1) t now ∷ fold_replies lot plan (at + 1 + 1) (drop (at + 1) list) L) changed
      ∙ ap (λ ts. fold_replies lot plan (at + 1) ts now) (sym rest_is))

  -- the ledger after the records from the next one on
  pub ledger_next : fold_ledger lot plan (at + 1 + 1) (drop (at + 1) list) next
      ≡ fold_ledger lot plan (at + 1) (drop at list) now
  ledger_next =
      ap (fold_ledger lot plan (at + 1 + 1) (drop (at + 1) list)) changed
      ∙ ap (λ ts. fold_ledger lot plan (at + 1) ts now) (sym rest_is)
