-- One record at a place of a shard, and those at the places after it.
use Rattle.std.proofs.Common.{◌≡◌, ℕ, ◌+◌, ◌<◌, ◌++◌, List, [], ◌∷◌, drop, drop-cons, get_or, length, add-one, append_assoc, sym, ap, refl, ◌∙◌}
use Rattle.rx_d0_values.specs.declared.reply.Reply.{Reply}
use Rattle.rx_d0_values.specs.declared.transmission.Transmission.{Transmission}
use Rattle.rx_fields.specs.Numbered.{LotParts}
use Rattle.rx_ledger.specs.Fold.{ledger_after, reply_to}
use Rattle.rx_ledger.specs.Ledger.{Ledger}
use Rattle.rx_ledger.specs.Plan.{Plan}
use Rattle.rx_ledger.proofs.NamedKeys.{members_stay}
use Rattle.rx_schedule.specs.Footprints.{record_at}
use Rattle.rx_schedule.specs.Shards.{ledger_of, replies_of}

module _ (lot : LotParts) (plan : Plan) (records : List Transmission) where
  module _ (places : List ℕ) (at place : ℕ) (t : Transmission) (now next : Ledger) (reply : Reply) (within : at < length places)
      (is : get_or places at 0 ≡ place) (there : record_at records place ≡ t) (replied : reply ≡ reply_to lot plan place t now)
      (changed : next ≡ ledger_after lot plan place t now) where
    rest_is : drop at places ≡ place ∷ drop (at + 1) places
    rest_is = rw add-one (drop-cons places at 0 within) ∙ ap (λ p. p ∷ drop (at + 1) places) is

    -- the replies from the next place on
    pub replies_next : (done : List Reply)
        → (done ++ reply ∷ []) ++ replies_of lot plan records (drop (at + 1) places) next
        ≡ done ++ replies_of lot plan records (drop at places) now
    replies_next done =
        append_assoc done (reply ∷ []) _
        ∙ ap (λ x. done ++ x)
        (ap (λ r. r ∷ replies_of lot plan records (drop (at + 1) places) next) (replied ∙ ap (λ u. reply_to lot plan place u now) (sym there))
        ∙ ap (λ L. reply_to lot plan place (record_at records place) now ∷ replies_of lot plan records (drop (at + 1) places) L)
        (changed ∙ ap (λ u. ledger_after lot plan place u now) (sym there))
        ∙ ap (λ ps. replies_of lot plan records ps now) (sym rest_is))

    -- the ledger after the places from the next one on
    pub ledger_next : ledger_of lot plan records (drop (at + 1) places) next ≡ ledger_of lot plan records (drop at places) now
    ledger_next =
        ap (ledger_of lot plan records (drop (at + 1) places)) (changed ∙ ap (λ u. ledger_after lot plan place u now) (sym there))
        ∙ ap (λ ps. ledger_of lot plan records ps now) (sym rest_is)

  -- adjudicating keeps all members
  pub members_kept : (places : List ℕ) (L : Ledger) → (ledger_of lot plan records places L).members ≡ L.members
  members_kept [] L = refl
  members_kept (i ∷ rest) L =
      members_kept rest (ledger_after lot plan i (record_at records i) L)
      ∙ members_stay lot plan i (record_at records i ∷ []) L
