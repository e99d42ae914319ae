-- Every legal event list of a batch's records: what they find and leave, what is noted, and the end are the fold's.
use Rattle.std.proofs.Common.{◌≡◌, ℕ, suc, List, ◌∷◌, ◌++◌, true, Some, None, ap, ◌∙◌}
use Rattle.rx_fields.specs.Numbered.{LotParts}
use Rattle.rx_d0_values.specs.declared.transmission.Transmission.{Transmission}
use Rattle.rx_ledger.specs.Fold.{fold_ledger}
use Rattle.rx_ledger.specs.Ledger.{Ledger}
use Rattle.rx_ledger.specs.Plan.{Plan}
use Rattle.rx_books_family.specs.Books.{Book, IsInOrder, book}
use Rattle.rx_books_parcel.specs.Footprints.{names}
use Rattle.rx_schedule.specs.declared.event.Event.{Event}
use Rattle.rx_schedule.specs.declared.event.Event.TheVariants.{Give, Take}
use Rattle.rx_schedule.specs.Footprints.{footprint_at}
use Rattle.rx_schedule.specs.Jobs.{job, ledger_before, reply_at}
use Rattle.rx_schedule.specs.Machine.{IsComplete, IsLegal, IsPlace, Was, replay}
use Rattle.rx_schedule.proofs.Holder.{is_fold, ledger_end}
use Rattle.rx_schedule.proofs.Replayed.{core_books, core_finds, core_leaves, core_replies, core_unnoted, legal_before}

module _ (lot : LotParts) (plan : Plan) (L : Ledger) (records : List Transmission) (order : IsInOrder L) where
  pub ends : (past : List Event) → IsLegal (job lot plan L records) past → IsComplete (job lot plan L records) past
      → (b : Book) → (replay (job lot plan L records) past).books b ≡ book b (fold_ledger lot plan 1 records L)
  ends past legal whole b =
      core_books (job lot plan L records) (λ i b. book b (ledger_before lot plan L records i)) (reply_at lot plan L records)
      (is_fold lot plan L records order) past legal whole b
      ∙ ap (book b) (ledger_end lot plan L records)

  pub noted : (past : List Event) → IsLegal (job lot plan L records) past → (place : ℕ) → Was (Give place) past
      → (replay (job lot plan L records) past).replies place ≡ Some (reply_at lot plan L records place)
  noted past legal place given =
      core_replies (job lot plan L records) (λ i b. book b (ledger_before lot plan L records i)) (reply_at lot plan L records)
      (is_fold lot plan L records order) past legal place given

  pub replies : (past : List Event) → IsLegal (job lot plan L records) past → IsComplete (job lot plan L records) past
      → (place : ℕ) → IsPlace (job lot plan L records) place
      → (replay (job lot plan L records) past).replies place ≡ Some (reply_at lot plan L records place)
  replies past legal whole place at = noted past legal place (whole place at)

  pub prefixes : (later before : List Event) → IsLegal (job lot plan L records) (later ++ before)
      → (place : ℕ) → Was (Give place) before
      → (replay (job lot plan L records) before).replies place ≡ Some (reply_at lot plan L records place)
  prefixes later before legal place given = noted before (legal_before (job lot plan L records) later before legal) place given

  pub others : (past : List Event) → (place : ℕ) → (Was (Give place) past → ⊥)
      → (replay (job lot plan L records) past).replies place ≡ None
  others past place out = core_unnoted (job lot plan L records) past place out

  pub finds : (past : List Event) → (place : ℕ) → IsLegal (job lot plan L records) (Take place ∷ past)
      → (b : Book) → names (footprint_at L records place) b ≡ true
      → (replay (job lot plan L records) past).books b ≡ book b (ledger_before lot plan L records place)
  finds past place legal b named =
      core_finds (job lot plan L records) (λ i b. book b (ledger_before lot plan L records i)) (reply_at lot plan L records)
      (is_fold lot plan L records order) past place legal b named

  pub leaves : (past : List Event) → (place : ℕ) → IsLegal (job lot plan L records) (Give place ∷ past)
      → (b : Book) → names (footprint_at L records place) b ≡ true
      → (replay (job lot plan L records) (Give place ∷ past)).books b ≡ book b (ledger_before lot plan L records (suc place))
  leaves past place legal b named =
      core_leaves (job lot plan L records) (λ i b. book b (ledger_before lot plan L records i)) (reply_at lot plan L records)
      (is_fold lot plan L records order) past place legal b named
