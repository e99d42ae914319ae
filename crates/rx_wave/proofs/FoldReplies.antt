-- The replies of the fold, by their places.
use Rattle.std.proofs.Common.{◌≡◌, ℕ, zero, suc, ◌+◌, ◌-◌, ◌<◌, List, [], ◌∷◌, get_or, length, map, take, refl, sym, ap, ◌∙◌, arith}
use Rattle.std.specs.List.{range_with_len}
use Rattle.std.proofs.lemmas.List.{ext_get_or}
use Rattle.std.proofs.lemmas.List.FromFn.{get_or-map-range_with_len, length-map-range_with_len}
use Rattle.rx_fields.specs.Numbered.{LotParts}
use Rattle.rx_d0_values.specs.declared.reply.Reply.{Reply}
use Rattle.rx_d0_values.specs.declared.transmission.Transmission.{Transmission}
use Rattle.rx_ledger.specs.Fold.{fold_ledger, fold_replies, ledger_after, reply_to}
use Rattle.rx_ledger.specs.Ledger.{Ledger}
use Rattle.rx_ledger.specs.Plan.{Plan}
use Rattle.rx_schedule.specs.Footprints.{no_record}
use Rattle.rx_schedule.specs.Jobs.{reply_at}

module _ (lot : LotParts) (plan : Plan) where
  replies_count : (place : ℕ) (records : List Transmission) (L : Ledger)
      → length (fold_replies lot plan place records L) ≡ length records
  replies_count place [] L = refl
  replies_count place (t ∷ ts) L = ap suc (replies_count (place + 1) ts (ledger_after lot plan place t L))

  pub reply_in : (place : ℕ) (records : List Transmission) (L : Ledger) (i : ℕ) (d : Reply) → i < length records
      → get_or (fold_replies lot plan place records L) i d
      ≡ reply_to lot plan (place + i) (get_or records i no_record) (fold_ledger lot plan place (take i records) L)
  reply_in place [] L i d h = absurd (omega arith)
  reply_in place (t ∷ ts) L zero d h = let e : place ≡ place + zero = omega arith in ap (λ p. reply_to lot plan p t L) e
  reply_in place (t ∷ ts) L (suc i) d h =
      let e : place + 1 + i ≡ place + suc i = omega arith in
      reply_in (place + 1) ts (ledger_after lot plan place t L) i d (omega arith)
      ∙ ap (λ p. reply_to lot plan p (get_or ts i no_record)
      (fold_ledger lot plan (place + 1) (take i ts) (ledger_after lot plan place t L))) e

  pub all_replies : (records : List Transmission) (L : Ledger)
      → map (reply_at lot plan L records) (range_with_len 1 (length records)) ≡ fold_replies lot plan 1 records L
  all_replies records L =
      let reply : ℕ → Reply = reply_at lot plan L records in
      let n = length records in
      let long = length-map-range_with_len reply 1 n in
      ext_get_or (reply 1) (map reply (range_with_len 1 n)) (fold_replies lot plan 1 records L)
      (long ∙ sym (replies_count 1 records L)) (λ i lt.
      let low : i < n = omega (arith, lt, long) in
      let e : suc i - 1 ≡ i = omega arith in
      let p : suc i ≡ 1 + i = omega arith in
      get_or-map-range_with_len reply 1 n i (suc i) (reply 1) low (omega arith)
      ∙ ap (λ j. reply_to lot plan (suc i) (get_or records j no_record) (fold_ledger lot plan 1 (take j records) L)) e
      ∙ ap (λ j. reply_to lot plan j (get_or records i no_record) (fold_ledger lot plan 1 (take i records) L)) p
      ∙ sym (reply_in 1 records L i (reply 1) low))
