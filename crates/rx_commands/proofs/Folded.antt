-- One more record of a batch.
use Rattle.std.proofs.Common.{◌≡◌, ℕ, suc, ◌+◌, ◌<◌, ◌++◌, List, [], ◌∷◌, get_or, length, take}
use Rattle.std.proofs.Common.{length-take-le, sym, ap, ◌∙◌, arith}
use Rattle.std.proofs.lemmas.List.{take_more}
use Rattle.rx_d0_values.specs.declared.transmission.Transmission.{Transmission}
use Rattle.rx_fields.specs.Numbered.{LotParts}
use Rattle.rx_ledger.specs.Fold.{fold_ledger, fold_replies, ledger_after, reply_to}
use Rattle.rx_ledger.specs.Ledger.{Ledger}
use Rattle.rx_ledger.specs.Plan.{Plan}

one_more : (place n : ℕ) → place + 1 + n ≡ place + suc n
one_more place n = omega arith

no_more : (place : ℕ) → place ≡ place + 0
no_more place = omega arith

module _ (lot : LotParts) (plan : Plan) where
  ledger_append : (xs ys : List Transmission) (place : ℕ) (L : Ledger)
      → fold_ledger lot plan place (xs ++ ys) L
      ≡ fold_ledger lot plan (place + length xs) ys (fold_ledger lot plan place xs L)
  ledger_append [] ys place L = ap (λ n. fold_ledger lot plan n ys L) (no_more place)
  ledger_append (x ∷ xs) ys place L =
      let next = ledger_after lot plan place x L in
      ledger_append xs ys (place + 1) next
      ∙ ap (λ n. fold_ledger lot plan n ys (fold_ledger lot plan (place + 1) xs next)) (one_more place (length xs))

  replies_append : (xs ys : List Transmission) (place : ℕ) (L : Ledger)
      → fold_replies lot plan place (xs ++ ys) L
      ≡ fold_replies lot plan place xs L ++ fold_replies lot plan (place + length xs) ys (fold_ledger lot plan place xs L)
  replies_append [] ys place L = ap (λ n. fold_replies lot plan n ys L) (no_more place)
  replies_append (x ∷ xs) ys place L =
      let next = ledger_after lot plan place x L in
      ap (λ rs. reply_to lot plan place x L ∷ rs)
      (replies_append xs ys (place + 1) next
      ∙ ap
      (λ n. fold_replies lot plan (place + 1) xs next ++ fold_replies lot plan n ys (fold_ledger lot plan (place + 1) xs next))
      (one_more place (length xs)))

  module _ (ts : List Transmission) (i : ℕ) (t : Transmission) (within : i < length ts) (is : t ≡ get_or ts i t)
      (opening : Ledger) where
    abbrev so_far : Ledger
    so_far = fold_ledger lot plan 1 (take i ts) opening

    and_one : take (i + 1) ts ≡ take i ts ++ t ∷ []
    and_one = take_more ts i t within ∙ ap (λ u. take i ts ++ u ∷ []) (sym is)

    place_is : 1 + length (take i ts) ≡ i + 1
    place_is = ap (λ n. 1 + n) (length-take-le i ts (omega arith)) ∙ (let e : 1 + i ≡ i + 1 = omega arith in e)

    -- the ledger after it
    pub ledger_more : fold_ledger lot plan 1 (take (i + 1) ts) opening
        ≡ ledger_after lot plan (i + 1) t (fold_ledger lot plan 1 (take i ts) opening)
    ledger_more =
        ap (λ xs. fold_ledger lot plan 1 xs opening) and_one ∙ ledger_append (take i ts) (t ∷ []) 1 opening
        ∙ ap (λ n. ledger_after lot plan n t so_far) place_is

    -- the replies up to it
    pub replies_more : fold_replies lot plan 1 (take (i + 1) ts) opening
        ≡ fold_replies lot plan 1 (take i ts) opening
        ++ reply_to lot plan (i + 1) t (fold_ledger lot plan 1 (take i ts) opening) ∷ []
    replies_more =
        ap (λ xs. fold_replies lot plan 1 xs opening) and_one ∙ replies_append (take i ts) (t ∷ []) 1 opening
        ∙ ap (λ n. fold_replies lot plan 1 (take i ts) opening ++ reply_to lot plan n t so_far ∷ []) place_is
