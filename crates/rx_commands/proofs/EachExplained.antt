-- The transactions of a record, explained one after another.
use Rattle.std.proofs.Common.{◌≡◌, ◌≤◌, ◌<◌, ◌+◌, ◌-◌, ◌++◌, ◌∷◌, ℕ, suc, List, [], Option, Some, None, get_or, length, take}
use Rattle.std.proofs.Common.{length-take-le, sym, ap, subst, ◌∙◌, inl, inr, arith}
use Rattle.std.specs.Prelude.{option_and_then}
use Rattle.std.specs.Option.{option_map}
use Rattle.std.proofs.lemmas.Bool.{cases_lt}
use Rattle.std.proofs.lemmas.List.{take_more}
use Rattle.rx_d0_values.specs.declared.transaction.Transaction.{Transaction}
use Rattle.rx_d0_values.specs.declared.transmission.Body.{Body}
use Rattle.rx_d0_values.specs.declared.transmission.Body.TheVariants as body
use Rattle.rx_d0_values.specs.declared.transmission.Heard.{Heard}
use Rattle.rx_d0_values.specs.declared.transmission.Transmission.{Transmission}
use Rattle.rx_explain.specs.declared.at.At.{At}
use Rattle.rx_explain.specs.declared.events.Event.{Event}
use Rattle.rx_explain.specs.declared.explanation.Explanation.{Explanation}
use Rattle.rx_explain.specs.declared.facts.Facts.{Facts}
use Rattle.rx_explain.specs.Before.{ledger_at, ledger_before}
use Rattle.rx_explain.specs.Explained.{AreFacts, AreFactsAt, IsAmong, IsOnLedger}
use Rattle.rx_explain.specs.Spots.{Spot, item, spot_at, spot_in}
use Rattle.rx_fields.specs.Numbered.{LotParts}
use Rattle.rx_ledger.specs.Answers.{after, answer}
use Rattle.rx_ledger.specs.Fold.{asked, ledger_from}
use Rattle.rx_ledger.specs.Ledger.{Ledger}
use Rattle.rx_ledger.specs.Plan.{Plan}
use Rattle.rx_commands.specs.declared.replay.batch.Batch.{Batch}
use Rattle.rx_commands.specs.Records.{AreDecided, AreOf, IsOf}
use Rattle.rx_commands.proofs.Items.{item_at, item_end, item_more, item_past, no_item}

one_more : (nth n : ℕ) → nth + 1 + n ≡ nth + suc n
one_more nth n = omega arith

no_more : (nth : ℕ) → nth ≡ nth + 0
no_more nth = omega arith

module _ (lot : LotParts) (plan : Plan) (place : ℕ) (h : Heard) where
  ledger_append : (xs ys : List Transaction) (nth : ℕ) (L : Ledger)
      → ledger_from lot plan place h nth (xs ++ ys) L
      ≡ ledger_from lot plan place h (nth + length xs) ys (ledger_from lot plan place h nth xs L)
  ledger_append [] ys nth L = ap (λ n. ledger_from lot plan place h n ys L) (no_more nth)
  ledger_append (x ∷ xs) ys nth L =
      let a = asked lot plan place h nth in
      let next = after a L x (answer a L x) in
      ledger_append xs ys (nth + 1) next
      ∙ ap (λ n. ledger_from lot plan place h n ys (ledger_from lot plan place h (nth + 1) xs next)) (one_more nth (length xs))

  -- the ledger after one more transaction
  pub ledger_up_to : (list : List Transaction) (at : ℕ) (t : Transaction) (L now next : Ledger) → at < length list
      → t ≡ get_or list at t → now ≡ ledger_from lot plan place h 1 (take at list) L
      → next ≡ after (asked lot plan place h (at + 1)) now t (answer (asked lot plan place h (at + 1)) now t)
      → next ≡ ledger_from lot plan place h 1 (take (at + 1) list) L
  ledger_up_to list at t L now next within is so changed =
      let step : ℕ → Ledger → Ledger = λ n M. after (asked lot plan place h n) M t (answer (asked lot plan place h n) M t) in
      let and_one : take (at + 1) list ≡ take at list ++ t ∷ [] =
      take_more list at t within ∙ ap (λ u. take at list ++ u ∷ []) (sym is) in
      let nth_is : at + 1 ≡ 1 + length (take at list) =
      (let e : at + 1 ≡ 1 + at = omega arith in e) ∙ ap (λ n. 1 + n) (sym (length-take-le at list (omega arith))) in
      changed ∙ ap (step (at + 1)) so ∙ ap (λ n. step n (ledger_from lot plan place h 1 (take at list) L)) nth_is
      ∙ sym (ledger_append (take at list) (t ∷ []) 1 L)
      ∙ ap (λ xs. ledger_from lot plan place h 1 xs L) (sym and_one)

module _ (lot : LotParts) (plan : Plan) (place : ℕ) (h : Heard) (L : Ledger) where
  -- one more transaction is explained
  pub explained_next : (list : List Transaction) (xs : List Facts) (at : ℕ) (t : Transaction) (x : Facts)
      → at < length list → t ≡ get_or list at t → length xs ≡ at
      → ((nth : ℕ) → nth ≤ at → IsOf lot plan place h L nth (item list nth) (item xs nth))
      → IsOf lot plan place h L (at + 1) (Some t) (Some x)
      → (nth : ℕ) → nth ≤ at + 1 → IsOf lot plan place h L nth (item list nth) (item (xs ++ x ∷ []) nth)
  explained_next list xs at t x within is count so here nth le = elim (cases_lt at nth) [
    | inl past ↦
        let e : at + 1 ≡ nth = omega arith in
        let ours : item list (at + 1) ≡ Some t = item_at list at t within is in
        let theirs : item (xs ++ x ∷ []) (at + 1) ≡ Some x =
        ap (λ n. item (xs ++ x ∷ []) (n + 1)) (sym count) ∙ item_end xs x in
        subst (λ (n : ℕ). IsOf lot plan place h L n (item list n) (item (xs ++ x ∷ []) n)) e
        (subst (λ (o : Option Transaction). IsOf lot plan place h L (at + 1) o (item (xs ++ x ∷ []) (at + 1))) (sym ours)
        (subst (λ (o : Option Facts). IsOf lot plan place h L (at + 1) (Some t) o) (sym theirs) here))
    | inr up_to ↦
        subst (λ (o : Option Facts). IsOf lot plan place h L nth (item list nth) o)
        (sym (item_more xs x nth (omega arith))) (so nth up_to)
  ]

  -- at the end all of them are
  pub all_explained : (list : List Transaction) (xs : List Facts) → length xs ≡ length list
      → ((nth : ℕ) → nth ≤ length list → IsOf lot plan place h L nth (item list nth) (item xs nth))
      → (nth : ℕ) → IsOf lot plan place h L nth (item list nth) (item xs nth)
  all_explained list xs count so nth = elim (cases_lt (length list) nth) [
    | inl past ↦
        subst (λ (o : Option Transaction). IsOf lot plan place h L nth o (item xs nth)) (sym (item_past list nth past))
        (subst (λ (o : Option Facts). IsOf lot plan place h L nth None o)
        (sym (item_past xs nth (omega arith))) tt)
    | inr within ↦ so nth within
  ]

module _ (b : Batch) (place : ℕ) where
  of_each : (h : Heard) (L : Ledger) → ledger_at b.lot b.sheet.now b.asked.now b.opening.now.ledger place ≡ L
      → (nth : ℕ) (o : Option Transaction) (x : Option Facts) → IsOf b.lot b.sheet.now place h L nth o x
      → AreFactsAt b.lot b.sheet.now b.asked.now b.opening.now.ledger (record { place = place; nth = nth })
      (option_map (λ t. record { heard = h; transaction = t }) o) x
  of_each h L is nth None None so = tt
  of_each h L is nth None (Some x) so = absurd so
  of_each h L is nth (Some t) None so = absurd so
  of_each h L is nth (Some t) (Some x) so =
      subst (λ (M : Ledger). AreFacts b.lot b.sheet.now (ledger_from b.lot b.sheet.now place h 1 (take (nth - 1) h.list) M)
      (record { place = place; nth = nth }) (record { heard = h; transaction = t }) x) (sym is) so

  spot_is : (t : Transmission) (inside : Body) (nth : ℕ) → item b.asked.now place ≡ Some t → t.body ≡ inside
      → spot_at b.asked.now (record { place = place; nth = nth }) ≡ spot_in nth inside
  spot_is t inside nth is has =
      ap (option_and_then (λ (u : Transmission). spot_in nth u.body)) is ∙ ap (spot_in nth) has

  -- of the record at a place, on the ledger before it
  pub among_heard : (t : Transmission) (h : Heard) (L : Ledger) (xs : List Facts) → item b.asked.now place ≡ Some t
      → t.body ≡ body.Heard h → ledger_at b.lot b.sheet.now b.asked.now b.opening.now.ledger place ≡ L
      → AreOf b.lot b.sheet.now place h L xs → AreDecided b place xs
  among_heard t h L xs is has ledger so nth =
      subst (λ (o : Option Spot). AreFactsAt b.lot b.sheet.now b.asked.now b.opening.now.ledger
      (record { place = place; nth = nth }) o (item xs nth)) (sym (spot_is t (body.Heard h) nth is has))
      (of_each h L ledger nth (item h.list nth) (item xs nth) (so nth))

  none_among : ((nth : ℕ) → spot_at b.asked.now (record { place = place; nth = nth }) ≡ None) → AreDecided b place []
  none_among none nth =
      subst (λ (o : Option Spot). AreFactsAt b.lot b.sheet.now b.asked.now b.opening.now.ledger
      (record { place = place; nth = nth }) o (item [] nth)) (sym (none nth))
      (subst (λ (x : Option Facts). AreFactsAt b.lot b.sheet.now b.asked.now b.opening.now.ledger
      (record { place = place; nth = nth }) None x) (sym (no_item nth)) tt)

module _ (b : Batch) (events : List Event) where
  -- explained among events
  pub facts_traced : (at : At) (o : Option Spot) (x : Facts) (y : Explanation)
      → ((L : Ledger) (s : Spot) → AreFacts b.lot b.sheet.now L x.at s x → IsOnLedger b.lot b.sheet.now L events x.at s y)
      → AreFactsAt b.lot b.sheet.now b.asked.now b.opening.now.ledger at o (Some x)
      → IsAmong b.lot b.sheet.now b.asked.now b.opening.now.ledger events at o (Some y)
  facts_traced at None x y traced are = absurd are
  facts_traced at (Some s) x y traced are =
      let L = ledger_before b.lot b.sheet.now b.asked.now b.opening.now.ledger at.place s.heard at.nth in
      subst (λ (p : At). IsOnLedger b.lot b.sheet.now L events p s y) are.at_is
      (traced L s (subst (λ (p : At). AreFacts b.lot b.sheet.now L p s x) (sym are.at_is) are))
