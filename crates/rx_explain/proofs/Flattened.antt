-- A batch as one list of transactions with their places; the ledger after them, and what they changed.
use Rattle.std.proofs.Common.{◌≡◌, ℕ, ◌+◌, ◌++◌, List, [], ◌∷◌, append_assoc, refl, sym, ap, ◌∙◌}
use Rattle.rx_fields.specs.Numbered.{LotParts}
use Rattle.rx_d0_values.specs.declared.reply.Answer.{Answer}
use Rattle.rx_d0_values.specs.declared.transaction.Transaction.{Transaction}
use Rattle.rx_d0_values.specs.declared.transmission.Body.{Body}
use Rattle.rx_d0_values.specs.declared.transmission.Body.TheVariants.{Rejected, Heard}
use Rattle.rx_d0_values.specs.declared.transmission.Heard.{Heard as HeardRecord}
use Rattle.rx_d0_values.specs.declared.transmission.Transmission.{Transmission}
use Rattle.rx_ledger.specs.Answers.{Asked, after, answer}
use Rattle.rx_ledger.specs.Fold.{answers_from, asked, fold_ledger, fold_replies, ledger_after, ledger_from, ledger_of_body, outcome_of}
use Rattle.rx_ledger.specs.Ledger.{Ledger}
use Rattle.rx_ledger.specs.Plan.{Plan}
use Rattle.rx_explain.specs.declared.at.At.{At}
use Rattle.rx_explain.specs.declared.events.Event.{Event}
use Rattle.rx_explain.specs.Listed.{of_answers, of_record}
use Rattle.rx_explain.specs.Spots.{Spot}
use Rattle.rx_explain.specs.Traces.{event_of, events_of}

-- a transaction with its record, at its place
pub record Step : Type 0 where
  pub at : At
  pub spot : Spot

abbrev pub step_at : Step → At
step_at x = x.at

-- ---- the list

abbrev pub step : ℕ → HeardRecord → ℕ → Transaction → Step
step place h nth t =
    record { at = record { place = place; nth = nth }; spot = record { heard = h; transaction = t } }

module _ (place : ℕ) (h : HeardRecord) where
  abbrev pub record_steps : ℕ → List Transaction → List Step
  record_steps nth [] = []
  record_steps nth (t ∷ ts) = step place h nth t ∷ record_steps (nth + 1) ts

abbrev pub body_steps : ℕ → Body → List Step
body_steps place (Rejected r) = []
body_steps place (Heard h) = record_steps place h 1 h.list

abbrev pub steps_of : ℕ → List Transmission → List Step
steps_of place [] = []
steps_of place (t ∷ ts) = body_steps place t.body ++ steps_of (place + 1) ts

-- ---- on a ledger

module _ (lot : LotParts) (plan : Plan) where
  abbrev pub asked_of : Step → Asked
  asked_of x = asked lot plan x.at.place x.spot.heard x.at.nth

  abbrev pub answered : Ledger → Step → Answer
  answered L x = answer (asked_of x) L x.spot.transaction

  abbrev pub next : Ledger → Step → Ledger
  next L x = after (asked_of x) L x.spot.transaction (answered L x)

  abbrev pub events_at : Ledger → Step → List Event
  events_at L x = event_of x.spot.heard x.at (answered L x)

  abbrev pub ledger_by : Ledger → List Step → Ledger
  ledger_by L [] = L
  ledger_by L (x ∷ xs) = ledger_by (next L x) xs

  abbrev pub events_by : Ledger → List Step → List Event
  events_by L [] = []
  events_by L (x ∷ xs) = events_at L x ++ events_by (next L x) xs

  ledger_by-append : (L : Ledger) (xs ys : List Step) → ledger_by L (xs ++ ys) ≡ ledger_by (ledger_by L xs) ys
  ledger_by-append L [] ys = refl
  ledger_by-append L (x ∷ xs) ys = ledger_by-append (next L x) xs ys

  events_by-append : (L : Ledger) (xs ys : List Step)
      → events_by L (xs ++ ys) ≡ events_by L xs ++ events_by (ledger_by L xs) ys
  events_by-append L [] ys = refl
  events_by-append L (x ∷ xs) ys =
      ap (λ es. events_at L x ++ es) (events_by-append (next L x) xs ys)
      ∙ sym (append_assoc (events_at L x) (events_by (next L x) xs) (events_by (ledger_by (next L x) xs) ys))

  -- ---- of a record

  record_ledger : (place : ℕ) (h : HeardRecord) (nth : ℕ) (ts : List Transaction) (L : Ledger)
      → ledger_from lot plan place h nth ts L ≡ ledger_by L (record_steps place h nth ts)
  record_ledger place h nth [] L = refl
  record_ledger place h nth (t ∷ ts) L = record_ledger place h (nth + 1) ts (next L (step place h nth t))

  record_events : (place : ℕ) (h : HeardRecord) (nth : ℕ) (ts : List Transaction) (L : Ledger)
      → of_answers event_of place h nth (answers_from lot plan place h nth ts L) ≡ events_by L (record_steps place h nth ts)
  record_events place h nth [] L = refl
  record_events place h nth (t ∷ ts) L =
      let x = step place h nth t in
      ap (λ es. events_at L x ++ es) (record_events place h (nth + 1) ts (next L x))

  pub body_ledger : (place : ℕ) (body : Body) (L : Ledger)
      → ledger_of_body lot plan place L body ≡ ledger_by L (body_steps place body)
  body_ledger place (Rejected r) L = refl
  body_ledger place (Heard h) L = record_ledger place h 1 h.list L

  body_events : (place : ℕ) (body : Body) (L : Ledger)
      → of_record event_of place body (outcome_of lot plan place L body) ≡ events_by L (body_steps place body)
  body_events place (Rejected r) L = refl
  body_events place (Heard h) L = record_events place h 1 h.list L

  -- ---- of a batch

  pub ledger_by_steps : (place : ℕ) (ts : List Transmission) (L : Ledger)
      → fold_ledger lot plan place ts L ≡ ledger_by L (steps_of place ts)
  ledger_by_steps place [] L = refl
  ledger_by_steps place (t ∷ ts) L =
      let first = body_steps place t.body in
      let rest = steps_of (place + 1) ts in
      ledger_by_steps (place + 1) ts (ledger_after lot plan place t L)
      ∙ ap (λ M. ledger_by M rest) (body_ledger place t.body L) ∙ sym (ledger_by-append L first rest)

  pub events_by_steps : (place : ℕ) (ts : List Transmission) (L : Ledger)
      → events_of place ts (fold_replies lot plan place ts L) ≡ events_by L (steps_of place ts)
  events_by_steps place [] L = refl
  events_by_steps place (t ∷ ts) L =
      let first = body_steps place t.body in
      let rest = steps_of (place + 1) ts in
      let more = events_of (place + 1) ts (fold_replies lot plan (place + 1) ts (ledger_after lot plan place t L)) in
      ap (λ es. es ++ more) (body_events place t.body L)
      ∙ ap (λ es. events_by L first ++ es)
      (events_by_steps (place + 1) ts (ledger_after lot plan place t L)
      ∙ ap (λ M. events_by M rest) (body_ledger place t.body L))
      ∙ sym (events_by-append L first rest)
