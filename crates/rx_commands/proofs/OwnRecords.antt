-- The lines about a plan's own records have the answers of the replies to these.
use Rattle.std.proofs.Common.{◌≡◌, ℕ, suc, ◌+◌, ◌-◌, ◌<◌, Bool, true, false, cond, List, [], ◌∷◌, ◌++◌, get_or, length, map, refl, sym}
use Rattle.std.proofs.Common.{ap, ◌∙◌, inl, inr, append_assoc, arith}
use Rattle.std.specs.List.{filter}
use Rattle.std.proofs.lemmas.Bool.{cases_Bool}
use Rattle.std.proofs.lemmas.List.{append-nil, get_or_default, length-map, map-append}
use Rattle.std.proofs.lemmas.List.Elements.{filter-append}
use Rattle.rx_batch.specs.declared.detail.Detail.{Detail}
use Rattle.rx_d0_request.specs.Request.{transmission_of}
use Rattle.rx_d0_values.specs.declared.reply.Answer.{Answer}
use Rattle.rx_d0_values.specs.declared.reply.Reply.{Reply}
use Rattle.rx_d0_values.specs.declared.transmission.Transmission.{Transmission}
use Rattle.rx_report.specs.AddsUp.{AreLinesOf, entries_of, entry_of}
use Rattle.rx_report.specs.Lines.{answer_lines, lines_from, lines_of, record_lines}
use Rattle.rx_report.specs.declared.line.Line.{Line}
use Rattle.rx_schedule.specs.Shards.{places_of}
use Rattle.rx_settle.specs.Answers.{answers_in, is_approved}
use Rattle.rx_switch.specs.Own.{no_reply}
use Rattle.rx_commands.proofs.Replied.{one_each}
use Rattle.rx_commands.specs.Own.{IsOwnPart, is_own, is_own_line, own_replies}
use Rattle.rx_commands.specs.Reported.{IsCounted, IsReported}
use Rattle.rx_commands.specs.Reversed.{with_reversed}
use Rattle.rx_commands.specs.declared.batch_report.Report.{Report}
use Rattle.rx_commands.specs.declared.replay.batch.Adjudicated.{Adjudicated}

module _ (chosen : ℕ → Bool) where
  abbrev is_there : Line → Bool
  is_there l = chosen l.place

  -- the replies at chosen places, the first of all being at this one
  abbrev chosen_from : ℕ → List Reply → List Reply
  chosen_from place [] = []
  chosen_from place (r ∷ rs) = cond (chosen place) (r ∷ chosen_from (place + 1) rs) (chosen_from (place + 1) rs)

  -- all lines of a record are at its place
  answers_there : (place : ℕ) (t : Transmission) (r : Reply) (before : ℕ) (answers : List Answer) → chosen place ≡ true
      → map entry_of (filter is_there (answer_lines place t r before answers)) ≡ map (λ a. (r.echo.provider, a)) answers
  answers_there place t r before [] here = refl
  answers_there place t r before (a ∷ more) here =
      rw here (ap (λ (rest : List (List ℕ × Answer)). (r.echo.provider, a) ∷ rest)
      (answers_there place t r (before + 1) more here))

  answers_elsewhere : (place : ℕ) (t : Transmission) (r : Reply) (before : ℕ) (answers : List Answer) → chosen place ≡ false
      → filter is_there (answer_lines place t r before answers) ≡ []
  answers_elsewhere place t r before [] other = refl
  answers_elsewhere place t r before (a ∷ more) other = rw other (answers_elsewhere place t r (before + 1) more other)

  pub records_there : (place : ℕ) (ts : List Transmission) (rs : List Reply) → length ts ≡ length rs
      → map entry_of (filter is_there (lines_from place ts rs)) ≡ entries_of (chosen_from place rs)
  records_there place [] [] e = refl
  records_there place [] (r ∷ rs) e = absurd (omega (arith, e))
  records_there place (t ∷ ts) [] e = absurd (omega (arith, e))
  records_there place (t ∷ ts) (r ∷ rs) e =
      let first = filter is_there (record_lines place t r) in
      let rest = filter is_there (lines_from (place + 1) ts rs) in
      let parts : map entry_of (filter is_there (record_lines place t r ++ lines_from (place + 1) ts rs))
      ≡ map entry_of first ++ map entry_of rest =
      ap (map entry_of) (filter-append is_there (record_lines place t r) (lines_from (place + 1) ts rs))
      ∙ map-append entry_of first rest in
      let others = records_there (place + 1) ts rs (omega (arith, e)) in
      elim (cases_Bool (chosen place)) [
        | inl here ↦ rw here (parts
            ∙ (λ j. answers_there place t r 0 (answers_in r.outcome) here j ++ others j))
        | inr other ↦ rw other (parts
            ∙ (λ j. map entry_of (answers_elsewhere place t r 0 (answers_in r.outcome) other j) ++ others j))
      ]

  -- ---- the same replies by their places

  one_more : (f : ℕ → Reply) (m : ℕ) → chosen (suc m) ≡ true
      → map f (places_of chosen (suc m)) ≡ map f (places_of chosen m) ++ f (suc m) ∷ []
  one_more f m here = rw here (map-append f (places_of chosen m) (suc m ∷ []))

  none_more : (f : ℕ → Reply) (m : ℕ) → chosen (suc m) ≡ false → map f (places_of chosen (suc m)) ≡ map f (places_of chosen m)
  none_more f m other = rw other refl

  pub chosen_places : (f : ℕ → Reply) (m n place : ℕ) (rs : List Reply) → n ≡ m + length rs → place ≡ suc m
      → ((k : ℕ) (d : Reply) → k < length rs → f (place + k) ≡ get_or rs k d)
      → map f (places_of chosen n) ≡ map f (places_of chosen m) ++ chosen_from place rs
  chosen_places f m n place [] all at each =
      let same : n ≡ m = omega (arith, all) in
      ap (λ k. map f (places_of chosen k)) same ∙ sym (append-nil (map f (places_of chosen m)))
  chosen_places f m n place (r ∷ rs) all at each =
      let more = chosen_from (place + 1) rs in
      let next = chosen_places f (suc m) n (place + 1) rs (omega (arith, all)) (omega (arith, at))
      (λ k d low. let e : place + 1 + k ≡ place + suc k = omega arith in ap f e ∙ each (suc k) d (omega (arith, low))) in
      let zeroth : place ≡ place + 0 = omega arith in
      let here : f (suc m) ≡ r = ap f (sym at ∙ zeroth) ∙ each 0 r (omega arith) in
      elim (cases_Bool (chosen place)) [
        | inl own ↦
            let own_there : chosen (suc m) ≡ true = ap chosen (sym at) ∙ own in
            rw own (next ∙ ap (λ xs. xs ++ more) (one_more f m own_there)
            ∙ append_assoc (map f (places_of chosen m)) (f (suc m) ∷ []) more
            ∙ ap (λ x. map f (places_of chosen m) ++ (x ∷ more)) here)
        | inr other ↦
            let other_there : chosen (suc m) ≡ false = ap chosen (sym at) ∙ other in
            rw other (next ∙ ap (λ xs. xs ++ more) (none_more f m other_there))
      ]

  -- a reversal's line that has a member more is where it was
  pub kept_there : (b : Adjudicated) (ls : List Line)
      → map entry_of (filter is_there (map (with_reversed b) ls)) ≡ map entry_of (filter is_there ls)
  kept_there b [] = refl
  kept_there b (l ∷ ls) =
      let rest = kept_there b ls in
      let more = ap (λ (es : List (List ℕ × Answer)). entry_of l ∷ es) rest in
      elim (cases_Bool (is_approved l.answer)) [
        | inl back ↦ elim (cases_Bool (chosen l.place)) [
          | inl here ↦ rw (back, here) more
          | inr other ↦ rw (back, other) rest
        ]
        | inr plain ↦ elim (cases_Bool (chosen l.place)) [
          | inl here ↦ rw (plain, here) more
          | inr other ↦ rw (plain, other) rest
        ]
      ]

-- ---- the places so far, and one more

pub put_more : (chosen : ℕ → Bool) (f : ℕ → Reply) (at : ℕ) (r : Reply) (before now : List Reply)
    → before ≡ map f (places_of chosen at) → chosen (at + 1) ≡ true → r ≡ f (at + 1) → now ≡ before ++ r ∷ []
    → now ≡ map f (places_of chosen (at + 1))
put_more chosen f at r before now so_far here is put =
    let next : suc at ≡ at + 1 = omega arith in
    let own : chosen (suc at) ≡ true = ap chosen next ∙ here in
    put ∙ ap (λ rs. rs ++ r ∷ []) so_far
    ∙ ap (λ q. map f (places_of chosen at) ++ q ∷ []) (is ∙ ap f (sym next))
    ∙ sym (one_more chosen f at own) ∙ ap (λ n. map f (places_of chosen n)) next

pub pass_over : (chosen : ℕ → Bool) (f : ℕ → Reply) (at : ℕ) (now : List Reply) → now ≡ map f (places_of chosen at)
    → chosen (at + 1) ≡ false → now ≡ map f (places_of chosen (at + 1))
pass_over chosen f at now so_far other =
    let next : suc at ≡ at + 1 = omega arith in
    let elsewhere : chosen (suc at) ≡ false = ap chosen next ∙ other in
    so_far ∙ sym (none_more chosen f at elsewhere) ∙ ap (λ n. map f (places_of chosen n)) next

-- the reply at a place, places being counted from 1
pub reply_there : (rs : List Reply) (at : ℕ) (r copy : Reply) → at < length rs → r ≡ get_or rs at r → copy ≡ r
    → copy ≡ get_or rs (at + 1 - 1) no_reply
reply_there rs at r copy low is same =
    let e : at ≡ at + 1 - 1 = omega arith in
    same ∙ is ∙ get_or_default rs at r no_reply low ∙ ap (λ n. get_or rs n no_reply) e

-- ---- the report

-- to each detail there is a reply
pub replied : (sheet books batch : List ℕ) (r : Report) → IsReported sheet books batch r
    → length r.batch.details ≡ length r.batch.replies.items
replied sheet books batch r is =
    let b = r.batch in
    sym (ap length is.replies_are ∙ one_each b.lot b.sheet 1 b.asked.items b.opening.ledger
    ∙ ap length is.asked_are ∙ length-map b.details (λ (d : Detail). transmission_of b.sheet.figures.door d.text))

own_are : (b : Adjudicated) → length b.details ≡ length b.replies.items
    → chosen_from (is_own b) 1 b.replies.items ≡ own_replies b
own_are b long =
    sym (chosen_places (is_own b) (λ place. get_or b.replies.items (place - 1) no_reply) 0 (length b.details) 1 b.replies.items
    (omega (arith, long)) (omega arith) (λ k d low.
    let e : 1 + k - 1 ≡ k = omega arith in
    ap (λ n. get_or b.replies.items n no_reply) e ∙ get_or_default b.replies.items k no_reply d low))

-- so the tallies count the answers of the lines
pub own_counted : (sheet books batch : List ℕ) (whole r : Report) → IsReported sheet books batch whole
    → IsOwnPart whole r → IsCounted r
own_counted sheet books batch whole r is own =
    let b = whole.batch in
    let long = replied sheet books batch whole is in
    let asked_long : length b.asked.items ≡ length b.replies.items =
    sym (ap length is.replies_are ∙ one_each b.lot b.sheet 1 b.asked.items b.opening.ledger) in
    let are : AreLinesOf r.lines.items (own_replies b) =
    ap (map entry_of) (own.lines_are ∙ ap (filter (is_own_line b)) is.contents.lines_are)
    ∙ kept_there (is_own b) b (lines_of b.asked.items b.replies.items)
    ∙ records_there (is_own b) 1 b.asked.items b.replies.items asked_long
    ∙ ap entries_of (own_are b long) in
    (own_replies b, (are, own.settled_is))
