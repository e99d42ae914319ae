-- One record of a batch with its reply, or one answer of a reply, and those after it.
use Rattle.std.proofs.Common.{◌≡◌, ℕ, ◌+◌, ◌<◌, ◌≤◌, ◌++◌, List, ◌∷◌, drop, drop-cons, get_or, length, add-one, append_assoc, sym, ap, ◌∙◌}
use Rattle.std.proofs.lemmas.List.{append-nil, at_drop_all}
use Rattle.rx_d0_values.specs.declared.reply.Answer.{Answer}
use Rattle.rx_d0_values.specs.declared.reply.Reply.{Reply}
use Rattle.rx_d0_values.specs.declared.transmission.Heard.{Heard}
use Rattle.rx_d0_values.specs.declared.transmission.Transmission.{Transmission}
use Rattle.rx_explain.specs.declared.at.At.{At}
use Rattle.rx_explain.specs.Listed.{of_answers, of_batch, of_record}

rest_is : {X : Type 0} (list : List X) (at : ℕ) (x : X) → at < length list → x ≡ get_or list at x
    → drop at list ≡ x ∷ drop (at + 1) list
rest_is list at x within is = rw add-one (drop-cons list at x within) ∙ ap (λ u. u ∷ drop (at + 1) list) (sym is)

-- what was reported before it is followed by what is said of it, and of those after it
pub of_batch_next : {X : Type 0} (listed : Heard → At → Answer → List X) (ts : List Transmission) (rs : List Reply) (at : ℕ)
    (t : Transmission) (r : Reply) → at < length ts → at < length rs → t ≡ get_or ts at t → r ≡ get_or rs at r
    → (done : List X)
    → (done ++ of_record listed (at + 1) t.body r.outcome) ++ of_batch listed (at + 1 + 1) (drop (at + 1) ts) (drop (at + 1) rs)
    ≡ done ++ of_batch listed (at + 1) (drop at ts) (drop at rs)
of_batch_next listed ts rs at t r in_ts in_rs t_is r_is done =
    append_assoc done (of_record listed (at + 1) t.body r.outcome) _
    ∙ ap (λ x. done ++ x)
    (ap (λ xs. of_batch listed (at + 1) xs (r ∷ drop (at + 1) rs)) (sym (rest_is ts at t in_ts t_is))
    ∙ ap (λ ys. of_batch listed (at + 1) (drop at ts) ys) (sym (rest_is rs at r in_rs r_is)))

-- the same of one answer, and those after it
pub of_answers_next : {X : Type 0} (listed : Heard → At → Answer → List X) (place : ℕ) (h : Heard) (answers : List Answer) (at : ℕ)
    (a : Answer) → at < length answers → a ≡ get_or answers at a → (done : List X)
    → (done ++ listed h (record { place = place; nth = at + 1 }) a) ++ of_answers listed place h (at + 1 + 1) (drop (at + 1) answers)
    ≡ done ++ of_answers listed place h (at + 1) (drop at answers)
of_answers_next listed place h answers at a within is done =
    append_assoc done (listed h (record { place = place; nth = at + 1 }) a) _
    ∙ ap (λ xs. done ++ of_answers listed place h (at + 1) xs) (sym (rest_is answers at a within is))

-- after the last answer nothing is left to report
pub of_answers_end : {X : Type 0} (listed : Heard → At → Answer → List X) (place : ℕ) (h : Heard) (answers : List Answer) (at : ℕ)
    → length answers ≤ at → (done : List X) → done ≡ done ++ of_answers listed place h (at + 1) (drop at answers)
of_answers_end listed place h answers at past done =
    sym (append-nil done) ∙ sym (at_drop_all (λ xs. done ++ of_answers listed place h (at + 1) xs) answers at past)
