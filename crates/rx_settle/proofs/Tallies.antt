-- Tallies of answers that are joined, and of replies.
use Rattle.std.proofs.Common.{◌≡◌, ◌+◌, ◌≤◌, Bool, cond, List, [], ◌∷◌, ◌++◌, ap, ◌∙◌, inl, inr, arith}
use Rattle.std.specs.List.{count_by, filter}
use Rattle.std.proofs.lemmas.Bool.{cases_Bool}
use Rattle.std.proofs.lemmas.List.{append-nil}
use Rattle.std.proofs.lemmas.List.Sums.{sum_by-append}
use Rattle.std.proofs.lemmas.Grind.{flat_map-append}
use Rattle.rx_d0_values.specs.declared.reply.Answer.{Answer}
use Rattle.rx_d0_values.specs.declared.reply.Reply.{Reply}
use Rattle.rx_settle.specs.declared.tally.Tally.{Tally}
use Rattle.rx_settle.specs.Answers.{answers_in, answers_of, tally, plus, weight}
use Rattle.rx_settle.specs.Answers.{is_paid, is_duplicate, is_approved, is_rejected, paid_out, taken_back}

count_by-append : {X : Type 0} (p : X → Bool) (xs ys : List X) → count_by p (xs ++ ys) ≡ count_by p xs + count_by p ys
count_by-append p xs ys = sum_by-append (λ x. cond (p x) 1 0) xs ys

-- ---- answers

-- the answers of two lists count together
pub tally-append : (xs ys : List Answer) → tally (xs ++ ys) ≡ plus (tally xs) (tally ys)
tally-append xs ys = λ j. record {
  paid = count_by-append is_paid xs ys j;
  duplicate = count_by-append is_duplicate xs ys j;
  approved = count_by-append is_approved xs ys j;
  rejected = count_by-append is_rejected xs ys j;
  paid_out = sum_by-append paid_out xs ys j;
  taken_back = sum_by-append taken_back xs ys j;
}

pub weight-plus : (s t : Tally) → weight (plus s t) ≡ weight s + weight t
weight-plus s t = omega arith

-- ---- replies

-- the tally of all answers of some replies
abbrev pub tally_of : List Reply → Tally
tally_of replies = tally (answers_of replies)

-- one reply more
pub tally_of-push : (rs : List Reply) (x : Reply)
    → tally_of (rs ++ x ∷ []) ≡ plus (tally_of rs) (tally (answers_in x.outcome))
tally_of-push rs x =
    ap tally (flat_map-append (λ (r : Reply). answers_in r.outcome) rs (x ∷ [])
    ∙ ap (λ answers. answers_of rs ++ answers) (append-nil (answers_in x.outcome)))
    ∙ tally-append (answers_of rs) (answers_in x.outcome)

-- some of the replies weigh no more than all
pub weight-filter : (p : Reply → Bool) (rs : List Reply) → weight (tally_of (filter p rs)) ≤ weight (tally_of rs)
weight-filter p [] = omega arith
weight-filter p (r ∷ rs) =
    let rest = weight-filter p rs in
    let all : weight (tally_of (r ∷ rs)) ≡ weight (tally (answers_in r.outcome)) + weight (tally_of rs) =
    ap weight (tally-append (answers_in r.outcome) (answers_of rs))
    ∙ weight-plus (tally (answers_in r.outcome)) (tally_of rs) in
    elim (cases_Bool (p r)) [
      | inl here ↦ rw here (
          let some : weight (tally_of (r ∷ filter p rs))
          ≡ weight (tally (answers_in r.outcome)) + weight (tally_of (filter p rs)) =
          ap weight (tally-append (answers_in r.outcome) (answers_of (filter p rs)))
          ∙ weight-plus (tally (answers_in r.outcome)) (tally_of (filter p rs)) in
          omega (arith, some, all, rest))
      | inr other ↦ rw other (omega (arith, all, rest))
    ]
