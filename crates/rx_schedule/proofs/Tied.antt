-- Mentions of which each may follow the one before are tied: those of one name are of records with one number.
use Rattle.std.proofs.Common.{◌≡◌, ℕ, zero, suc, ◌<◌, List, get_or, length, sym, subst, ap, ◌∙◌, arith, inl, inr}
use Rattle.std.specs.List.{Contains}
use Rattle.std.proofs.lemmas.Bool.{cases_lt}
use Rattle.std.proofs.lemmas.List.{get_or_default}
use Rattle.rx_schedule.specs.declared.mentions.Mention.{Mention}
use Rattle.rx_schedule.specs.Mentions.{AreTied, MayFollow, number_of_mention}

follow_on : (numbers : List ℕ) (a b c : Mention) → MayFollow numbers a b → MayFollow numbers b c → MayFollow numbers a c
follow_on numbers a b c ab bc =
    let first = ab.rise in
    let second = bc.rise in
    record { rise = omega arith; same = λ e. ab.same (omega arith) ∙ bc.same (omega arith) }

module _ (numbers : List ℕ) (ms : List Mention)
    (near : (k : ℕ) (d : Mention) → suc k < length ms → MayFollow numbers (get_or ms k d) (get_or ms (suc k) d)) where
  later : (i j : ℕ) (d : Mention) → i < j → j < length ms → MayFollow numbers (get_or ms i d) (get_or ms j d)
  later i zero d lt to = absurd (omega arith)
  later i (suc j) d lt to = elim (cases_lt i j) [
    | inl less ↦ follow_on numbers (get_or ms i d) (get_or ms j d) (get_or ms (suc j) d)
        (later i j d less (omega arith)) (near j d to)
    | inr no_less ↦
        let e : j ≡ i = omega arith in
        subst (λ k. MayFollow numbers (get_or ms k d) (get_or ms (suc j) d)) e (near j d to)
  ]

  pub all_tied : AreTied numbers ms
  all_tied a b in_a in_b same =
      let i = in_a.0 in
      let j = in_b.0 in
      let to_i : i < length ms = in_a.1 in
      let to_j : j < length ms = in_b.1 in
      let at_a : get_or ms i a ≡ a = in_a.2 in
      let at_b : get_or ms j a ≡ b = get_or_default ms j a b to_j ∙ in_b.2 in
      elim (cases_lt i j) [
        | inl less ↦
            let follows : MayFollow numbers a b =
            subst (λ m. MayFollow numbers a m) at_b (subst (λ m. MayFollow numbers m (get_or ms j a)) at_a (later i j a less to_j)) in
            follows.same same
        | inr no_less ↦ elim (cases_lt j i) [
          | inl less ↦
              let follows : MayFollow numbers b a =
              subst (λ m. MayFollow numbers m a) at_b (subst (λ m. MayFollow numbers (get_or ms j a) m) at_a (later j i a less to_i)) in
              sym (follows.same (sym same))
          | inr no_more ↦
              let e : i ≡ j = omega arith in
              ap (number_of_mention numbers) (sym at_a ∙ ap (λ k. get_or ms k a) e ∙ at_b)
        ]
      ]

-- mentions in another order
pub tied_among : (numbers : List ℕ) (ms ns : List Mention) → ((m : Mention) → Contains ms m → Contains ns m)
    → AreTied numbers ns → AreTied numbers ms
tied_among numbers ms ns among tied a b in_a in_b same = tied a b (among a in_a) (among b in_b) same
