-- How a comparison ends, and what a run that is done was given.
use Rattle.std.proofs.Common.{◌≡◌, ◌↔◌, true, refl, sym, ◌∙◌, inl, inr}
use Rattle.std.proofs.lemmas.Bool.{cases_Bool}
use Rattle.rx_commands.specs.Verdict.{outcome_by}
use Rattle.rx_commands.specs.Verified.{Differences, are_none}
use Rattle.rx_commands.specs.declared.printed.Outcome.{Outcome}
use Rattle.rx_commands.specs.declared.printed.Outcome.TheVariants.{Done, Differs}

-- it is done exactly where no file differs
done_of : (d : Differences) → are_none d ≡ true → outcome_by d ≡ Done
done_of d none = rw none refl

none_of : (d : Differences) → outcome_by d ≡ Done → are_none d ≡ true
none_of d done = elim (cases_Bool (are_none d)) [
  | inl none ↦ none
  | inr some ↦ (let clash : Differs ≡ Done = rw some at done in absurd cc)
]

pub same_outcome : {X : Type 0} (d : Differences) (o : Outcome) → o ≡ outcome_by d → (are_none d ≡ true) ↔ X
    → (o ≡ Done) ↔ X
same_outcome d o is iff = (λ done. iff.0 (none_of d (sym is ∙ done)), λ x. is ∙ done_of d (iff.1 x))
