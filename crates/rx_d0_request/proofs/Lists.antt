-- The transactions of a list of groups.
use Rattle.std.proofs.Common.{◌≡◌, ℕ, Bool, true, false, cond, List, [], ◌∷◌, ◌++◌, length, map, Option, Some, None, refl, sym, ◌∙◌}
use Rattle.std.specs.List.{list_any}
use Rattle.std.proofs.Math.Bool.{and-false}
use Rattle.std.proofs.lemmas.List.{length-map}
use Rattle.rx_d0_values.specs.declared.transaction.Transaction.{Transaction}
use Rattle.rx_d0_values.specs.declared.transaction.Transaction.TheVariants.{Bill, Reverse}
use Rattle.rx_d0_values.specs.Listed.{is_bill, is_reversal, is_few, are_transactions}
use Rattle.rx_d0_request.specs.Bills.{transaction, billing, reversal, bill_parts, reversal_parts, faulty}
use Rattle.rx_d0_request.specs.Codes.{is_faulty, bill_conditions, reversal_conditions}
use Rattle.rx_d0_request.specs.Cut.{first, further}
use Rattle.rx_d0_request.specs.Known.{InsuranceTexts, GroupTexts, group_of}

-- what the groups ask
abbrev pub asked : Bool → InsuranceTexts → List (List ℕ) → List Transaction
asked is_billing common groups = map (λ group. transaction is_billing common (group_of group)) groups

no_reversal : (common : InsuranceTexts) (group : Option GroupTexts) → is_reversal (transaction true common group) ≡ false
unfolding billing
no_reversal common None = refl
no_reversal common (Some group) = elim (is_faulty (bill_conditions common group)) as
    (λ b. is_reversal (cond b (faulty (bill_conditions common group) group.claim) (Bill (bill_parts common group))) ≡ false)
    [ true ↦ refl | false ↦ refl ]

no_bill : (common : InsuranceTexts) (group : Option GroupTexts) → is_bill (transaction false common group) ≡ false
unfolding reversal
no_bill common None = refl
no_bill common (Some group) = elim (is_faulty (reversal_conditions group.claim)) as
    (λ b. is_bill (cond b (faulty (reversal_conditions group.claim) group.claim) (Reverse (reversal_parts group.claim))) ≡ false)
    [ true ↦ refl | false ↦ refl ]

no_reversals : (common : InsuranceTexts) (groups : List (List ℕ)) → list_any is_reversal (asked true common groups) ≡ false
no_reversals common [] = refl
no_reversals common (group ∷ groups) = rw (no_reversal common (group_of group), no_reversals common groups) refl

no_bills : (common : InsuranceTexts) (groups : List (List ℕ)) → list_any is_bill (asked false common groups) ≡ false
no_bills common [] = refl
no_bills common (group ∷ groups) = rw (no_bill common (group_of group), no_bills common groups) refl

-- one to four groups ask one to four transactions, never a billing with a reversal
pub are_asked : (is_billing : Bool) (common : InsuranceTexts) (groups : List (List ℕ)) → is_few (length groups) ≡ true
    → are_transactions (asked is_billing common groups) ≡ true
are_asked true common groups few =
    rw (
      length-map groups (λ group. transaction true common (group_of group)),
      few,
      no_reversals common groups,
      and-false (list_any is_bill (asked true common groups)),
    ) refl
are_asked false common groups few =
    rw (length-map groups (λ group. transaction false common (group_of group)), few, no_bills common groups) refl

-- the first two groups were read
pub asked_two : (is_billing : Bool) (common : InsuranceTexts) (groups rest left : List (List ℕ)) (head second : List ℕ)
    (none after : List Transaction) (a b : Transaction)
    → is_few (length groups) ≡ true → head ≡ first groups → rest ≡ further groups → rest ≡ second ∷ left
    → a ≡ transaction is_billing common (group_of head) → b ≡ transaction is_billing common (group_of second)
    → none ≡ [] → after ≡ none ++ a ∷ b ∷ []
    → after ++ asked is_billing common left ≡ asked is_billing common groups
asked_two is_billing common [] rest left head second none after a b few front behind next read_a read_b empty pushed = cc
asked_two is_billing common (group ∷ groups) rest left head second none after a b few front behind next read_a read_b empty pushed =
    let further_is : groups ≡ second ∷ left = sym behind ∙ next in
    rw (pushed, empty, read_a, read_b, front, further_is) refl
