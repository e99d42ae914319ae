-- A reversal is read step by step: its two numbers, the label of what is taken back, and that.
use Rattle.std.proofs.Common.{◌≡◌, ◌∙◌, ℕ, List, [], ◌++◌, Option, Some, None, refl, ap, codes}
use Rattle.rx_text.specs.Options.{◌>>=◌}
use Rattle.rx_d0_values.specs.declared.reply.Approved.{Approved}
use Rattle.rx_d0_reply.specs.Text.{field, segment}
use Rattle.rx_d0_reply.specs.Readers.{after, pair}
use Rattle.rx_d0_reply.specs.Reading.{approved_at, authorization_at, numbers_at, reference_at, reversed_at}
use Rattle.rx_d0_reply.proofs.Laws.{after_both}

-- the fronts of segment 23, and of what is taken back
abbrev front : List ℕ
front = segment (codes "23") []

abbrev label : List ℕ
label = field (codes "F9") []

abbrev pub approval : ℕ × ℕ → ℕ → Approved
approval numbers total = record { number = numbers.0; reference = numbers.1; total_paid = total }

abbrev pub behind_numbers : (ℕ × ℕ) × List ℕ → Option (Approved × List ℕ)
behind_numbers x = after (field (codes "F9") []) x.1 >>= λ rest. reversed_at rest >>= λ y. Some (approval x.0 y.0, y.1)

-- what is made of a reversal's parts, in the order of the definition
abbrev parts : ℕ × ℕ → Option (ℕ × List ℕ) → Option (((ℕ × ℕ) × ℕ) × List ℕ)
parts numbers total = total >>= λ y. Some ((numbers, y.0), y.1)

abbrev made_of : Option (((ℕ × ℕ) × ℕ) × List ℕ) → Option (Approved × List ℕ)
made_of o = o >>= λ x. Some (approval x.0.0 x.0.1) >>= λ a. Some (a, x.1)

of_total : (numbers : ℕ × ℕ) (o : Option (ℕ × List ℕ))
    → made_of (parts numbers o) ≡ (o >>= λ y. Some (approval numbers y.0, y.1))
of_total numbers None = refl
of_total numbers (Some y) = refl

of_label : (numbers : ℕ × ℕ) (o : Option (List ℕ))
    → made_of (parts numbers (o >>= reversed_at))
    ≡ (o >>= λ rest. reversed_at rest >>= λ y. Some (approval numbers y.0, y.1))
of_label numbers None = refl
of_label numbers (Some rest) = of_total numbers (reversed_at rest)

of_front : (numbers : ℕ × ℕ) (o : Option (List ℕ))
    → made_of (parts numbers (o >>= after label >>= reversed_at))
    ≡ ((o >>= λ rest. Some (numbers, rest)) >>= behind_numbers)
of_front numbers None = refl
of_front numbers (Some rest) = of_label numbers (after label rest)

of_numbers : (o : Option ((ℕ × ℕ) × List ℕ))
    → made_of (o >>= λ x. parts x.0 (after (front ++ label) x.1 >>= reversed_at))
    ≡ ((o >>= λ x. after front x.1 >>= λ rest. Some (x.0, rest)) >>= behind_numbers)
of_numbers None = refl
of_numbers (Some x) =
    ap (λ (o : Option (List ℕ)). made_of (parts x.0 (o >>= reversed_at))) (after_both front label x.1)
    ∙ of_front x.0 (after front x.1)

pub approved_steps : (bs : List ℕ) → approved_at bs ≡ (numbers_at bs >>= behind_numbers)
unfolding approved_at
approved_steps bs = of_numbers (pair authorization_at reference_at bs)
