-- The place after this many records is the first of its shard's later ones, and of no other shard.
use Rattle.std.proofs.Common.{◌≡◌, ℕ, zero, suc, ◌+◌, ◌-◌, ◌<◌, ◌≤◌, List, ◌∷◌, get_or, length, sym, ap, ◌∙◌, arith}
use Rattle.std.proofs.lemmas.Bool.{eq-eqb, eqb-true, false_from_ne_true}
use Rattle.rx_schedule.specs.Shards.{is_of}
use Rattle.rx_schedule.specs.Waves.{number_in}
use Rattle.rx_wave.proofs.Coming.{later, later_chosen, later_other}

-- the number of a place is that before it in the list, which is counted from 0
pub number_before : (numbers : List ℕ) (i : ℕ) → 1 ≤ i → number_in numbers i ≡ get_or numbers (i - 1) 0
number_before numbers zero one = absurd (omega arith)
number_before numbers (suc i) one = let e : i ≡ suc i - 1 = omega arith in ap (λ n. get_or numbers n 0) e

module _ (numbers : List ℕ) (at : ℕ) (within : at < length numbers) where
  number_is : number_in numbers (at + 1) ≡ get_or numbers at 0
  number_is = let e : at + 1 ≡ suc at = omega arith in ap (number_in numbers) e

  pub next_is : later (is_of (number_in numbers) (get_or numbers at 0)) at (length numbers)
      ≡ (at + 1) ∷ later (is_of (number_in numbers) (get_or numbers at 0)) (at + 1) (length numbers)
  next_is = later_chosen (is_of (number_in numbers) (get_or numbers at 0)) at (length numbers) within
      (eq-eqb (number_in numbers (at + 1)) (get_or numbers at 0) number_is)

  pub next_stays : (k : ℕ) → ¬ (get_or numbers at 0 ≡ k)
      → later (is_of (number_in numbers) k) at (length numbers) ≡ later (is_of (number_in numbers) k) (at + 1) (length numbers)
  next_stays k other = later_other (is_of (number_in numbers) k) at (length numbers) within
      (false_from_ne_true (is_of (number_in numbers) k (at + 1))
      (λ is. other (sym number_is ∙ eqb-true (number_in numbers (at + 1)) k is)))
