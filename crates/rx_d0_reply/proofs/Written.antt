-- What is written keeps the limits.
use Rattle.std.proofs.Common.{ℕ, zero, suc, ◌≤◌, take, replicate, subst, arith}
use Rattle.std.specs.Prelude.{Result, Ok, Err, OnOk}
use Rattle.std.specs.List.{AllByRecursion}
use Rattle.std.proofs.lemmas.List.{take-replicate}
use Rattle.rx_d0_values.specs.declared.reply.Answer.{Answer}
use Rattle.rx_d0_reply.specs.Limits.{IsAnswer}

pub on_ok : {T E : Type 0} {P Q : Type 0} (result : Result T E) → (P → Q) → OnOk result P → OnOk result Q
on_ok (Ok x) f p = f p
on_ok (Err e) f p = p

first_of : (n : ℕ) (a : Answer) → 1 ≤ n → AllByRecursion IsAnswer (replicate n a) → IsAnswer a
first_of zero a some all = absurd (omega arith)
first_of (suc n) a some all = all.0

-- where some copies of an answer keep the limits, the answer does
pub one_of_them : (most count : ℕ) (a : Answer) → 1 ≤ count → count ≤ most
    → AllByRecursion IsAnswer (take count (replicate most a)) → IsAnswer a
one_of_them most count a some few all =
    first_of count a some (subst (AllByRecursion IsAnswer) (take-replicate count most a few) all)
