-- Whether two books are one.
use Rattle.std.proofs.Common.{◌≡◌, Bool, true, false, Decides, sym, ◌∙◌}
use Rattle.std.proofs.lemmas.Bool.Decides.{Decides-at, Decides-like}

-- both tests, the second made only where the first holds
pub both_hold : {P Q : Type 0} (a b v : Bool) → Decides a P → a ≡ true → Decides b Q → v ≡ b → Decides v (P × Q)
both_hold {P} {Q} a b v first holds second is =
    Decides-like v (λ q. (first.0 holds, q)) (λ pq. pq.1) (Decides-at v b is second)

pub first_fails : {P Q : Type 0} (a v : Bool) → Decides a P → a ≡ false → v ≡ a → Decides v (P × Q)
first_fails {P} {Q} a v first fails is = (
  λ t. absurd (let e : false ≡ true = sym fails ∙ sym is ∙ t in cc),
  λ pq. absurd (let e : false ≡ true = sym fails ∙ first.1 pq.0 in cc),
)
