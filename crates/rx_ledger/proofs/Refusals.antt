-- When a call is refused with an error: exactly where a test holds.
use Rattle.std.proofs.Common.{◌≡◌, Bool, true, false, Result, Ok, Err, IsErrOf, OnOk, OnErr, sym, ap, ◌∙◌}
use Rattle.std.specs.Prelude.{◌↔◌}
use Rattle.rx_sorted.specs.InsertError.{is_there}
use Rattle.rx_sorted.specs.declared.list.InsertError.{InsertError}
use Rattle.rx_sorted.specs.declared.list.InsertError.TheVariants.{There}

module _ {T E : Type 0} (r : Result T E) (e : E) where
  -- what didn't come, and isn't called for
  pub not_refused : (P : Type 0) → (IsErrOf r e → ⊥) → (P → ⊥) → IsErrOf r e ↔ P
  not_refused P other uncalled = (λ h. absurd (other h), λ p. absurd (uncalled p))

  -- what came, and is called for
  pub refused_so : (P : Type 0) → IsErrOf r e → P → IsErrOf r e ↔ P
  refused_so P is p = (λ _. p, λ _. is)

-- a test that failed doesn't hold
pub fails : (b : Bool) → b ≡ false → b ≡ true → ⊥
fails b f t = let e : false ≡ true = sym f ∙ t in cc

pub holds : (b : Bool) → b ≡ true → b ≡ false → ⊥
holds b t f = fails b f t

-- an insert at a free key isn't refused for its key
pub free_is_not_there : {T X : Type 0} (r : Result T (InsertError X)) (refused : InsertError X) (x : X) (b : Bool)
    → is_there r ≡ b → b ≡ false → r ≡ Err refused → refused ≡ There x → ⊥
free_is_not_there r refused x b tells free is there = let e : true ≡ false =
    sym (ap is_there (is ∙ ap Err there)) ∙ tells ∙ free in cc

-- what holds of a list that is as it was after a refusal
pub either_way : {T E X : Type 0} (r : Result T E) (new changed old : X) (P : X → Type 0) → OnOk r (new ≡ changed)
    → OnErr r (new ≡ old) → P changed → P old → P new
either_way (Ok t) new changed old P ok err after before = rw ok after
either_way (Err e) new changed old P ok err after before = rw err before
