use Rattle.std.proofs.Common.{◌≡◌, true, false, sym, ◌∙◌}
use Rattle.rx_ledger.specs.TermList.{TermParts}
use Rattle.rx_ledger.proofs.Decided.{terms_decided}
use Rattle.rx_ledger.proofs.terms.TermsPartialEq.eq.Goals as goal
use Rattle.rx_ledger.proofs.terms.TermsPartialEq.eq.Goals.{then-eq, else-eq}

pub returns-then-eq-2 : goal.returns-then-eq-2
returns-then-eq-2 c =
    let a : TermParts = record
    { lot = c.self.inside.lot; figures = c.self.inside.figures; places = c.self.inside.places } in
    let b : TermParts = record
    { lot = c.other.inside.lot; figures = c.other.inside.figures; places = c.other.inside.places } in
    rw (← c.self.view_is, ← c.other.view_is) (elim c.if-eq.branch [
      | then-eq w ↦ terms_decided a b c.eq.result w.eq-then-eq.result c.eq-then-eq-2.result c.eq.ensures
          w.eq-then-eq.ensures c.eq-then-eq-2.ensures w.if-eq.true (sym w.value-is ∙ c.if-eq-2.true)
      | else-eq w ↦ absurd (let e : false ≡ true = sym w.if-eq.false ∙ sym w.value-is ∙ c.if-eq-2.true in cc)
    ])
