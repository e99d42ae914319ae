use Rattle.std.proofs.Common.{◌≡◌, ◌+◌, ◌∷◌, List, ℕ, take, true≢false, sym, ap, ◌∙◌, arith, w64}
use Rattle.std.specs.Int.{trailing_zeros}
use Rattle.std.proofs.lemmas.List.{length-take}
use Rattle.rx_text.specs.Bytes.{cut}
use Rattle.rx_d0_request.specs.Cut.{further}
use Rattle.rx_d0_request.specs.Slots.{pieces_left}
use Rattle.rx_d0_request.proofs.Bits.{left_marks, left_first, marks_behind, marks_at_first}
use Rattle.rx_d0_request.proofs.Cuts.{cut_none, cut_at, to_end}
use Rattle.rx_d0_request.proofs.piece.Pieces.next.Goals as goal

pub slice_bounds-self-count : goal.slice_bounds-self-count
slice_bounds-self-count c =
    let p = c.self.inside in
    let first = left_first p.separator p.marks p.seen p.rest c.in_ok-text.text c.self.invariant c.in_ok-text.was c.if-self-ne0.true in
    let marks = left_marks p.separator p.marks p.seen p.rest c.in_ok-text.text c.self.invariant c.in_ok-text.was in
    omega (arith, first.below, marks.within)

pub slice_bounds-self-start : goal.slice_bounds-self-start
slice_bounds-self-start c =
    let p = c.self.inside in
    let first = left_first p.separator p.marks p.seen p.rest c.in_ok-text.text c.self.invariant c.in_ok-text.was c.if-self-ne0.true in
    let marks = left_marks p.separator p.marks p.seen p.rest c.in_ok-text.text c.self.invariant c.in_ok-text.was in
    omega (arith, first.below, marks.within)

pub slice_bounds-result-end : goal.slice_bounds-result-end
slice_bounds-result-end c =
    let p = c.self.inside in
    let first = left_first p.separator p.marks p.seen p.rest c.in_ok-text.text c.self.invariant c.in_ok-text.was c.if-self-ne0.true in
    let marks = left_marks p.separator p.marks p.seen p.rest c.in_ok-text.text c.self.invariant c.in_ok-text.was in
    omega (arith, first.below, marks.within, length-take (trailing_zeros w64 p.marks) c.in_ok-text.text.now)

pub overflow_sub-self : goal.overflow_sub-self
overflow_sub-self c =
    let p = c.self.inside in
    let first = left_first p.separator p.marks p.seen p.rest c.in_ok-text.text c.self.invariant c.in_ok-text.was c.if-self-ne0.true in
    omega (arith, first.below)

pub invariant_of-self : goal.invariant_of-self
invariant_of-self c =
    let p = c.self.inside in
    let text = c.in_ok-text.text.now in
    let at = trailing_zeros w64 p.marks in
    let first = left_first p.separator p.marks p.seen p.rest c.in_ok-text.text c.self.invariant c.in_ok-text.was c.if-self-ne0.true in
    let marks = left_marks p.separator p.marks p.seen p.rest c.in_ok-text.text c.self.invariant c.in_ok-text.was in
    rw (to_end (at + 1) text) (marks_behind p.separator p.marks p.seen at text marks first.below)

pub invariant_of-self-in-Some : goal.invariant_of-self-in-Some
invariant_of-self-in-Some c =
    rw c.min-self-inside.ensures (marks_at_first c.self.inside.separator c.first_marks-self-inside.result _
    c.first_marks-self-inside.ensures)

pub returns-then-self-ne0-clause-value : goal.returns-then-self-ne0-clause-value
returns-then-self-ne0-clause-value c =
    let p = c.self.inside in
    let text = c.in_ok-text.text.now in
    let at = trailing_zeros w64 p.marks in
    let mark = left_first p.separator p.marks p.seen p.rest c.in_ok-text.text c.self.invariant c.in_ok-text.was c.if-self-ne0.true in
    let marks = left_marks p.separator p.marks p.seen p.rest c.in_ok-text.text c.self.invariant c.in_ok-text.was in
    let left : pieces_left p.separator p.rest ≡ cut p.separator text = ap (pieces_left p.separator) c.in_ok-text.was in
    let first = cut_at p.separator text at (omega (arith, mark.below, marks.within))
    (λ k low below is. true≢false (sym is ∙ mark.none k below)) mark.here in
    let slice = ap (λ (rest : List ℕ). take at text ∷ cut p.separator rest) (sym (to_end (at + 1) text)) in
    sym c.self.view_is ∙ (left ∙ (first ∙ slice))

pub returns-then-self-ne0-clause-rest : goal.returns-then-self-ne0-clause-rest
returns-then-self-ne0-clause-rest c = ap further (sym (returns-then-self-ne0-clause-value c))

pub returns-in-Some-clause-value : goal.returns-in-Some-clause-value
returns-in-Some-clause-value c =
    let separator = c.self.inside.separator in
    let bytes = c.in_ok-text.text.now in
    let at = c.in-Some.at in
    let left : pieces_left separator c.self.inside.rest ≡ cut separator bytes = ap (pieces_left separator) c.in_ok-text.was in
    let first = cut_at separator bytes at c.in-Some.ensures.0.high c.in-Some.ensures.0.before c.in-Some.ensures.1 in
    let slice = ap (λ (rest : List ℕ). take at bytes ∷ cut separator rest) (sym (to_end (at + 1) bytes)) in
    sym c.self.view_is ∙ (left ∙ (first ∙ slice))

pub returns-in-None-clause-value : goal.returns-in-None-clause-value
returns-in-None-clause-value c =
    let separator = c.self.inside.separator in
    let bytes = c.in_ok-text.text.now in
    let left : pieces_left separator c.self.inside.rest ≡ cut separator bytes = ap (pieces_left separator) c.in_ok-text.was in
    sym c.self.view_is ∙ (left ∙ cut_none separator bytes c.in-None.ensures)

pub returns-in-Some-clause-rest : goal.returns-in-Some-clause-rest
returns-in-Some-clause-rest c = ap further (sym (returns-in-Some-clause-value c))

pub returns-in-None-clause-rest : goal.returns-in-None-clause-rest
returns-in-None-clause-rest c = ap further (sym (returns-in-None-clause-value c))
