-- Eight bytes decide by their words, and where these are equal the rest does.
use Rattle.std.proofs.Common.{drop, sym, ap, ◌∙◌, arith}
use Rattle.std.specs.Ordering.{nat_cmp, ordering_then}
use Rattle.std.specs.Cmp.Lexicographic.{slice_cmp}
use Rattle.rx_fields.proofs.WordLaws.{AreBytes-drop, order_decided, order_tied, word_first}
use Rattle.rx_fields.proofs.padding.compare.Goals as goal

pub loop-word-preserved : goal.loop-word-preserved
loop-word-preserved c =
    let front = c.in-Some.ensures.cases in
    let other = c.in-Some-split_first_chunk.ensures.cases in
    let left = c.loop-word.left.now in
    let right = c.loop-word.right.now in
    let kept = c.loop-word.invariant in
    let first = word_first left right (omega (arith, front.2)) (omega (arith, other.2)) kept.left_bytes
    kept.right_bytes in
    let words = rw (c.from_be_bytes.ensures, c.from_be_bytes-in-Some.ensures, front.0, other.0) at
    c.cmp-order.ensures in
    let rest = slice_cmp nat_cmp (drop 8 left) (drop 8 right) in
    let tied = order_tied c.cmp-order.result (sym c.is_eq.ensures ∙ c.if-not-is_eq.false) in
    record {
      long = omega (arith, front.2, other.2, kept.long);
      left_bytes = rw front.1 (AreBytes-drop 8 left kept.left_bytes);
      right_bytes = rw other.1 (AreBytes-drop 8 right kept.right_bytes);
      same = rw (front.1, other.1) (sym (first ∙ ap (λ o. ordering_then o rest) (sym words ∙ tied)) ∙ kept.same);
    }

pub returns-then-not-is_eq : goal.returns-then-not-is_eq
returns-then-not-is_eq c =
    let front = c.in-Some.ensures.cases in
    let other = c.in-Some-split_first_chunk.ensures.cases in
    let left = c.loop-word.left.now in
    let right = c.loop-word.right.now in
    let kept = c.loop-word.invariant in
    let first = word_first left right (omega (arith, front.2)) (omega (arith, other.2)) kept.left_bytes
    kept.right_bytes in
    let words = rw (c.from_be_bytes.ensures, c.from_be_bytes-in-Some.ensures, front.0, other.0) at
    c.cmp-order.ensures in
    let rest = slice_cmp nat_cmp (drop 8 left) (drop 8 right) in
    let untied = sym c.is_eq.ensures ∙ c.if-not-is_eq.true in
    sym (order_decided c.cmp-order.result rest untied) ∙ ap (λ o. ordering_then o rest) words ∙ sym first ∙ kept.same
