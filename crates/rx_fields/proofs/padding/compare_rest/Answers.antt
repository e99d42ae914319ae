-- Four bytes decide by their halves of a word, and where these are equal the rest does.
use Rattle.std.proofs.Common.{rules, drop, sym, ap, ◌∙◌, arith}
use Rattle.std.specs.Ordering.{nat_cmp, ordering_then}
use Rattle.std.specs.Cmp.Lexicographic.{slice_cmp}
use Rattle.rx_fields.proofs.WordLaws.{AreBytes, half_first, order_decided, order_tied}
use Rattle.rx_fields.proofs.padding.compare_rest.Goals as goal

pub returns : goal.returns
returns c =
    let front = c.in-Some.ensures.cases in
    let other = c.in-Some-split_first_chunk.ensures.cases in
    let left = c.args.left.now in
    let right = c.args.right.now in
    let left_bytes : AreBytes left = search rules in
    let right_bytes : AreBytes right = search rules in
    let first = half_first left right (omega (arith, front.2)) (omega (arith, other.2)) left_bytes right_bytes in
    let halves = rw (c.from_be_bytes.ensures, c.from_be_bytes-2.ensures, front.0, other.0) at c.cmp-order.ensures in
    let rest = slice_cmp nat_cmp (drop 4 left) (drop 4 right) in
    let tied = order_tied c.cmp-order.result (sym c.is_eq.ensures ∙ c.if-not-is_eq.false) in
    rw (front.1, other.1) at c.cmp-2.ensures ∙ sym (first ∙ ap (λ o. ordering_then o rest) (sym halves ∙ tied))

pub returns-then-not-is_eq : goal.returns-then-not-is_eq
returns-then-not-is_eq c =
    let front = c.in-Some.ensures.cases in
    let other = c.in-Some-split_first_chunk.ensures.cases in
    let left = c.args.left.now in
    let right = c.args.right.now in
    let left_bytes : AreBytes left = search rules in
    let right_bytes : AreBytes right = search rules in
    let first = half_first left right (omega (arith, front.2)) (omega (arith, other.2)) left_bytes right_bytes in
    let halves = rw (c.from_be_bytes.ensures, c.from_be_bytes-2.ensures, front.0, other.0) at c.cmp-order.ensures in
    let rest = slice_cmp nat_cmp (drop 4 left) (drop 4 right) in
    let untied = sym c.is_eq.ensures ∙ c.if-not-is_eq.true in
    sym (order_decided c.cmp-order.result rest untied) ∙ ap (λ o. ordering_then o rest) halves ∙ sym first
