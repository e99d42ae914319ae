-- The order of the rests is that of the texts.
use Rattle.std.proofs.Common.{◌≡◌, length}
use Rattle.std.specs.Ordering.{nat_cmp}
use Rattle.std.specs.Cmp.Lexicographic.{slice_cmp}
use Rattle.rx_fields.proofs.WordLaws.{AreBytes}
use Rattle.rx_fields.proofs.padding.compare.Given as goal

abbrev pub invariant-loop-word : goal.invariant-loop-word
invariant-loop-word l = record {
  long : length l.left ≡ length l.right;
  left_bytes : AreBytes l.left;
  right_bytes : AreBytes l.right;
  same : slice_cmp nat_cmp l.left l.right ≡ slice_cmp nat_cmp l.first l.second;
}

abbrev pub decreases-loop-word : goal.decreases-loop-word
decreases-loop-word l = length l.left
