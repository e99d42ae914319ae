-- The texts are the same where the bytes passed are and the rest is.
use Rattle.std.proofs.Common.{◌≡◌, length}
use Rattle.std.specs.Prelude.{◌&&◌, nat_eq}
use Rattle.std.specs.Cmp.Lexicographic.{pointwise}
use Rattle.rx_commands.proofs.difference.are_same.Given as goal

abbrev pub invariant-loop-one : goal.invariant-loop-one
invariant-loop-one l = record {
  same : (l.same && pointwise nat_eq l.one-iterator.a.rest.now l.one-iterator.b.rest.now) ≡ pointwise nat_eq l.ours l.theirs;
  long : length l.one-iterator.a.rest.now ≡ length l.one-iterator.b.rest.now;
}
