-- One more block is the same.
use Rattle.std.proofs.Common.{◌≡◌, ◌+◌, ◌-◌, ◌++◌, ◌∙◌, ℕ, List, take, take-add, slice_range, sym, ap, arith}
use Rattle.std.proofs.lemmas.Bool.Decides.{Decides-eqb}
use Rattle.std.proofs.lemmas.Slice.Eq.{slice_eq-Decides}
use Rattle.rx_commands.proofs.difference.same_blocks.Goals as goal

pub loop-at-preserved : goal.loop-at-preserved
loop-at-preserved c =
    let at = c.loop-at.at in
    let ours = c.args.ours.now in
    let theirs = c.args.theirs.now in
    let block : List ℕ → List ℕ = λ xs. slice_range xs at (at + 64) in
    let same : block ours ≡ block theirs =
    (slice_eq-Decides Decides-eqb (block ours) (block theirs) c.are_same.result c.are_same.ensures).0 c.if-are_same.true in
    let longer : at + 64 ≡ at + (at + 64 - at) = omega arith in
    let parts : (xs : List ℕ) → take (at + 64) xs ≡ take at xs ++ block xs = λ xs. ap (λ n. take n xs) longer ∙ take-add at _ xs in
    record {
      ours = omega arith;
      theirs = omega arith;
      same = parts ours ∙ ap (λ xs. xs ++ block ours) c.loop-at.invariant.same ∙ ap (λ xs. take at theirs ++ xs) same
          ∙ sym (parts theirs);
    }
