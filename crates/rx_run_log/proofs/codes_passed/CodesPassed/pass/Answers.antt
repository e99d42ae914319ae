-- The bytes up to a B pass, and the B with the two after it.
use Rattle.std.proofs.Common.{◌++◌, ap, sym, ◌∙◌}
use Rattle.rx_run_log.specs.CodesPassed.{codes_in, last_five}
use Rattle.rx_run_log.proofs.Codes.{passed_on}
use Rattle.rx_run_log.proofs.codes_passed.CodesPassed.pass.Goals as goal

pub loop-at-preserved : goal.loop-at-preserved
loop-at-preserved c =
    let kept = c.loop-at.invariant in
    let old = c.loop-at.self in
    let between = c.pass_plain.new.self in
    let new = c.pass_each.new.self in
    let marked = c.split_at.result.1.now in
    let after = c.split_at-in-Some.result.1.now in
    let to_mark = c.split_at.ensures.by_index.0 in
    let parts = c.split_at-in-Some.ensures.by_index.0 in
    let one = passed_on old.five between.five old.codes.items between.codes.items c.split_at.result.0.now marked
    c.in_ok-pass_plain.ensures.0 c.in_ok-pass_plain.ensures.1 in
    let other = passed_on between.five new.five between.codes.items new.codes.items c.split_at-in-Some.result.0.now after
    c.in_ok-pass_each.ensures.0 c.in_ok-pass_each.ensures.1 in
    record {
      five = other.0 ∙ ap (last_five between.five) (sym parts) ∙ one.0 ∙ ap (last_five old.five) (sym to_mark) ∙ kept.five;
      codes = other.1 ∙ ap (λ l. between.codes.items ++ codes_in between.five l) (sym parts)
          ∙ one.1 ∙ ap (λ l. old.codes.items ++ codes_in old.five l) (sym to_mark) ∙ kept.codes;
    }
