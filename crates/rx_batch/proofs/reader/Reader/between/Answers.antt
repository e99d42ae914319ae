use Rattle.std.proofs.Common.{◌≡◌, ◌<◌, ◌∙◌, sym, false, length, get_or}
use Rattle.rx_batch.specs.Reading.{begins}
use Rattle.rx_batch.proofs.Steps.{gap_passed, gap_ended, stray_passed, begun_passed, filled, early_whole, early_other}
use Rattle.rx_batch.proofs.reader.Reader.between.Goals as goal
use Rattle.rx_batch.proofs.reader.Reader.between.Goals.{then-is_whole-via-then-is_whole, then-is_whole-via-else-is_whole+then-rest-ne-STX}

pub returns-then-is_empty-clause-ok : goal.returns-then-is_empty-clause-ok
returns-then-is_empty-clause-ok c text h =
    rw c.requires.none
    (gap_passed c.args.self.now c.pass.new.self text c.args.bytes.now c.split_at.result.1.now c.line_ends-gap.result
    c.requires.none c.line_ends-gap.ensures.value c.in_ok-pass.ensures c.split_at.ensures.back h)

pub returns-then-is_whole-clause-err : goal.returns-then-is_whole-clause-err
returns-then-is_whole-clause-err c text h =
    let rest = c.split_at.result.1.now in
    let some : 0 < length rest = filled (length rest) c.is_empty.result c.is_empty.ensures c.if-is_empty.false in
    let early : begins c.pass.new.self (get_or rest 0 0) ≡ false = elim c.then-is_whole.branch [
      | then-is_whole-via-then-is_whole w ↦ early_whole c.pass.new.self (get_or rest 0 0) c.is_whole.result
          c.is_whole.ensures w.if-is_whole.true
      | then-is_whole-via-else-is_whole+then-rest-ne-STX w ↦ early_other c.pass.new.self (get_or rest 0 0) w.if-rest-ne-STX.true
    ] in
    rw c.stray.ensures
    (stray_passed c.pass.new.self text rest some
    (gap_ended c.args.bytes.now rest c.line_ends-gap.result c.line_ends-gap.ensures.value c.split_at.ensures.back some) early
    (gap_passed c.args.self.now c.pass.new.self text c.args.bytes.now rest c.line_ends-gap.result c.requires.none
    c.line_ends-gap.ensures.value c.in_ok-pass.ensures c.split_at.ensures.back h))

pub returns-clause-ok : goal.returns-clause-ok
returns-clause-ok c text h =
    let rest = c.split_at.result.1.now in
    let some : 0 < length rest = filled (length rest) c.is_empty.result c.is_empty.ensures c.if-is_empty.false in
    rw (c.new-2.ensures ∙ c.new.ensures.items)
    (begun_passed c.pass.new.self text rest some c.if-rest-ne-STX.false (sym c.is_whole.ensures ∙ c.if-is_whole.false)
    (gap_passed c.args.self.now c.pass.new.self text c.args.bytes.now rest c.line_ends-gap.result c.requires.none
    c.line_ends-gap.ensures.value c.in_ok-pass.ensures c.split_at.ensures.back h))
