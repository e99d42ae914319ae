use Rattle.std.proofs.Common.{◌≡◌, ◌+◌, ◌++◌, Bool, List, ap, ◌∙◌, arith}
use Rattle.rx_d0_values.specs.declared.reply.Reply.{Reply}
use Rattle.rx_print.proofs.Written.{as_text}
use Rattle.rx_report.specs.declared.line.Line.{Line}
use Rattle.rx_commands.specs.Changes.{after, no_change}
use Rattle.rx_commands.specs.ComparedText.{lines_after}
use Rattle.rx_commands.specs.Differing.{Differing, differing_by, differing_in, entry_in}
use Rattle.rx_commands.proofs.ComparedLines.{counted_too, so_all, so_far, so_more, written}
use Rattle.rx_commands.proofs.comparing.lines.put_lines.Goals as goal

-- one more answer of either side
pub loop-at-preserved : goal.loop-at-preserved
loop-at-preserved c =
    let replies : List Reply = c.args.replies.now in
    let lines : List Line = c.args.lines.now in
    let others : List Reply = c.args.with_replies.now in
    let with_lines : List Line = c.args.with_lines.now in
    let at = c.loop-at.at in
    let l = c.index-lines-at.result in
    let m = c.index-with_lines-at.result in
    let before = so_far replies lines others with_lines at in
    let ds = differing_in (entry_in replies l) (entry_in others m) in
    let longer : so_far replies lines others with_lines (at + 1) ≡ before ++ ds =
    so_more replies lines others with_lines at l m (omega (arith, c.loop-at-test.true, c.min-at-end.ensures))
    c.index-lines-at.is c.index-with_lines-at.is in
    let old = c.args.page.now.bytes.items in
    let text = c.loop-at.page.bytes.items in
    let new = c.put_unless.new.page.bytes.items in
    let change = c.loop-at.change in
    let next = c.put_unless.new.change in
    let now_so_far = so_far replies lines others with_lines (at + 1) in
    record {
      lines = λ whole.
          let more = c.put_unless.ensures.lines whole in
          let so = c.loop-at.invariant.lines more.0 in (
            so.0,
            written c.args.form old text new before ds now_so_far change next c.loop-at.invariant.change longer so.1
                (more.1 ∙ ap (λ (b : Bool). text ++ lines_after c.args.form change.count (differing_by b l m)) c.are_one-is_one.ensures),
          );
      change = counted_too c.args.form old text new before ds now_so_far change next c.loop-at.invariant.change longer
          (c.put_unless.ensures.change ∙ ap (λ (b : Bool). after change (differing_by b l m)) c.are_one-is_one.ensures);
      within = omega (arith, c.put_unless.ensures.within, c.loop-at.invariant.within);
    }

-- at the end these are all
pub returns-clause-lines : goal.returns-clause-lines
returns-clause-lines c =
    let all = so_all c.args.replies.now c.args.lines.now c.args.with_replies.now c.args.with_lines.now c.loop-at.at
    (omega (arith, c.loop-at-test.false, c.min-at-end.ensures)) in
    as_text c.args.page.now c.loop-at.page (ap (λ (ds : List Differing). lines_after c.args.form 0 ds) all)
    c.loop-at.invariant.lines

pub returns-clause-change : goal.returns-clause-change
returns-clause-change c =
    let all = so_all c.args.replies.now c.args.lines.now c.args.with_replies.now c.args.with_lines.now c.loop-at.at
    (omega (arith, c.loop-at-test.false, c.min-at-end.ensures)) in
    c.loop-at.invariant.change ∙ ap (after no_change) all
