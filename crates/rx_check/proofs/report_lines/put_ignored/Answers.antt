use Rattle.std.proofs.Common.{◌≡◌, ap, ◌∙◌, get_or, string_bytes}
use Rattle.rx_check.proofs.Reports.{ignored_more}
use Rattle.rx_check.proofs.report_lines.put_ignored.Goals as goal

pub loop-said-preserved : goal.loop-said-preserved
loop-said-preserved c =
    let sheet = c.args.sheet.now in
    let key = c.said-item.result in
    let said : c.as_str.result.now ≡ string_bytes (get_or c.args.ignored.now c.loop-said.said-index key) =
    c.as_str.ensures.value ∙ ap string_bytes c.said-item.is in
    rw said at c.in_ok-put_warning.ensures
    ∙ ignored_more sheet c.args.ignored.now c.loop-said.said-index key _ _ c.loop-said-test.true c.loop-said.invariant
