use Rattle.std.proofs.Common.{ap}
use Rattle.std.specs.List.{flat_map}
use Rattle.rx_print.proofs.Written.{as_text, three}
use Rattle.rx_report_text.specs.Columns.{account_text, scope_text, section_text, tally_line}
use Rattle.rx_report_text.proofs.columns.put_account.Goals as goal

pub returns : goal.returns
unfolding account_text
returns c =
    three c.args.page.now c.put_sections.new.page c.put_scope.new.page c.put_tally.new.page
    (flat_map (section_text c.args.columns.now) c.args.account.now.sections.items)
    (scope_text c.args.portion)
    (tally_line c.args.account.now.total)
    (as_text c.args.page.now c.put_sections.new.page
    (ap (flat_map (section_text c.args.columns.now)) c.deref.ensures.value) c.put_sections.ensures)
    c.put_scope.ensures
    c.put_tally.ensures
