use Rattle.std.proofs.Common.{codes, ◌∷◌, []}
use Rattle.std.specs.List.{flat_map}
use Rattle.rx_print.proofs.Written.{six}
use Rattle.rx_print.specs.Escape.{escaped}
use Rattle.rx_print.specs.declared.style.Style.TheVariants.{Terminal}
use Rattle.rx_settle.specs.Providers.{named}
use Rattle.rx_report_text.specs.Columns.{headings, line_row, section_text, tally_line}
use Rattle.rx_report_text.proofs.columns.put_section.Goals as goal

pub returns : goal.returns
unfolding section_text
returns c =
    let s = c.args.section.now in
    six c.args.page.now c.put.new.self c.put_provider.new.page c.put_tally.new.page c.put_headings.new.page
    c.put_lines.new.page c.put-2.new.self
    (codes "provider ")
    (escaped Terminal (named s.provider))
    (tally_line s.tally)
    (headings c.args.columns.now)
    (flat_map (line_row c.args.columns.now) s.lines.now)
    (10 ∷ [])
    c.put.ensures
    c.put_provider.ensures
    c.put_tally.ensures
    c.put_headings.ensures
    c.put_lines.ensures
    c.put-2.ensures
