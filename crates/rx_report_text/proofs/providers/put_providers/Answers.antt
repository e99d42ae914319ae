use Rattle.std.specs.List.{enumerate_from}
use Rattle.rx_report_text.specs.Providers.{class_text, headings_text, longest, rows_text, table_text, total_text}
use Rattle.rx_print.proofs.Written.{as_text, four}
use Rattle.rx_report_text.proofs.providers.put_providers.Goals as goal

pub returns : goal.returns
unfolding table_text
returns c =
    four c.args.page.now c.markup.new.self c.put_headings.new.page c.put_rows.new.page c.put_total.new.page
    (class_text c.args.sections.now)
    (headings_text c.args.layout)
    (rows_text c.args.layout (longest c.args.sections.now) (enumerate_from 0 c.args.sections.now))
    (total_text c.args.layout c.args.portion c.args.total.now)
    (as_text c.args.page.now c.markup.new.self c.class_text.ensures c.markup.ensures)
    c.put_headings.ensures
    c.put_rows.ensures
    c.put_total.ensures
