use Rattle.std.proofs.Common.{codes}
use Rattle.std.specs.List.{flat_map}
use Rattle.rx_report_text.specs.Rows.{row_columns, title_cell, titles_text}
use Rattle.rx_print.proofs.Written.{four}
use Rattle.rx_report_text.proofs.row.put_titles.Goals as goal

pub returns : goal.returns
unfolding titles_text
returns c =
    four c.args.page.now c.markup.new.self c.markup-2.new.self c.put_each_title.new.page c.markup-3.new.self
    (codes "<table class=\"claims\">\n<caption>Claims in file order; amounts in dollars</caption>\n<thead><tr>")
    (codes "<th scope=\"col\">Record</th><th scope=\"col\">Answer</th>")
    (flat_map title_cell row_columns)
    (codes "</tr></thead>\n")
    c.markup.ensures
    c.markup-2.ensures
    c.put_each_title.ensures
    c.markup-3.ensures
