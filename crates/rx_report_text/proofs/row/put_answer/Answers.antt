use Rattle.std.proofs.Common.{codes}
use Rattle.rx_report_text.specs.Rows.{answer_words}
use Rattle.rx_print.proofs.Written.{three}
use Rattle.rx_report_text.proofs.row.put_answer.Goals as goal

pub returns : goal.returns
returns c =
    three c.args.page.now c.markup.new.self c.put_answer_words.new.page c.markup-2.new.self
    (codes "<td class=\"answer\">")
    (answer_words c.args.answer.now)
    (codes "</td>")
    c.markup.ensures
    c.put_answer_words.ensures
    c.markup-2.ensures
