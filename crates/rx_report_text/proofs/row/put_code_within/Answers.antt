use Rattle.rx_explain_text.specs.Words.{name_of}
use Rattle.rx_fields.specs.Codes.{code_text}
use Rattle.rx_print.proofs.Written.{as_text, five}
use Rattle.rx_report_text.proofs.row.put_code_within.Goals as goal

pub returns : goal.returns
returns c =
    five c.args.page.now c.markup.new.self c.put.new.self c.markup-2.new.self c.markup-3.new.self c.markup-4.new.self
    c.args.front.now
    (code_text c.args.code)
    c.args.between.now
    (name_of c.args.code)
    c.args.end.now
    c.markup.ensures
    (as_text c.markup.new.self c.put.new.self c.text-text.ensures.text c.put.ensures)
    c.markup-2.ensures
    (as_text c.markup-2.new.self c.markup-3.new.self c.name.ensures c.markup-3.ensures)
    c.markup-4.ensures
