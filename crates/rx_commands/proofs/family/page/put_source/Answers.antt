use Rattle.rx_commands.specs.FamilyPage.{sheet_text, source_text}
use Rattle.rx_print.proofs.Written.{six}
use Rattle.rx_report_text.specs.Origin.{file_text, term_text}
use Rattle.std.proofs.Common.{codes}
use Rattle.rx_commands.proofs.family.page.put_source.Goals as goal

pub returns : goal.returns
unfolding source_text
returns c =
    six c.args.page.now c.markup.new.self c.put_sheet.new.page c.put_file.new.page c.put_term.new.page
    c.put_term-2.new.page c.markup-2.new.self
    (codes "<dl class=\"origin\">\n")
    (sheet_text c.args.origin.now.sheet)
    (file_text (codes "Books") c.args.origin.now.books)
    (term_text (codes "Program") c.args.origin.now.program.now)
    (term_text (codes "Made") c.args.origin.now.made.now)
    (codes "</dl>\n")
    c.markup.ensures
    c.put_sheet.ensures
    c.put_file.ensures
    c.put_term.ensures
    c.put_term-2.ensures
    c.markup-2.ensures
