use Rattle.std.proofs.Common.{codes}
use Rattle.rx_print.proofs.Written.{three}
use Rattle.rx_report_text.proofs.rejects.put_headings.Goals as goal

pub returns : goal.returns
returns c =
    three c.args.page.now c.markup.new.self c.markup-2.new.self c.markup-3.new.self
    (codes "<table class=\"rejects\">\n<caption>Why rejected: the answers with each reject code; an answer can have several</caption>\n")
    (codes "<thead><tr><th scope=\"col\">Code</th><th scope=\"col\">Meaning</th><th scope=\"col\">Answers</th>")
    (codes "<th scope=\"col\">Records</th></tr></thead>\n<tbody>\n")
    c.markup.ensures
    c.markup-2.ensures
    c.markup-3.ensures
