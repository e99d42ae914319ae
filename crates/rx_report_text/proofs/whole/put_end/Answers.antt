use Rattle.std.proofs.Common.{codes}
use Rattle.rx_report_text.specs.declared.script.TheConstants.{SCRIPT}
use Rattle.rx_print.proofs.Written.{three}
use Rattle.rx_report_text.proofs.whole.put_end.Goals as goal

pub returns : goal.returns
returns c =
    three c.args.page.now c.markup.new.self c.markup-2.new.self c.markup-3.new.self
    (codes "<script>")
    SCRIPT.now
    (codes "</script>\n</body>\n</html>\n")
    c.markup.ensures
    c.markup-2.ensures
    c.markup-3.ensures
