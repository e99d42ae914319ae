use Rattle.std.proofs.Common.{codes}
use Rattle.rx_print.specs.Escape.{escaped}
use Rattle.rx_print.specs.declared.style.Style.TheVariants.{Html}
use Rattle.rx_print.proofs.Written.{seven}
use Rattle.rx_report_text.proofs.origin.put_file.Goals as goal

pub returns : goal.returns
returns c =
    seven c.args.page.now c.markup.new.self c.markup-2.new.self c.markup-3.new.self c.put_text.new.page c.markup-4.new.self
    c.put_text-2.new.page c.markup-5.new.self
    (codes "<dt>")
    c.args.name.now
    (codes "</dt><dd>")
    (escaped Html c.args.file.now.path.now)
    (codes " <code>")
    (escaped Html c.args.file.now.sha256.now)
    (codes "</code></dd>\n")
    c.markup.ensures
    c.markup-2.ensures
    c.markup-3.ensures
    c.put_text.ensures
    c.markup-4.ensures
    c.put_text-2.ensures
    c.markup-5.ensures
