use Rattle.std.proofs.Common.{ap, codes}
use Rattle.std.specs.List.{flat_map}
use Rattle.rx_fields.specs.Codes.{all_codes}
use Rattle.rx_report_text.specs.Rejects.{code_row, rejects_front, rejects_text}
use Rattle.rx_print.proofs.Written.{as_text, three}
use Rattle.rx_report_text.proofs.rejects.put_rejects.Goals as goal

pub returns : goal.returns
unfolding rejects_text
returns c =
    three c.args.page.now c.put_headings.new.page c.put_each_code.new.page c.markup.new.self
    rejects_front
    (flat_map (code_row c.args.unfolds c.args.sections.now) all_codes)
    (codes "</tbody>\n</table>\n")
    c.put_headings.ensures
    (as_text c.put_headings.new.page c.put_each_code.new.page
    (ap (flat_map (code_row c.args.unfolds c.args.sections.now)) c.all_codes.ensures) c.put_each_code.ensures)
    c.markup.ensures
