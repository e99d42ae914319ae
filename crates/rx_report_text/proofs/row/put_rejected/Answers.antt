use Rattle.std.proofs.Common.{codes}
use Rattle.std.specs.List.{flat_map}
use Rattle.rx_report_text.specs.Rows.{code_words}
use Rattle.rx_print.proofs.Written.{two}
use Rattle.rx_report_text.proofs.row.put_rejected.Goals as goal

pub returns : goal.returns
returns c =
    two c.args.page.now c.markup.new.self c.put_codes.new.page
    (codes "rejected")
    (flat_map code_words c.args.listed.now)
    c.markup.ensures
    c.put_codes.ensures
