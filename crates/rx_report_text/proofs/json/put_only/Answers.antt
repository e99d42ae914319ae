use Rattle.std.proofs.Common.{◌∷◌, []}
use Rattle.rx_print.proofs.Written.{three}
use Rattle.rx_report.specs.Texts.{quoted}
use Rattle.rx_report_text.proofs.json.put_only.Goals as goal

pub returns : goal.returns
returns c =
    three c.args.page.now c.put.new.self c.put_quoted.new.page c.put-2.new.self
    c.args.name.now
    (quoted c.args.id.now)
    (44 ∷ [])
    c.put.ensures
    c.put_quoted.ensures
    c.put-2.ensures
