use Rattle.std.proofs.Common.{◌∷◌, [], codes}
use Rattle.std.specs.Fmt.{signed_decimal}
use Rattle.rx_print.proofs.Written.{six}
use Rattle.rx_report.specs.Texts.{lot_json}
use Rattle.rx_commands.specs.Changes.{cents_of}
use Rattle.rx_commands.specs.ComparedText.{json_end, nets_json}
use Rattle.rx_commands.proofs.comparing.objects.put_end.Goals as goal

pub returns : goal.returns
unfolding json_end
returns c =
    six c.args.page.now c.put_nets.new.page c.put.new.self c.put_difference.new.page c.put-2.new.self c.put_lot.new.page
    c.put-3.new.self
    (nets_json c.args.given.now c.args.changed.now)
    (codes ",\"difference\":")
    (signed_decimal (cents_of c.args.change.now))
    (44 ∷ [])
    (lot_json c.args.lot)
    (codes "}\n")
    c.put_nets.ensures
    c.put.ensures
    c.put_difference.ensures
    c.put-2.ensures
    c.put_lot.ensures
    c.put-3.ensures
