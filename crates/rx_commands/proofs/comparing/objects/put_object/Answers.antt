use Rattle.std.proofs.Common.{ap, codes, ◌++◌}
use Rattle.std.specs.Fmt.{signed_decimal}
use Rattle.rx_print.proofs.Written.{as_text, three}
use Rattle.rx_commands.specs.ComparedText.{known, known_json, object, sides_json}
use Rattle.rx_commands.specs.Differing.{both, gain}
use Rattle.rx_commands.proofs.comparing.objects.put_object.Goals as goal

pub returns : goal.returns
unfolding object
returns c =
    let d = both c.args.given.now c.args.changed.now in
    three c.args.page.now c.put_known.new.page c.put_sides.new.page c.put_gain.new.page
    (known_json (known d))
    (sides_json d)
    (codes ",\"difference\":" ++ (signed_decimal (gain d) ++ codes "}"))
    (as_text c.args.page.now c.put_known.new.page (ap known_json c.known.ensures) c.put_known.ensures)
    c.put_sides.ensures
    c.put_gain.ensures
