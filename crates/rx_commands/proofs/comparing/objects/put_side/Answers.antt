use Rattle.std.proofs.Common.{[], ◌++◌, ◌∷◌, ap, append_assoc}
use Rattle.std.specs.List.{flat_map}
use Rattle.rx_report.specs.Texts.{comma_member, json_member}
use Rattle.rx_report.specs.declared.column.Column.TheVariants as column
use Rattle.rx_print.proofs.Written.{as_text, two}
use Rattle.rx_commands.specs.ComparedText.{figures, side_json}
use Rattle.rx_commands.proofs.comparing.objects.put_side.Goals as goal

pub returns : goal.returns
unfolding side_json
returns c =
    let status = json_member c.args.line.now column.Status in
    let others = flat_map (comma_member c.args.line.now) figures in
    as_text c.args.page.now c.put.new.self (ap (λ s. 123 ∷ s) (append_assoc status others (125 ∷ [])))
    (two c.args.page.now c.put_open.new.page c.put.new.self (123 ∷ (status ++ others)) (125 ∷ []) c.put_open.ensures
    c.put.ensures)
