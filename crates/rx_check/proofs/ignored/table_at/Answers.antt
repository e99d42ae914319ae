use Rattle.std.proofs.Common.{Some, None, ap, ◌∙◌}
use Rattle.toml.specs.Data.{as_table}
use Rattle.std.specs.Option.{option_and_then}
use Rattle.toml.proofs.Views.{table_get}
use Rattle.rx_check.proofs.ignored.table_at.Goals as goal

pub returns-in-Some : goal.returns-in-Some
returns-in-Some c =
    let found = table_get (Some c.in-Some.value) c.args.name.now c.args.sheet.now.entries c.in-Some.ensures.value in
    c.as_table.ensures ∙ ap (option_and_then as_table) found

pub returns-in-None : goal.returns-in-None
returns-in-None c =
    let found = table_get None c.args.name.now c.args.sheet.now.entries c.in-None.ensures.value in
    ap (option_and_then as_table) found
