use Rattle.std.proofs.Common.{◌∷◌, append_assoc, sym, ◌∙◌}
use Rattle.rx_diagnostics.proofs.sheet_lines.part_line.Goals as goal

pub returns : goal.returns
returns c =
    let path = c.deref.ensures ∙ c.in_ok-path.ensures.ok
    ∙ sym (append_assoc c.args.table.now (46 ∷ c.args.name.now) (46 ∷ c.args.key.now)) in
    rw path at c.line_naming.ensures
