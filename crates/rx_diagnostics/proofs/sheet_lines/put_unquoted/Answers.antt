use Rattle.std.proofs.Common.{◌≡◌, ◌++◌, ◌∙◌, ap, get_or, sym, take}
use Rattle.std.proofs.lemmas.List.{flat_map_more, take_more}
use Rattle.rx_diagnostics.specs.SheetLines.{name_byte, unquoted}
use Rattle.rx_diagnostics.proofs.sheet_lines.put_unquoted.Goals as goal

pub loop-byte-preserved : goal.loop-byte-preserved
loop-byte-preserved c =
    let i = c.loop-byte.byte-index in
    let names = c.args.names.now in
    let front = c.args.path.now.items in
    let next = get_or names i 0 in
    c.in_ok-put_name_byte.ensures ∙ ap (λ path. path ++ name_byte next) c.loop-byte.invariant
    ∙ flat_map_more name_byte front (take i names) next
    ∙ ap (λ read. front ++ unquoted read) (sym (take_more names i 0 c.loop-byte-test.true))
