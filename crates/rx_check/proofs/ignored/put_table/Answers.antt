use Rattle.std.proofs.Common.{◌++◌, map, string_bytes, ap, sym, ◌∙◌}
use Rattle.toml.specs.View.{view, members_view}
use Rattle.rx_check.specs.Ignored.{name_lines, table_lines, texts_of}
use Rattle.rx_check.proofs.IgnoredLines.{each_more}
use Rattle.rx_check.proofs.ignored.put_table.Goals as goal

pub loop-name-preserved : goal.loop-name-preserved
loop-name-preserved c =
    let before = map string_bytes c.loop-name.lines.items in
    let known = texts_of c.args.known.now in
    let turn = ap (λ es. before ++ table_lines c.args.within.now known (members_view es)) c.in-Some.ensures.steps in
    let put = rw c.as_str.ensures.value at c.in_ok-put_name.ensures in
    each_more (λ name value. name_lines c.args.within.now known name) (string_bytes c.in-Some.name.now) (view c.in-Some._value.now)
    (members_view c.next.new.self) before _ _ put (sym turn ∙ c.loop-name.invariant)
