use Rattle.std.proofs.Common.{◌++◌, map, string_bytes, ap, sym, ◌∙◌}
use Rattle.toml.specs.View.{view, members_view}
use Rattle.rx_check.specs.Ignored.{each_of, part_lines}
use Rattle.rx_check.proofs.IgnoredLines.{each_more}
use Rattle.rx_check.proofs.ignored.put_each.Goals as goal

pub loop-name-preserved : goal.loop-name-preserved
loop-name-preserved c =
    let before = map string_bytes c.loop-name.lines.items in
    let lines = part_lines c.args.part in
    let turn = ap (λ es. before ++ each_of lines (members_view es)) c.in-Some.ensures.steps in
    let put = rw c.as_str.ensures.value at c.in_ok-put_part.ensures in
    each_more lines (string_bytes c.in-Some.name.now) (view c.in-Some.value.now) (members_view c.next.new.self) before _ _ put
    (sym turn ∙ c.loop-name.invariant)
