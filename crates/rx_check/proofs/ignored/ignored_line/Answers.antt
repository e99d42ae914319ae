use Rattle.std.proofs.Common.{◌≡◌, ap, ◌∙◌}
use Rattle.rx_check.specs.Ignored.{hint, texts_of}
use Rattle.rx_diagnostics.specs.Likeness.{nearest}
use Rattle.rx_check.proofs.ignored.ignored_line.Goals as goal

pub returns : goal.returns
returns c =
    let name = c.args.name.now in
    let known = texts_of c.args.known.now in
    let said : c.as_str.result.now ≡ hint name (nearest name known) =
    c.as_str.ensures.value ∙ c.in_ok-hint.ensures
    ∙ ap (hint name) (c.nearest.ensures ∙ ap (λ n. nearest n known) c.as_bytes.ensures.value) in
    rw said at c.line_with.ensures
