use Rattle.std.proofs.Common.{◌≡◌, ◌++◌, List, ap, ◌∙◌, vec_items}
use Rattle.std.proofs.lemmas.Result.{IfOk-weaker}
use Rattle.rx_commands.specs.Changes.{after, no_change}
use Rattle.rx_commands.specs.ComparedText.{lines_after}
use Rattle.rx_commands.specs.Differing.{Differing, differing, differing_of, entries_of}
use Rattle.rx_commands.proofs.ComparedLines.{compared_text}
use Rattle.rx_commands.proofs.comparing.text_of.Goals as goal

pub returns : goal.returns
returns c =
    let r = c.args.given.now in
    let s = c.args.changed.now in
    let found : differing_of (entries_of c.deref.result.now c.deref-2.result.now) (entries_of c.deref-3.result.now c.deref-4.result.now)
    ≡ differing r s =
    λ j. differing_of (entries_of (c.deref.ensures.value j) (c.deref-2.ensures.value j))
    (entries_of (c.deref-3.ensures.value j) (c.deref-4.ensures.value j)) in
    IfOk-weaker c.into_bytes.result _ _ (λ bytes is.
    let end = c.put_end.ensures is.0 in
    let lines = c.put_lines-change.ensures.lines end.0 in
    let front = c.put_front.ensures lines.0 in
    let begun = c.put_front.new.page.bytes.items in
    ap vec_items is.1
    ∙ compared_text c.args.form r.batch.lot r.settled.total s.settled.total (differing r s) c.put_lines-change.result
    c.new-page.result.bytes.items begun c.put_lines-change.new.page.bytes.items c.put_end.new.page.bytes.items c.new-page.ensures.bytes
    front.1 (lines.1 ∙ ap (λ (ds : List Differing). begun ++ lines_after c.args.form 0 ds) found)
    (c.put_lines-change.ensures.change ∙ ap (after no_change) found) end.1)
    c.into_bytes.ensures.bytes
