use Rattle.std.proofs.Common.{◌≡◌, ℕ, List, [], ◌∷◌, ◌++◌, append_assoc, ap, eqb, map, rules, sym, ◌∙◌}
use Rattle.std.specs.List.{flat_map}
use Rattle.std.proofs.lemmas.List.{append-nil, map-append}
use Rattle.std.proofs.lemmas.Iterator.Consumers.{YieldsList-at, YieldsList-end}
use Rattle.std.proofs.lemmas.Iterator.Splits.{YieldsList-from_slice_split}
use Rattle.rx_report_text.specs.Reasons.{line_row}
use Rattle.rx_print.proofs.Written.{as_text, two}
use Rattle.rx_report_text.proofs.reasons.put_rows.Goals as goal

-- one line more has one row more
row_more : (lines : List (List ℕ)) (line : List ℕ)
    → flat_map line_row (lines ++ line ∷ []) ≡ flat_map line_row lines ++ line_row line
row_more [] line = append-nil (line_row line)
row_more (l ∷ lines) line =
    ap (λ rows. line_row l ++ rows) (row_more lines line) ∙ sym (append_assoc (line_row l) (flat_map line_row lines) (line_row line))

pub loop-line-preserved : goal.loop-line-preserved
loop-line-preserved c =
    let before = map (λ line. line.now) c.loop-line.yielded in
    as_text c.args.page.now c.put_line_row.new.page
    (sym (row_more before c.in-Some.line.now)
    ∙ ap (flat_map line_row) (sym (map-append (λ line. line.now) c.loop-line.yielded (c.in-Some.line ∷ []))))
    (two c.args.page.now c.loop-line.page c.put_line_row.new.page (flat_map line_row before) (line_row c.in-Some.line.now)
    c.loop-line.invariant c.put_line_row.ensures)

-- the lines that the iterator gives are those of the text
pub returns : goal.returns
returns c =
    let lines =
    YieldsList-end
    (YieldsList-at c.into_iter-line-iterator.ensures.into_iter_gives
    (YieldsList-from_slice_split _ (λ b. eqb b 10) c.args.text.now c.split-line-items.ensures.rest c.split-line-items.ensures.done
    c.split-line-items.ensures.closure (λ x b q k. search rules)))
    c.loop-line.yielded _ c.loop-line.yielded_by _ _ c.in-None.is c.next.ensures.steps in
    as_text c.args.page.now c.loop-line.page (ap (flat_map line_row) lines.0) c.loop-line.invariant
