use Rattle.std.proofs.Common.{◌++◌, [], List, ap, ◌∙◌}
use Rattle.std.proofs.lemmas.List.{flat_map_more}
use Rattle.rx_books_text.specs.declared.line.Line.{Line}
use Rattle.rx_books_scan.specs.Parts.{IsPartMeasured, part_lines}
use Rattle.rx_books_scan.proofs.Lengths.{all_before, last_of}
use Rattle.rx_books_scan.proofs.whole.join_parts.Goals as goal

pub loop-part-preserved : goal.loop-part-preserved
loop-part-preserved c =
    let part = c.in-Some.part in
    record {
      lines = c.in_ok-whole.ensures.lines ∙ ap (λ (ls : List Line). ls ++ part_lines part) c.loop-part.invariant.lines
          ∙ flat_map_more part_lines [] c.loop-part.yielded part;
      measured = λ v all.
          c.in_ok-whole.ensures.measured v
          (c.loop-part.invariant.measured v (all_before (IsPartMeasured v) c.loop-part.yielded part all))
          (last_of (IsPartMeasured v) c.loop-part.yielded part all);
    }
