use Rattle.std.proofs.Common.{◌≡◌}
use Rattle.std.specs.List.{All, flat_map}
use Rattle.rx_books_text.specs.declared.version.Version.{Version}
use Rattle.rx_books_scan.specs.Parts.{IsPartMeasured, IsWholeMeasured, part_lines, whole_lines}
use Rattle.rx_books_scan.proofs.whole.join_parts.Given as goal

-- the lines of the parts so far
abbrev pub invariant-loop-part : goal.invariant-loop-part
invariant-loop-part l = record {
  lines : whole_lines l.whole ≡ flat_map part_lines l.yielded;
  measured : (v : Version) → All (IsPartMeasured v) l.yielded → IsWholeMeasured v l.whole;
}
