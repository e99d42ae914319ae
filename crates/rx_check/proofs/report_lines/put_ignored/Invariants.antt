use Rattle.std.proofs.Common.{◌≡◌, ◌++◌, map, string_bytes, take}
use Rattle.rx_check.specs.Report.{ignored_text}
use Rattle.rx_check.proofs.report_lines.put_ignored.Given as goal

-- the warnings of the keys so far
abbrev pub invariant-loop-said : goal.invariant-loop-said
invariant-loop-said l =
    string_bytes l.text ≡ string_bytes l.fn.text ++ ignored_text l.sheet (map string_bytes (take l.said-index l.ignored))
