-- The sections so far, followed by those that are left, are the sections.
use Rattle.std.proofs.Common.{◌≡◌, ◌++◌, drop, false}
use Rattle.std.specs.List.{enumerate_from}
use Rattle.rx_report_text.specs.Claims.{sections_text}
use Rattle.rx_report_text.proofs.whole.put_sections.Given as goal

abbrev pub invariant-loop-before : goal.invariant-loop-before
invariant-loop-before l =
    l.page.lacks ≡ false → (l.fn.page.lacks ≡ false)
    × (l.page.bytes.items ++ sections_text l.whys (enumerate_from l.before (drop l.before l.sections))
    ≡ l.fn.page.bytes.items ++ sections_text l.whys (enumerate_from 0 l.sections))
