-- The rows so far, followed by those of the providers that are left, are the rows.
use Rattle.std.proofs.Common.{◌≡◌, ◌++◌, drop, false}
use Rattle.std.specs.List.{enumerate_from}
use Rattle.rx_report_text.specs.Providers.{rows_text}
use Rattle.rx_report_text.proofs.providers.put_rows.Given as goal

abbrev pub invariant-loop-before : goal.invariant-loop-before
invariant-loop-before l =
    l.page.lacks ≡ false → (l.fn.page.lacks ≡ false)
    × (l.page.bytes.items ++ rows_text l.layout l.longest (enumerate_from l.before (drop l.before l.sections))
    ≡ l.fn.page.bytes.items ++ rows_text l.layout l.longest (enumerate_from 0 l.sections))
