-- The pages so far, followed by those of the sections that are left, are the pages.
use Rattle.std.proofs.Common.{◌≡◌, ◌++◌, drop, map}
use Rattle.std.specs.List.{enumerate_from}
use Rattle.rx_report_text.specs.Folder.{file_of, leaves}
use Rattle.rx_report_text.proofs.folder.put_leaves.Given as goal

abbrev pub invariant-loop-before : goal.invariant-loop-before
invariant-loop-before l =
    map file_of l.pages.items ++ leaves l.head l.portion l.whys (enumerate_from l.before (drop l.before l.sections))
    ≡ map file_of l.fn.pages.items ++ leaves l.head l.portion l.whys (enumerate_from 0 l.sections)
