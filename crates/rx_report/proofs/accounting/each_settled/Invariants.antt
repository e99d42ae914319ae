use Rattle.std.proofs.Common.{◌≡◌, ◌++◌, map}
use Rattle.rx_report.specs.Accounts.{parts_of, with_lines}
use Rattle.rx_report.proofs.accounting.each_settled.Given as goal

-- the sections so far, and those of the tallies that are left
abbrev pub invariant-loop-provider : goal.invariant-loop-provider
invariant-loop-provider l =
    map parts_of l.sections.items ++ map (with_lines l.groups) l.provider-iterator ≡ map (with_lines l.groups) l.tallies.entries
