use Rattle.std.proofs.Common.{◌≡◌, ◌++◌, map}
use Rattle.rx_report.specs.Accounts.{parts_of, with_tally}
use Rattle.rx_report.specs.Adding.{groups_in}
use Rattle.rx_report.proofs.accounting.sections_of.Given as goal

-- the sections so far, and those of the groups that are left
abbrev pub invariant-loop-provider : goal.invariant-loop-provider
invariant-loop-provider l =
    map parts_of l.sections.items ++ map with_tally (groups_in l.provider-iterator) ≡ map with_tally l.groups
