use Rattle.std.proofs.Common.{sym}
use Rattle.rx_report.proofs.Grouping.{lines-found, lines-none}
use Rattle.rx_report.proofs.groups.Groups.lines_of.Goals as goal

pub returns-in-Some : goal.returns-in-Some
returns-in-Some c =
    let found = lines-found c.args.provider.now c.self.inside.by_provider.entries c.in-Some.lines.now
    (sym c.in-Some.ensures.value) in
    cc

pub returns-in-None : goal.returns-in-None
returns-in-None c =
    let none = lines-none c.args.provider.now c.self.inside.by_provider.entries (sym c.in-None.ensures.value) in
    cc
