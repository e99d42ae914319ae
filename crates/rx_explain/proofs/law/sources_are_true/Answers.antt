use Rattle.rx_explain.specs.Before.{ledger_before}
use Rattle.rx_explain.specs.Traces.{events_of}
use Rattle.rx_ledger.specs.Fold.{asked, fold_replies}
use Rattle.rx_explain.proofs.SourceLaws.{from_opening, paid_by, stands_on, taken_by}
use Rattle.rx_explain.proofs.ShownRows.{before_in_order, shown_stands, taken_back_now}
use Rattle.rx_explain.proofs.law.sources_are_true.Goals as goal

pub returns-clause-paid_by : goal.returns-clause-paid_by
returns-clause-paid_by c lot plan ts opening at s r is stands paid traced_is =
    paid_by lot plan ts opening at s r is stands paid traced_is

pub returns-clause-opening : goal.returns-clause-opening
returns-clause-opening c lot plan ts opening at s r is stands traced_is =
    from_opening lot plan ts opening at s r is stands traced_is

pub returns-clause-taken_back : goal.returns-clause-taken_back
returns-clause-taken_back c lot plan ts opening at s r is stands leaves back traced_is =
    taken_by lot plan ts opening at s r is stands leaves back traced_is

pub returns-clause-still_stands : goal.returns-clause-still_stands
returns-clause-still_stands c lot plan ts opening at s r is stands leaves traced_is =
    stands_on lot plan ts opening at s r is stands leaves traced_is

pub returns-clause-taken_back_now : goal.returns-clause-taken_back_now
returns-clause-taken_back_now c lot plan ts opening at s r stands takes =
    taken_back_now (ledger_before lot plan ts opening at.place s.heard at.nth) (asked lot plan at.place s.heard at.nth)
    s.transaction r stands takes

pub returns-clause-shown : goal.returns-clause-shown
returns-clause-shown c lot plan ts opening at s x t in_order is shown =
    let L = ledger_before lot plan ts opening at.place s.heard at.nth in
    shown_stands L (before_in_order lot plan ts opening at.place s.heard at.nth in_order) lot plan
    (events_of 1 ts (fold_replies lot plan 1 ts opening)) at s x t is shown
