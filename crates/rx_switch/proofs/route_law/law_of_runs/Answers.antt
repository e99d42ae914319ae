-- A plan's run has one output, and the switch gives its end books and its answers.
use Rattle.rx_switch.proofs.Runs.{same_answers, same_books}
use Rattle.rx_switch.proofs.route_law.law_of_runs.Goals as goal

pub returns-clause-books : goal.returns-clause-books
returns-clause-books c = λ g t n texts run is at ran. same_books g t n texts run is at ran

pub returns-clause-details : goal.returns-clause-details
returns-clause-details c = λ g t n texts run is at ran. same_answers g t n texts run is at ran
