use Rattle.std.proofs.Common.{ap, ◌∙◌}
use Rattle.rx_check.specs.Found.{batch_fault, books_fault, sheet_fault}
use Rattle.rx_check.proofs.Runs.{found_runs}
use Rattle.rx_check.proofs.laws.first_fault_is_the_runs.Goals as goal

pub returns : goal.returns
returns c files found g s is are stamp =
    found_runs g s stamp found.sheet found.books found.batch
    (is.sheet ∙ ap sheet_fault are.sheet) (is.books ∙ ap books_fault are.books) (is.batch ∙ ap batch_fault are.batch)
