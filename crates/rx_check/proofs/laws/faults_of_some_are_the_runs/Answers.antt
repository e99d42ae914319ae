use Rattle.std.proofs.Common.{ap, ◌∙◌}
use Rattle.std.specs.Prelude.{option_copied}
use Rattle.rx_check.specs.Found.{sheet_fault}
use Rattle.rx_check.proofs.Some.{batch_is_given, books_are_given, found_runs_of_some}
use Rattle.rx_check.proofs.laws.faults_of_some_are_the_runs.Goals as goal

pub returns : goal.returns
returns c files found g s is are stamp =
    let books = option_copied files.books in
    let batch = option_copied files.batch in
    found_runs_of_some books batch g s stamp found.sheet found.books found.batch (is.sheet ∙ ap sheet_fault are.sheet)
    (is.books ∙ books_are_given books g.books are.books) (is.batch ∙ batch_is_given batch g.batch are.batch)
