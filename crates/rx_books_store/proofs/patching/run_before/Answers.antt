use Rattle.rx_books_store.proofs.Patches.{run_found, run_missed}
use Rattle.rx_books_store.proofs.patching.run_before.Goals as goal

pub returns-in-Ok : goal.returns-in-Ok
returns-in-Ok c =
    run_found c.args.rows.now c.args.row c.args.key.now c.in-Ok.at c.requires.before c.in-Ok.ensures.found

pub returns-in-Err : goal.returns-in-Err
returns-in-Err c =
    run_missed c.args.rows.now c.args.row c.args.key.now c.in-Err.at c.requires.before c.in-Err.ensures.absent
