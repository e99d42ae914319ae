use Rattle.rx_books_store.proofs.SameLedger.{same_ledger}
use Rattle.rx_books_store.proofs.law.told_by_rows.Goals as goal

pub returns : goal.returns
returns c = same_ledger
