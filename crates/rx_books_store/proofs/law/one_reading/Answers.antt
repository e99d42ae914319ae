use Rattle.std.proofs.Common.{subst}
use Rattle.rx_books_store.proofs.BooksFile.{Says, read_as, says}
use Rattle.rx_books_store.proofs.OneReading.{fault_read}
use Rattle.rx_books_store.proofs.law.one_reading.Goals as goal

pub returns-clause-reads : goal.returns-clause-reads
returns-clause-reads c text period L = (read_as text period L, λ read. subst (Says text) read (says text))

pub returns-clause-refuses : goal.returns-clause-refuses
returns-clause-refuses c text f = (fault_read, λ read. subst (Says text) read (says text))
