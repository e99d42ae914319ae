use Rattle.std.proofs.Common.{ap, ◌∙◌, subst, Ok}
use Rattle.rx_books_text.specs.TextReading.{printed_of}
use Rattle.rx_books_text.proofs.Fronts.{read_ok}
use Rattle.rx_books_text.proofs.OneReading.{fault_read}
use Rattle.rx_books_text.proofs.Printing.{printed_again}
use Rattle.rx_books_text.proofs.TextLaws.{IsReading, reading}
use Rattle.rx_books_text.proofs.law.one_reading.Goals as goal

pub returns-clause-reads : goal.returns-clause-reads
returns-clause-reads c text p =
    (λ printed. ap printed_of printed.0 ∙ printed_again p printed.1, λ read. read_ok text (Ok p) read)

pub returns-clause-refuses : goal.returns-clause-refuses
returns-clause-refuses c text f = (fault_read, λ read. subst (IsReading text) read (reading text))
