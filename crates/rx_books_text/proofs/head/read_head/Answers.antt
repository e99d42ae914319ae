use Rattle.std.proofs.Common.{ap, ◌∙◌}
use Rattle.rx_books_text.specs.LineReading.{head_of}
use Rattle.rx_books_text.proofs.HeadLaws.{head_found, head_again}
use Rattle.rx_books_text.proofs.head.read_head.Goals as goal

pub returns-clause-found : goal.returns-clause-found
returns-clause-found c = head_found c.args.text.now c.head_of.result c.head_of.ensures

pub returns-clause-only : goal.returns-clause-only
returns-clause-only c head is text = c.head_of.ensures ∙ ap head_of text ∙ head_again head is
