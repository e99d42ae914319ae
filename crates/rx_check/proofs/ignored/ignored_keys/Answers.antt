use Rattle.std.proofs.Common.{ap, sym}
use Rattle.std.proofs.lemmas.Bool.{false≢true}
use Rattle.rx_sheet.proofs.Documents.{document_read, document_refused}
use Rattle.rx_check.specs.Ignored.{lines_if_read}
use Rattle.rx_check.proofs.ignored.ignored_keys.Goals as goal

pub returns-in_ok-put_sheet-in-Ok : goal.returns-in_ok-put_sheet-in-Ok
returns-in_ok-put_sheet-in-Ok c =
    let read = document_read c.args.text.now _ c.in-Ok.ensures.ok.0 c.in-Ok.ensures.ok.1 in
    rw (c.in_ok-put_sheet-in-Ok.ensures, c.new-lines.ensures.items) (ap lines_if_read (sym read))

pub returns-in-Err-2 : goal.returns-in-Err-2
returns-in-Err-2 c =
    let refused = document_refused c.args.text.now
    (c.in-Err.ensures.refused (λ m. let bad = c.if-is_memory.ensures.1 m in absurd (false≢true bad))) in
    rw c.new-lines.ensures.items (ap lines_if_read (sym refused))
