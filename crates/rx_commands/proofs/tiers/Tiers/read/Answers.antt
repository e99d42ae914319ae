use Rattle.std.proofs.Common.{ap, sym}
use Rattle.std.proofs.lemmas.Bool.{false≢true}
use Rattle.std.specs.Result.{result_ok}
use Rattle.rx_sheet.proofs.Documents.{document_read, document_refused}
use Rattle.rx_commands.proofs.tiers.Tiers.read.Goals as goal

pub returns-in-Ok : goal.returns-in-Ok
returns-in-Ok c = sym (ap result_ok (document_read c.args.text.now _ c.in-Ok.ensures.ok.0 c.in-Ok.ensures.ok.1))

pub returns-else-is_memory : goal.returns-else-is_memory
returns-else-is_memory c = sym (ap result_ok (document_refused c.args.text.now
    (c.in-Err.ensures.refused (λ m. let bad = c.if-is_memory.ensures.1 m in absurd (false≢true bad)))))
