-- The lines of the codes so far.
use Rattle.std.proofs.Common.{take}
use Rattle.rx_print.specs.Page.{Writes}
use Rattle.rx_explain_text.specs.Codes.{code_lines}
use Rattle.rx_explain_text.proofs.codes.put_codes.Given as goal

abbrev pub invariant-loop-code : goal.invariant-loop-code
invariant-loop-code l = Writes l.fn.page l.page (code_lines l.door l.request l.nth (take l.code-index l.codes))
