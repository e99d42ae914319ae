use Rattle.std.proofs.Common.{sym, ap, ◌∙◌, arith}
use Rattle.std.proofs.lemmas.List.{take_all}
use Rattle.rx_d0_request.specs.Marks.{marks_of}
use Rattle.rx_d0_request.proofs.marks.first_marks.Goals as goal

pub returns-then-text-ge-CHUNK : goal.returns-then-text-ge-CHUNK
returns-then-text-ge-CHUNK c = c.chunked_marks.ensures ∙ ap (marks_of c.args.byte) (sym (take_all 64 c.args.text.now (omega arith)))
