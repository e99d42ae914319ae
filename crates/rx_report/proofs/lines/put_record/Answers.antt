use Rattle.std.proofs.Common.{◌≡◌, ◌≤◌, List, ◌++◌, take, replicate, subst, arith, None}
use Rattle.std.specs.Prelude.{OnOk}
use Rattle.std.proofs.lemmas.List.{take-replicate}
use Rattle.rx_d0_values.specs.declared.reply.Answer.{Answer}
use Rattle.rx_d0_values.specs.declared.reply.Answer.TheVariants as answer
use Rattle.rx_report.specs.Lines.{answer_lines}
use Rattle.rx_report.proofs.lines.put_record.Goals as goal

pub returns-in-Rejected : goal.returns-in-Rejected
returns-in-Rejected c =
    let a : Answer = answer.Refused (record { codes = c.in-Rejected.rejected.codes; reference = None }) in
    let count = c.get-groups.result in
    let few : count ≤ 4 = omega arith in
    let HasPut : List Answer → Type 0 =
    λ answers. OnOk c.put_answers-in-Rejected.result
    (c.put_answers-in-Rejected.new.lines.items ≡ c.args.lines.now.items
    ++ answer_lines c.args.place c.args.asked.now c.args.reply.now 0 answers) in
    let put : HasPut (take count (replicate 4 a)) = c.put_answers-in-Rejected.ensures in
    rw (c.in-Rejected.is, ← c.get-groups.ensures.value) (subst HasPut (take-replicate count 4 a few) put)
