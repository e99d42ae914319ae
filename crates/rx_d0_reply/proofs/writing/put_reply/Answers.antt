use Rattle.std.proofs.Common.{◌≡◌, ◌≤◌, ◌++◌, List, length, take, true, replicate, subst, arith, None}
use Rattle.std.specs.Prelude.{OnOk, codes}
use Rattle.std.specs.List.{flat_map, AllByRecursion}
use Rattle.std.proofs.lemmas.Bool.Decides.{nat_tests}
use Rattle.std.proofs.lemmas.List.{take-replicate}
use Rattle.rx_d0_values.specs.declared.reply.Answer.{Answer}
use Rattle.rx_d0_values.specs.declared.reply.Answer.TheVariants as answer
use Rattle.rx_d0_values.specs.Listed.{is_few}
use Rattle.rx_d0_reply.specs.Limits.{IsHeader, IsAnswer}
use Rattle.rx_d0_reply.specs.Text.{header_text, group_text}
use Rattle.rx_d0_reply.proofs.Written.{on_ok, one_of_them}
use Rattle.rx_d0_reply.proofs.writing.put_reply.Goals as goal

pub returns-in-Rejected-clause-text : goal.returns-in-Rejected-clause-text
returns-in-Rejected-clause-text c =
    let a : Answer = answer.Refused (record { codes = c.in-Rejected.rejected.codes; reference = None }) in
    let count = c.get-count.result in
    let few : count ≤ 4 = omega arith in
    let SpeltWith : List Answer → Type 0 =
    λ answers. OnOk c.put_answers.result
    (c.put_answers.new.out.items ≡ c.args.out.now.items ++ (header_text c.args.reply.now.echo (length answers) (codes "R")
    ++ flat_map group_text answers)) in
    let spelt : SpeltWith (take count (replicate 4 a)) = c.put_answers.ensures.text in
    rw (c.in-Rejected.is, ← c.get-count.ensures.value) (subst SpeltWith (take-replicate count 4 a few) spelt)

pub returns-in-Rejected-clause-within : goal.returns-in-Rejected-clause-within
returns-in-Rejected-clause-within c =
    let a : Answer = answer.Refused (record { codes = c.in-Rejected.rejected.codes; reference = None }) in
    let count = c.get-count.result in
    let some : 1 ≤ count = omega arith in
    let few : count ≤ 4 = omega arith in
    let counted : is_few count ≡ true = grind (arith, nat_tests) in
    on_ok
    c.put_answers.result
    (λ (h : IsHeader c.args.reply.now.echo × AllByRecursion IsAnswer (take count (replicate 4 a))).
    rw c.in-Rejected.is (record {
      echo = h.0;
      outcome = (rw (← c.get-count.ensures.value) counted, (one_of_them 4 count a some few h.1).codes);
    }))
    c.put_answers.ensures.within
