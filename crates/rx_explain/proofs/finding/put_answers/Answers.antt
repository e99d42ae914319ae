-- The next answer; after the last, none is left.
use Rattle.std.proofs.Common.{◌<◌, ◌≤◌, ◌∙◌, length, refl, arith}
use Rattle.rx_explain.specs.Found.{found_at}
use Rattle.rx_explain.proofs.Nexts.{of_answers_end, of_answers_next}
use Rattle.rx_explain.proofs.finding.put_answers.Goals as goal

pub loop-before-init : goal.loop-before-init
loop-before-init c = refl

pub loop-before-preserved : goal.loop-before-preserved
loop-before-preserved c =
    let answers = c.args.answers.now in
    let at = c.loop-before.before in
    let within : at < length answers = omega arith in
    rw c.in_ok-put_answer.ensures
    (of_answers_next (found_at c.args.query.now) c.args.place c.args.heard.now answers at c.index-answers-before.result within
    c.index-answers-before.is c.loop-before.found.items)
    ∙ c.loop-before.invariant

pub returns : goal.returns
returns c =
    let answers = c.args.answers.now in
    let past : length answers ≤ c.loop-before.before = omega arith in
    of_answers_end (found_at c.args.query.now) c.args.place c.args.heard.now answers c.loop-before.before past c.loop-before.found.items
    ∙ c.loop-before.invariant
