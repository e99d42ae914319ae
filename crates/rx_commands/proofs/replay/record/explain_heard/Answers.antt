-- What the transactions ask for is held, and one more of them is explained.
use Rattle.std.proofs.Common.{◌≡◌, ◌<◌, ◌+◌, ◌-◌, ◌++◌, ◌∷◌, ◌∙◌, ℕ, List, [], drop, get_or, length, length-append, map, take}
use Rattle.std.proofs.lemmas.List.{map-append}
use Rattle.std.proofs.Common.{Some, sym, ap, subst, arith}
use Rattle.std.specs.List.{All}
use Rattle.rx_d0_values.specs.declared.reply.Answer.{Answer}
use Rattle.rx_d0_values.specs.declared.transaction.Transaction.{Transaction}
use Rattle.rx_explain.specs.Around.{AreTermsFor}
use Rattle.rx_explain.specs.Explained.{AreFacts}
use Rattle.rx_explain.specs.Spots.{item}
use Rattle.rx_explain.specs.declared.facts.Facts.{Facts}
use Rattle.rx_serial.specs.Underway.{scope_of}
use Rattle.rx_ledger.specs.Answers.{after, answer}
use Rattle.rx_ledger.specs.Basis.{HasPeriod, Holds, Scope}
use Rattle.rx_ledger.specs.Fold.{answers_from, asked, ledger_from}
use Rattle.rx_ledger.specs.Ledger.{Ledger}
use Rattle.rx_ledger.specs.Named.{key_in}
use Rattle.rx_ledger.proofs.Stepped.{answers_next, ledger_next}
use Rattle.rx_commands.specs.Records.{IsOf}
use Rattle.rx_commands.proofs.EachExplained.{all_explained, explained_next, ledger_up_to}
use Rattle.rx_commands.proofs.replay.record.explain_heard.Goals as goal

pub explain_next-requires-clause-held : goal.explain_next-requires-clause-held
explain_next-requires-clause-held c =
    let L = c.loop-before.order.books.ledger in
    let h = c.args.heard.now in
    let list = c.as_slice-list.result.now in
    let t = c.index-list-before.result in
    let scope = scope_of c.args.order.now in
    let within : c.loop-before.before < length list = omega arith in
    let all : All (Holds scope (key_in h) L) list =
    subst (λ (ts : List Transaction). All (Holds scope (key_in h) L) ts) (sym c.as_slice-list.ensures.value)
    (c.requires.awaited L) in
    let is : get_or list c.loop-before.before t ≡ t = sym c.index-list-before.is in
    let one = subst (λ (u : Transaction). Holds scope (key_in h) L u) is (all c.loop-before.before t within) in
    subst (λ (s : Scope). Holds s (key_in h) L t) (sym c.loop-before.invariant.scope) one

pub explain_next-requires-clause-terms : goal.explain_next-requires-clause-terms
explain_next-requires-clause-terms c =
    let list = c.as_slice-list.result.now in
    let t = c.index-list-before.result in
    let plan = c.args.sheet.now in
    let terms = c.args.terms.now in
    let within : c.loop-before.before < length list = omega arith in
    let all : All (λ u. AreTermsFor plan u terms) list =
    subst (λ (ts : List Transaction). All (λ u. AreTermsFor plan u terms) ts) (sym c.as_slice-list.ensures.value)
    c.requires.terms in
    subst (λ (u : Transaction). AreTermsFor plan u terms) (sym c.index-list-before.is)
    (all c.loop-before.before t within)

pub explain_next-requires-clause-period : goal.explain_next-requires-clause-period
explain_next-requires-clause-period c =
    subst (λ (s : Scope). HasPeriod s.period c.args.terms.now.figures.period) (sym c.loop-before.invariant.scope)
    c.requires.period

pub loop-before-preserved : goal.loop-before-preserved
loop-before-preserved c =
    let lot = c.args.lot in
    let plan = c.args.sheet.now in
    let place = c.args.place in
    let h = c.args.heard.now in
    let first = c.args.order.now.books.ledger in
    let list = c.as_slice-list.result.now in
    let at = c.loop-before.before in
    let t = c.index-list-before.result in
    let now = c.loop-before.order.books.ledger in
    let next = c.explain_next.new.basis.books.ledger in
    let xs = c.loop-before.facts.items in
    let x = c.in_ok-explain_next.field-0 in
    let so = c.loop-before.invariant in
    let step = c.in_ok-explain_next.ensures in
    let a = asked lot plan place h (at + 1) in
    let answer_in : Facts → Answer = λ y. y.answer in
    let within : at < length list = omega arith in
    let answered : x.answer ≡ answer a now t = step.facts.answer_is in
    let changed : next ≡ after a now t x.answer = step.after ∙ ap (after a now t) (sym answered) in
    let pushed : c.push.new.self.items ≡ xs ++ x ∷ [] = c.in_ok-push.ensures.items in
    let to_come = answers_from lot plan place h (at + 1 + 1) (drop (at + 1) list) next in
    let before_it : now ≡ ledger_from lot plan place h 1 (take (at + 1 - 1) h.list) first =
    so.so_far ∙ ap (λ (ts : List Transaction). ledger_from lot plan place h 1 (take at ts) first) c.as_slice-list.ensures.value
    ∙ ap (λ (n : ℕ). ledger_from lot plan place h 1 (take n h.list) first) (let e : at ≡ at + 1 - 1 = omega arith in e) in
    let here : IsOf lot plan place h first (at + 1) (Some t) (Some x) =
    subst (λ (L : Ledger). AreFacts lot plan L (record { place = place; nth = at + 1 })
    (record { heard = h; transaction = t }) x) before_it step.facts in
    record {
      count = ap length pushed ∙ length-append xs (x ∷ []) ∙ ap (λ n. n + 1) so.count;
      answers = ap (λ (ys : List Facts). map answer_in ys ++ to_come) pushed
          ∙ ap (λ (ys : List Answer). ys ++ to_come) (map-append answer_in xs (x ∷ []))
          ∙ answers_next lot plan place h list at t now next x.answer within c.index-list-before.is answered changed
          (map answer_in xs)
          ∙ so.answers;
      ledger = ledger_next lot plan place h list at t now next x.answer within c.index-list-before.is answered changed
          ∙ so.ledger;
      so_far = ledger_up_to lot plan place h list at t first now next within c.index-list-before.is so.so_far step.after;
      scope = step.scope ∙ so.scope;
      explained = λ nth le.
          subst (λ (ys : List Facts). IsOf lot plan place h first nth (item list nth) (item ys nth)) (sym pushed)
          (explained_next lot plan place h first list xs at t x within c.index-list-before.is so.count so.explained here
          nth le);
    }

pub returns-clause-explained : goal.returns-clause-explained
returns-clause-explained c nth =
    let lot = c.args.lot in
    let plan = c.args.sheet.now in
    let place = c.args.place in
    let h = c.args.heard.now in
    let first = c.args.order.now.books.ledger in
    let list = c.as_slice-list.result.now in
    let xs = c.loop-before.facts.items in
    let so = c.loop-before.invariant in
    let all : c.loop-before.before ≡ length list = omega (arith, c.loop-before-test.false, c.loop-before.auto) in
    subst (λ (ts : List Transaction). IsOf lot plan place h first nth (item ts nth) (item xs nth))
    c.as_slice-list.ensures.value
    (all_explained lot plan place h first list xs (so.count ∙ all) (λ n le. so.explained n (omega (arith, le, all))) nth)
