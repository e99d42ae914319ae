-- The own claims are those of the explanation, and so are the others, sorted and masked.
use Rattle.std.proofs.Common.{◌≡◌, ◌∙◌, ◌++◌, true, false, List, ap, filter, map, subst}
use Rattle.std.specs.List.Sorted.{IsPermutation}
use Rattle.rx_explain.specs.declared.traced.Traced.{Traced}
use Rattle.rx_explain.specs.Seen.{is_of, masked}
use Rattle.rx_explain.proofs.seen.own_and_others.Goals as goal

pub returns : goal.returns
returns c =
    let x = c.args.explanation.now in
    let b = c.args.bill.now in
    let sorted = c.in_ok-sorted.sorted.items in
    let others : c.in_ok-others.others.items ≡ filter (is_of false x.provider) x.counted.items =
    c.in_ok-others.ensures ∙ ap (filter (is_of false x.provider)) c.deref.ensures.value in
    let own : c.in_ok-shown.shown.items ≡ filter (is_of true x.provider) x.counted.items =
    c.in_ok-shown.ensures ∙ ap (filter (is_of true x.provider)) c.deref-2.ensures.value in
    record {
      others = sorted;
      moved = subst (λ (ts : List Traced). IsPermutation ts sorted) others c.in_ok-sorted.ensures.moved;
      rise = c.in_ok-sorted.ensures.rise;
      shown_are =
          c.in_ok-put_masked.ensures
          ∙ ap (λ (ts : List Traced). ts ++ map (masked x b) c.deref-3.result.now) own
          ∙ ap (λ (ts : List Traced). filter (is_of true x.provider) x.counted.items ++ map (masked x b) ts) c.deref-3.ensures.value;
    }
