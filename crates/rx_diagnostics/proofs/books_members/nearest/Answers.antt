use Rattle.std.proofs.Common.{eqb, map, rules, ap, sym, ◌∙◌, ◌∷◌, []}
use Rattle.std.proofs.lemmas.List.{map-append}
use Rattle.std.proofs.lemmas.Iterator.{YieldsList-from_take}
use Rattle.std.proofs.lemmas.Iterator.Consumers.{YieldsList-at, YieldsList-end}
use Rattle.std.proofs.lemmas.Iterator.Splits.{YieldsList-from_slice_split}
use Rattle.rx_diagnostics.specs.BooksMembers.{nearest, persons_in}
use Rattle.rx_diagnostics.proofs.Listings.{nearest-line}
use Rattle.rx_diagnostics.proofs.books_members.nearest.Goals as goal

pub loop-line-preserved-then-is_member_of : goal.loop-line-preserved-then-is_member_of
loop-line-preserved-then-is_member_of c =
    let before = map (λ line. line.now) c.loop-line.yielded in
    let step = nearest-line c.args.person.now c.args.family.now before c.in-Some.line.now
    (sym c.is_member_of.ensures ∙ c.if-is_member_of.true) in
    let all = map-append (λ line. line.now) c.loop-line.yielded (c.in-Some.line ∷ []) in
    c.nearer-found.ensures ∙ rw (c.loop-line.invariant, c.field_of.ensures, all) (sym step)

-- the lines that the iterator gives are the first of the text
pub returns : goal.returns
returns c =
    let lines =
    YieldsList-end
    (YieldsList-at c.into_iter-line-iterator.ensures.into_iter_gives
    (YieldsList-from_take c.args.lines
    (YieldsList-at c.take-line-items.ensures.source
    (YieldsList-from_slice_split _ (λ b. eqb b 10) c.args.text.now c.split.ensures.rest c.split.ensures.done
    c.split.ensures.closure (λ x b q k. search rules)))
    c.take-line-items.ensures.count))
    c.loop-line.yielded _ c.loop-line.yielded_by _ _ c.in-None.is c.next.ensures.steps in
    c.loop-line.invariant ∙ ap (λ ls. nearest c.args.person.now (persons_in c.args.family.now ls)) lines.0
