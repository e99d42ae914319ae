use Rattle.std.proofs.Common.{◌≡◌, ◌+◌, ◌++◌, ℕ, List, true, take, drop, sym, ap, ◌∙◌, eqb, length, length-drop, arith, Ok}
use Rattle.std.specs.Option.{option_map}
use Rattle.rx_books_text.specs.TextReading.{lines}
use Rattle.rx_books_text.proofs.Cuts.{lines_at, lines_none, to_end}
use Rattle.rx_books_upkeep.specs.QuickTable.{members_in}
use Rattle.rx_books_upkeep.specs.TableLine.{member_in}
use Rattle.rx_books_upkeep.proofs.QuickTables.{map_none, more, over}
use Rattle.rx_books_upkeep.proofs.quick_table.members_in.Goals as goal

pub loop-end-init : goal.loop-end-init
loop-end-init c = record {
  all = rw c.in_ok-list.ensures.items (map_none (members_in (lines c.args.text.now)));
  short = omega arith;
}

pub loop-end-preserved : goal.loop-end-preserved
loop-end-preserved c =
    let rest : List ℕ = c.loop-end.rest.now in
    let at : ℕ = c.in-Some.end in
    let list = c.loop-end.list.items in
    let all = members_in (lines c.args.text.now) in
    let m = c.in-Ok.member in
    let cut = lines_at rest at c.in-Some.ensures.0.high c.in-Some.ensures.0.before c.in-Some.ensures.1 in
    let read : member_in (take at rest) ≡ Ok m = sym c.in-Ok.ensures in
    let step = more list m (take at rest) (drop (at + 1) rest) all read
    (ap (λ ls. option_map (λ ms. list ++ ms) (members_in ls)) (sym cut) ∙ c.loop-end.invariant.all) in
    record {
      all = (λ i. option_map (λ ms. c.in_ok-push.ensures.items i ++ ms) (members_in (lines (to_end (at + 1) rest i)))) ∙ step;
      short = rw (to_end (at + 1) rest)
          (omega (arith, c.loop-end.invariant.short, c.in-Some.ensures.0.high, length-drop (at + 1) rest));
    }

pub returns : goal.returns
returns c =
    let rest = c.loop-end.rest.now in
    let list = c.loop-end.list.items in
    let all = members_in (lines c.args.text.now) in
    let empty : eqb (length rest) 0 ≡ true = sym c.is_empty.ensures ∙ c.if-not-is_empty.false in
    over list rest all empty
    (ap (λ ls. option_map (λ ms. list ++ ms) (members_in ls)) (sym (lines_none rest c.in_default.ensures)) ∙ c.loop-end.invariant.all)
