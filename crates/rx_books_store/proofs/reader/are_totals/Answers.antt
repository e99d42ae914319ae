use Rattle.std.proofs.Common.{◌≡◌, get_or, sym, ◌∙◌, arith}
use Rattle.std.proofs.lemmas.List.{take_all}
use Rattle.rx_books_text.specs.declared.line.TotalLine.{TotalLine}
use Rattle.rx_books_store.specs.Lists.{totals_in}
use Rattle.rx_books_store.proofs.ReadLists.{total_decides, totals-step}
use Rattle.rx_books_store.proofs.reader.are_totals.Goals as goal

pub loop-at-preserved : goal.loop-at-preserved
loop-at-preserved c =
    let i = c.loop-at.at in
    let t = c.index-totals-at.result in
    let line : TotalLine = record {
      family = c.index-families-at.result.family;
      out_of_pocket = get_or c.args.out_of_pockets.now i 0;
      deductible = c.printed_in.result;
    } in
    let same : t ≡ line = (total_decides t line).0 (sym c.if-not-is_printed.ensures) in
    totals-step c.args.version c.args.families.now c.args.out_of_pockets.now c.args.deductibles.now c.args.totals.now i
    c.index-families-at.result t (omega arith) (omega arith) (omega arith) (omega arith) c.index-families-at.is
    c.index-totals-at.is (rw (← c.printed_in.ensures) same) c.loop-at.invariant

pub returns : goal.returns
returns c =
    let i = c.loop-at.at in
    λ yes. sym (take_all i c.args.totals.now (omega arith)) ∙ c.loop-at.invariant
    ∙ (λ j. totals_in c.args.version (take_all i c.args.families.now (omega arith) j)
    (take_all i c.args.out_of_pockets.now (omega arith) j) (take_all i c.args.deductibles.now (omega arith) j))
