use Rattle.std.proofs.Common.{◌≡◌, ◌+◌, true, false, arith, refl, sym, ◌∙◌}
use Rattle.std.proofs.lemmas.Grind.{common_steps}
use Rattle.rx_books_upkeep.specs.declared.cut_claims.CutClaims.{CutClaims}
use Rattle.rx_books_upkeep.specs.Ageing.{is_before}
use Rattle.rx_books_upkeep.proofs.Cuts.{one_leaves, one_stays}
use Rattle.rx_books_upkeep.proofs.cut_claims.CutClaims.take.Goals as goal

pub returns-then-not-is_before : goal.returns-then-not-is_before
returns-then-not-is_before c = λ rows cut.
    let old = c.args.self.now in
    let new : CutClaims = record {
      staying = c.extend_from_slice.new.self;
      leaving = old.leaving;
      left = old.left;
      first_safe = old.first_safe;
    } in
    let stays : is_before c.args.day c.args.row.now ≡ false = sym c.is_before.ensures ∙ c.if-not-is_before.true in
    one_stays c.args.percent c.args.day rows c.args.row.now old new c.args.line.now cut c.requires.line stays
    c.in_ok-extend_from_slice.ensures.items refl refl refl

pub returns : goal.returns
returns c = λ rows cut.
    let old = c.args.self.now in
    let new : CutClaims = record {
      staying = old.staying;
      leaving = c.extend_from_slice-2.new.self;
      left = c.in_ok-self.field-0;
      first_safe = c.later_of-self.result;
    } in
    let leaves : is_before c.args.day c.args.row.now ≡ true = sym c.is_before.ensures ∙ c.if-not-is_before.false in
    let more : c.in_ok-self.field-0 ≡ old.left + 1 = grind (arith, common_steps) in
    one_leaves c.args.percent c.args.day rows c.args.row.now old new c.args.line.now cut c.requires.line c.over_from.result leaves
    c.in_ok-extend_from_slice-2.ensures.items refl more c.over_from.ensures c.later_of-self.ensures
