use Rattle.std.proofs.Common.{◌≡◌, ◌+◌, true, false, Err, take, refl, sym, ap, ◌∙◌}
use Rattle.std.proofs.lemmas.Bool.{false≢true}
use Rattle.std.proofs.lemmas.List.{take_all}
use Rattle.rx_ledger.specs.Plan.{is_drug, lists, with_drug, wrong_figure}
use Rattle.rx_sheet.specs.SheetText.{plan_of}
use Rattle.rx_sheet.proofs.Added.{made_from, next_fits, next_is_new, next_added}
use Rattle.rx_sheet.proofs.sheet_text.sheet_of.Goals as goal

pub loop-listed-init : goal.loop-listed-init
loop-listed-init c =
    made_from (wrong_figure c.args.figures) c.args.figures c.in_ok-sheet.sheet c.requires.figures c.in_ok-sheet.ensures

pub unreachable-requires : goal.unreachable-requires
unreachable-requires c =
    let x = c.listed-item.result in
    let fits : is_drug x.drug ≡ true =
    next_fits c.args.drugs.now c.loop-listed.listed-index x c.loop-listed-test.true (sym c.listed-item.is) c.requires.drugs in
    let outside : is_drug x.drug ≡ false = c.in-Err-Range.ensures.range.0 (ap Err c.in-Err-Range.field-0-is) in
    absurd (false≢true (sym outside ∙ fits))

pub unreachable-requires-in-Err-There : goal.unreachable-requires-in-Err-There
unreachable-requires-in-Err-There c =
    let x = c.listed-item.result in
    let i = c.loop-listed.listed-index in
    let before = plan_of c.args.figures (take i c.args.drugs.now) in
    let new : lists before x.product ≡ false =
    next_is_new c.args.drugs.now i x c.loop-listed-test.true (sym c.listed-item.is) c.requires.drugs c.args.figures in
    let there = c.in-Err-There.ensures.there.0 (ap Err c.in-Err-There.field-0-is) in
    let known : lists before x.product ≡ true = ap (λ plan. lists plan x.product) (sym c.loop-listed.invariant) ∙ there.1 in
    absurd (false≢true (sym new ∙ known))

pub loop-listed-preserved : goal.loop-listed-preserved
loop-listed-preserved c =
    let x = c.listed-item.result in
    let i = c.loop-listed.listed-index in
    let added : with_drug (plan_of c.args.figures (take i c.args.drugs.now)) x.product x.drug
    ≡ plan_of c.args.figures (take (i + 1) c.args.drugs.now) =
    next_added c.args.drugs.now i x c.loop-listed-test.true (sym c.listed-item.is) c.requires.drugs c.args.figures in
    c.in-Ok.ensures.ok ∙ (ap (λ plan. with_drug plan x.product x.drug) c.loop-listed.invariant ∙ added)

pub returns : goal.returns
returns c =
    let all = take_all c.loop-listed.listed-index c.args.drugs.now c.loop-listed-test.false in
    rw (c.loop-listed.invariant, all) refl
