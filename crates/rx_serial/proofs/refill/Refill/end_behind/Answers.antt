-- The courses ascend: what stands before a fill of the course isn't past it, and what stands after one past it is.
use Rattle.std.proofs.Common.{◌≡◌, false, true, get_or, sym, ap, refl, ◌∙◌, arith}
use Rattle.std.specs.Ordering.{is_gt, is_le}
use Rattle.std.specs.declared.cmp.Ordering.{Ordering}
use Rattle.std.specs.declared.cmp.Ordering.TheVariants.{Less, Equal, Greater}
use Rattle.rx_serial.specs.declared.fill.Fill.{Fill}
use Rattle.rx_serial.specs.Fills.{course_cmp, is_not_past}
use Rattle.rx_serial.proofs.Refills.{all_past_behind, none_past_before}
use Rattle.rx_serial.proofs.refill.Refill.end_behind.Goals as goal

not_past : (o : Ordering) → is_gt o ≡ true → is_le o ≡ false
not_past Less more = absurd (let e : false ≡ true = more in cc)
not_past Equal more = absurd (let e : false ≡ true = more in cc)
not_past Greater more = refl

pub own-init : goal.own-init
own-init c =
    record {
      in_range = omega (arith, c.requires.within);
      before = none_past_before c.args.self.now.course c.args.fills.now c.requires.rise c.args.place c.requires.within
          c.requires.own;
    }

pub returns-then-is_gt-clause-past : goal.returns-then-is_gt-clause-past
returns-then-is_gt-clause-past c =
    let course = c.args.self.now.course in
    let f : Fill = c.index-fills-end.result in
    let there : Fill = get_or c.args.fills.now c.own.end f in
    let order : Ordering = course_cmp there.key.course course in
    let more : is_gt order ≡ true = ap is_gt (sym c.cmp.ensures) ∙ sym c.is_gt.ensures ∙ c.if-is_gt.true in
    let past : is_not_past course f ≡ false = ap (is_not_past course) c.index-fills-end.is ∙ not_past order more in
    all_past_behind course c.args.fills.now c.requires.rise c.own.end f c.index-fills-end.is past
