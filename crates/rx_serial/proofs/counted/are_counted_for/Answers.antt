-- What concerns the refill is of its course, and lasts on the first day.
use Rattle.std.proofs.Common.{◌≡◌, true, refl, sym, ap, ◌∙◌, arith}
use Rattle.std.proofs.lemmas.Int.{ints}
use Rattle.rx_serial.specs.Fills.{has_mark}
use Rattle.rx_serial.proofs.Refills.{concerned_course, concerned_lasts}
use Rattle.rx_serial.proofs.counted.are_counted_for.Goals as goal

pub returns : goal.returns
returns c = λ is k h.
    let f = c.args.refill.now in
    let marked : has_mark c.args.marks.now k.course ≡ true =
    ap (has_mark c.args.marks.now) (concerned_course f k h) ∙ sym c.has.ensures ∙ is in
    let left = concerned_lasts f c.args.first_day k (omega (arith, ints)) c.requires h in
    rw (left, marked) refl
