-- The two halves of the array are the texts of the day and the time.
use Rattle.std.proofs.Common.{◌≡◌, length, arith, length-append, rules, refl}
use Rattle.rx_fields.specs.Clock.{stamp_text}
use Rattle.rx_fields.proofs.StampLaws.{written_after, stamp_again}
use Rattle.rx_fields.proofs.stamp.Stamp.digits.Goals as goal

pub returns-clause-text : goal.returns-clause-text
unfolding stamp_text
returns-clause-text c =
    let date = c.copy_from_slice in
    let time = c.copy_from_slice-2 in
    rw (written_after date.new.self time.new.self (omega arith), date.ensures.after, time.ensures.after)
    (rw (c.date_write.ensures.text, c.digits.ensures.text) refl)

pub returns-clause-again : goal.returns-clause-again
returns-clause-again c =
    let date = c.copy_from_slice in
    let time = c.copy_from_slice-2 in
    let eight : length c.date_write.result ≡ 8 = search rules in
    let four : length c.digits.result ≡ 4 = search rules in
    rw (written_after date.new.self time.new.self (omega arith), date.ensures.after, time.ensures.after)
    (stamp_again c.args.self.now c.date_write.result c.digits.result eight
    (omega (arith, length-append c.date_write.result c.digits.result))
    c.date_write.ensures.again c.digits.ensures.again)
