-- One less is written where the fill has an entry.
use Rattle.std.proofs.Common.{refl}
use Rattle.rx_sorted.proofs.Places.{contains_key-at, contains_key-gap}
use Rattle.rx_serial.specs.Fills.{fill_cmp, fill_key}
use Rattle.rx_serial.proofs.Counting.{fill_total}
use Rattle.rx_serial.proofs.fill.lower.Goals as goal

pub returns-in-Ok : goal.returns-in-Ok
returns-in-Ok c =
    rw (contains_key-at fill_cmp fill_total fill_key c.args.fills.now c.args.key c.in-Ok.place c.in-Ok.ensures.found)
    c.lower_at.ensures

pub returns-in-Err : goal.returns-in-Err
returns-in-Err c =
    rw (contains_key-gap fill_cmp fill_total fill_key c.args.fills.now c.args.key c.in-Err.field-0 c.in-Err.ensures.absent)
    refl
