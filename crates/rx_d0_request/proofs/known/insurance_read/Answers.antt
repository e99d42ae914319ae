use Rattle.rx_d0_request.specs.Slots.{text_of, texts_of}
use Rattle.rx_d0_request.proofs.Tables.{insurance_off, insurance_on, at_slot}
use Rattle.rx_d0_request.proofs.known.insurance_read.Goals as goal

pub returns-in_err-put_values : goal.returns-in_err-put_values
returns-in_err-put_values c = rw c.from_residual.ensures (insurance_off (text_of c.args.segment) c.in_err-put_values.ensures)

pub returns : goal.returns
returns c =
    let slots = c.put_values.new.slots in
    rw (at_slot slots 1, at_slot slots 2) (insurance_on (text_of c.args.segment) (texts_of slots) c.in_ok-put_values.ensures)
