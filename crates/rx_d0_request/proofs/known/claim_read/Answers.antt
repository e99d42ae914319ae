use Rattle.rx_d0_request.specs.Slots.{text_of, texts_of}
use Rattle.rx_d0_request.proofs.Tables.{claim_off, claim_on, at_slot}
use Rattle.rx_d0_request.proofs.known.claim_read.Goals as goal

pub returns-in_err-put_values : goal.returns-in_err-put_values
returns-in_err-put_values c = rw c.from_residual.ensures (claim_off (text_of c.args.segment) c.in_err-put_values.ensures)

pub returns : goal.returns
returns c =
    let slots = c.put_values.new.slots in
    rw (
      at_slot slots 1,
      at_slot slots 2,
      at_slot slots 3,
      at_slot slots 4,
      at_slot slots 5,
      at_slot slots 6,
      at_slot slots 7,
      at_slot slots 8,
    ) (claim_on (text_of c.args.segment) (texts_of slots) c.in_ok-put_values.ensures)
