use Rattle.std.proofs.Common.{ap, ◌∙◌}
use Rattle.rx_d0_request.specs.Known.{insurance_of}
use Rattle.rx_d0_request.specs.Slots.{texts_of}
use Rattle.rx_d0_request.proofs.Tables.{common_off, common_on, at_slot}
use Rattle.rx_d0_request.proofs.known.common_read.Goals as goal

pub returns-in_err-put_segments : goal.returns-in_err-put_segments
returns-in_err-put_segments c = rw c.from_residual.ensures (common_off c.args.part.now c.in_err-put_segments.ensures)

pub returns : goal.returns
returns c =
    let slots = c.put_segments.new.slots in
    c.insurance_read.ensures ∙ (ap insurance_of (at_slot slots 0) ∙ common_on c.args.part.now (texts_of slots) c.in_ok-put_segments.ensures)
