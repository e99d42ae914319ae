-- The text that was let through is an id, so its padded bytes are one.
use Rattle.std.proofs.Common.{sym, arith, lit≤}
use Rattle.rx_fields.proofs.IdLaws.{id_again, padded_whole}
use Rattle.rx_fields.proofs.id.Id.new.Goals as goal

pub invariant_of-result : goal.invariant_of-result
invariant_of-result c =
    let id = id_again c.args.max 20 c.args.text.now c.in_ok-text.text.now c.requires (sym c.in_ok-text.ensures) in
    rw c.padded.ensures (padded_whole 20 c.in_ok-text.text.now (lit≤ tt) (omega (arith, id.0, c.requires)) id.1)
