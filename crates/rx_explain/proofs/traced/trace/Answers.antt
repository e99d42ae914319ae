-- Whatever happened under the claim's key is in the part of that key.
use Rattle.std.proofs.Common.{refl}
use Rattle.rx_explain.proofs.Parted.{source_near, taken_back_near}
use Rattle.rx_explain.proofs.traced.trace.Goals as goal

pub returns : goal.returns
returns c =
    let key = c.args.row.key in
    let at = c.args.at in
    rw (
      c.source_of.ensures,
      c.taken_back_at.ensures,
      c.near-events.ensures,
      source_near c.args.events.now key at,
      taken_back_near c.args.events.now key at,
    )
    refl
