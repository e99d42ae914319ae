-- Zeros stand after both texts, so their arrays decide.
use Rattle.std.proofs.Common.{◌∙◌}
use Rattle.rx_fields.proofs.WordLaws.{padded_same}
use Rattle.rx_fields.proofs.id.IdPartialEq.eq.Goals as goal

pub returns : goal.returns
returns c =
    c.is_eq.ensures ∙ rw c.compare.ensures (rw (← c.self.view_is, ← c.other.view_is)
    (padded_same 20 c.self.inside.len c.other.inside.len c.self.inside.bytes
    c.other.inside.bytes c.self.invariant c.other.invariant))
