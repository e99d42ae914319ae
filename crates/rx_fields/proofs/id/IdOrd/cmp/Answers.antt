-- Zeros stand after both texts, so their arrays decide.
use Rattle.std.proofs.Common.{◌∙◌}
use Rattle.rx_fields.proofs.WordLaws.{padded_order}
use Rattle.rx_fields.proofs.id.IdOrd.cmp.Goals as goal

pub returns : goal.returns
returns c =
    c.compare.ensures ∙ rw (← c.self.view_is, ← c.other.view_is) (padded_order 20 c.self.inside.len c.other.inside.len c.self.inside.bytes
    c.other.inside.bytes c.self.invariant c.other.invariant)
