use Rattle.std.proofs.Common.{List, ℕ, ap}
use Rattle.std.specs.Arc.{arc_value}
use Rattle.rx_io.specs.Patches.{Patch}
use Rattle.rx_io.proofs.Patching.{text_put}
use Rattle.rx_io.proofs.patched.Patched.put.Goals as goal

pub returns : goal.returns
returns c =
    let s = c.self.inside in
    let lender = (arc_value s.lender).items in
    let made : List ℕ → Patch = λ t. record { lender = lender; text = t } in
    rw (c.in_ok-extend_from_slice.ensures.items, ← c.self.view_is)
    (ap made (text_put lender s.own.items c.args.bytes.now s.pieces.items s.begun c.self.invariant.each c.self.invariant.last))
