use Rattle.std.proofs.Common.{List, ℕ, ap, arith}
use Rattle.std.specs.Arc.{arc_value}
use Rattle.rx_io.specs.Patches.{Patch}
use Rattle.rx_io.proofs.Patching.{text_lent}
use Rattle.rx_io.proofs.patched.Patched.lend.Goals as goal

pub returns : goal.returns
returns c =
    let s = c.self.inside in
    let lender = (arc_value s.lender).items in
    let made : List ℕ → Patch = λ t. record { lender = lender; text = t } in
    let long = s.own.ok.0 in
    rw (← c.self.view_is)
    (ap made (text_lent lender s.own.items s.pieces.items c.push_own.new.pieces.items c.push.new.self.items s.begun
    c.len.result c.len-self-inside.result c.args.first c.args.last (omega (arith, long, c.len.ensures))
    (omega (arith, long, c.len-self-inside.ensures)) (c.in_ok-push_own.ensures.text lender s.own.items)
    c.in_ok-push.ensures.items))
