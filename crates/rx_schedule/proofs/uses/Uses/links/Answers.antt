use Rattle.rx_ledger.proofs.Orders.{id_exact, key_exact}
use Rattle.rx_schedule.proofs.Linking.{are_links}
use Rattle.rx_schedule.proofs.uses.Uses.links.Goals as goal

pub put_links-requires : goal.put_links-requires
put_links-requires c = key_exact

pub put_links-requires-2 : goal.put_links-requires-2
put_links-requires-2 c = id_exact

pub returns : goal.returns
returns c =
    let u = c.self.inside in
    let both = are_links u.count u.keys.items u.families.items c.self.invariant.0 c.self.invariant.1 in
    rw (c.in_ok-put_links-2.ensures, c.in_ok-put_links.ensures, c.new-links.ensures.items, ← c.self.view_is) both
