-- The links between the uses so far are put.
use Rattle.std.proofs.Common.{◌≡◌, ◌++◌, take}
use Rattle.rx_schedule.specs.Links.{links_in}
use Rattle.rx_schedule.proofs.uses.put_links.Given as goal

abbrev pub invariant-uses : goal.invariant-uses
invariant-uses g l = l.links.items ≡ l.initial.links.items ++ links_in g.K.Ord.cmp (take l.at l.uses.items)
