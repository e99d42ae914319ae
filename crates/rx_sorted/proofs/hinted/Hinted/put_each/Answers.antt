use Rattle.std.proofs.Common.{◌≡◌, List, [], map, sym, ap, ◌∙◌}
use Rattle.rx_sorted.specs.Slots.{filled_of}
use Rattle.rx_sorted.proofs.AllSlots.{filled_last, filled_none, no_items}
use Rattle.rx_sorted.proofs.hinted.Hinted.put_each.Goals as goal

pub contents-preserved : goal.contents-preserved
contents-preserved g c =
    let cmp = g.T.Key.Ord.cmp in
    let filled = filled_of cmp g.T.Keyed.key_of g.T.Content.Keyed.key_of g.T.Slot.filled in
    let left = c.pop.new.self.items in
    ap (map (filled left)) c.put.ensures
    ∙ filled_last cmp g.met.T.Key.Ord.total g.T.Keyed.key_of g.T.Content.Keyed.key_of g.T.Slot.filled g.met.T.Slot.filled_keeps
    g.met.T.Slot.filled_again left c.in-Some.content c.contents.self
    ∙ ap (λ (bs : List g.row.T-Content.Denot). map (filled bs) c.contents.self) (sym c.in-Some.ensures.items) ∙ c.contents.invariant

pub returns : goal.returns
returns g c =
    let cmp = g.T.Key.Ord.cmp in
    let filled = filled_of cmp g.T.Keyed.key_of g.T.Content.Keyed.key_of g.T.Slot.filled in
    let none : c.contents.contents.items ≡ [] = no_items c.contents.contents.items
    (sym c.contents.contents.ok.0 ∙ c.in_default.ensures.cases.0) in
    sym (filled_none cmp g.met.T.Key.Ord.total g.T.Keyed.key_of g.T.Content.Keyed.key_of g.T.Slot.filled g.met.T.Slot.filled_keeps
    g.met.T.Slot.filled_again c.contents.self)
    ∙ ap (λ (bs : List g.row.T-Content.Denot). map (filled bs) c.contents.self) (sym none) ∙ c.contents.invariant
