-- only the last item decides
use Rattle.std.proofs.Common.{sym, ap, ◌∙◌}
use Rattle.std.specs.Ordering.{is_lt}
use Rattle.rx_sorted.proofs.Kept.{is_past-last}
use Rattle.rx_sorted.proofs.slices.is_past.Goals as goal

pub returns-in-Some : goal.returns-in-Some
returns-in-Some g c =
    let cmp = g.T.Key.Ord.cmp in
    let key = g.T.Keyed.key_of in
    let last = c.in-Some.last.now in
    let read = c.in-Some.ensures.item.3 in
    let compared = c.is_lt.ensures ∙ ap is_lt
    (c.cmp.ensures ∙ ap (λ k. cmp k c.args.key.now) (c.key.ensures ∙ ap key (read.1 last))) in
    compared ∙ sym (is_past-last cmp g.met.T.Key.Ord.total key c.args.items.now c.args.key.now last c.requires read.0)
