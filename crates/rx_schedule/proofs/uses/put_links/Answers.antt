use Rattle.std.proofs.Common.{◌≡◌, ◌≤◌, ◌<◌, ◌++◌, append-nil, length, take, ap, sym, ◌∙◌, refl, arith}
use Rattle.std.proofs.lemmas.List.{take_all}
use Rattle.rx_schedule.specs.Links.{links_in}
use Rattle.rx_schedule.proofs.Linked.{links_first, put_more, use_exact}
use Rattle.rx_schedule.proofs.uses.put_links.Goals as goal
use Rattle.rx_schedule.proofs.uses.put_links.Goals.{then-is_eq+in_ok-push, else-is_eq}

pub put_in_order-requires : goal.put_in_order-requires
put_in_order-requires g c = use_exact g.K.Ord.cmp g.met.K.Ord.total c.requires

pub uses-init : goal.uses-init
uses-init g c = sym (append-nil c.args.links.now.items)
    ∙ ap (λ ls. c.args.links.now.items ++ ls) (sym (links_first g.K.Ord.cmp c.put_in_order.new.items.items))

pub uses-preserved : goal.uses-preserved
uses-preserved g c =
    let uses = c.put_in_order.new.items.items in
    let one : 1 ≤ c.uses.at = c.uses.auto.at in
    let lt : c.uses.at < length uses = omega (arith, c.put_in_order.new.items.ok, c.len-at-end.ensures) in
    let tied = c.is_eq.ensures ∙ ap (λ o. Rattle.std.specs.Ordering.is_eq o) c.cmp.ensures in
    elim c.if-is_eq.branch [
      | then-is_eq+in_ok-push w ↦ rw w.links-is (put_more g.K.Ord.cmp uses c.uses.at c.index.result.now c.index-in-uses.result.now
          c.args.links.now.items c.uses.links.items w.push.new.self.items c.is_eq.result one lt c.index.ensures
          c.index-in-uses.ensures c.uses.invariant tied (w.in_ok-push.ensures.items ∙ rw w.if-is_eq.true refl))
      | else-is_eq w ↦ rw w.links-is (put_more g.K.Ord.cmp uses c.uses.at c.index.result.now c.index-in-uses.result.now
          c.args.links.now.items c.uses.links.items c.uses.links.items c.is_eq.result one lt c.index.ensures
          c.index-in-uses.ensures c.uses.invariant tied (rw w.if-is_eq.false refl))
    ]

pub returns : goal.returns
returns g c =
    let uses = c.put_in_order.new.items.items in
    let all : take c.uses.at uses ≡ uses = take_all c.uses.at uses (omega (arith, c.put_in_order.new.items.ok, c.len-at-end.ensures)) in
    c.uses.invariant ∙ ap (λ us. c.args.links.now.items ++ links_in g.K.Ord.cmp us) (all ∙ c.put_in_order.ensures)
