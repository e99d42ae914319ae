use Rattle.std.proofs.Common.{◌≡◌, Some, false, sym, ap, ◌∙◌}
use Rattle.std.specs.Prelude.{is_some}
use Rattle.std.proofs.lemmas.Option.{get_or_from_slice_get}
use Rattle.rx_sorted.proofs.LookUps.{item_at-free}
use Rattle.rx_sorted.proofs.Places.{item_at-at}
use Rattle.rx_ledger.specs.Ledger.{is_listed}
use Rattle.rx_ledger.specs.Members.{member_cmp, member_key}
use Rattle.rx_ledger.proofs.Found.{person_found}
use Rattle.rx_ledger.proofs.Orders.{member_total}
use Rattle.rx_serial.proofs.in_order.InOrderBasis.member.Goals as goal

pub returns-in-Some : goal.returns-in-Some
returns-in-Some c =
    let L = c.self.inside.books.books.ledger in
    let k = c.args.key.now in
    let m = c.member_at.result.now in
    let at = rw (← c.self.view_is) at c.in-Some.ensures.found in
    let found = item_at-at member_cmp member_total member_key L.members k c.in-Some.holder m
    c.self.invariant.in_order.members_rise at in
    rw (← c.self.view_is)
    (sym (sym (person_found L.members k.family k.person) ∙ found
    ∙ ap Some (get_or_from_slice_get L.members c.in-Some.holder m m c.member_at.ensures)))

pub returns-in-None : goal.returns-in-None
returns-in-None c =
    let L = c.args.self.now.books.ledger in
    let k = c.args.key.now in
    let absent : is_listed L k ≡ false = sym c.holder_of.ensures.listed ∙ ap is_some c.in-None.is in
    sym (sym (person_found L.members k.family k.person)
    ∙ item_at-free member_cmp member_total member_key L.members k absent)
