use Rattle.std.proofs.Common.{◌≡◌, Some, None, ap, sym, ◌∙◌}
use Rattle.rx_sorted.proofs.Places.{item_at-at, item_at-gap}
use Rattle.rx_ledger.specs.Members.{member_cmp, member_key}
use Rattle.rx_ledger.proofs.Orders.{member_total}
use Rattle.rx_books_upkeep.specs.Loading.{change_from, member_in}
use Rattle.rx_books_upkeep.proofs.change.change_near.Goals as goal

pub returns-in-Ok : goal.returns-in-Ok
returns-in-Ok c =
    let ms = c.args.members.now in
    let k = c.args.member.now.key in
    let own = c.index-members-at.result in
    let found : member_in ms k ≡ Some own =
    item_at-at member_cmp member_total member_key ms k c.in-Ok.at own c.requires c.in-Ok.ensures.found
    ∙ ap Some (sym c.index-members-at.is) in
    c.change_from.ensures ∙ ap (λ o. change_from o c.args.member.now) (sym found)

pub returns-in-Err : goal.returns-in-Err
returns-in-Err c =
    let none : member_in c.args.members.now c.args.member.now.key ≡ None =
    item_at-gap member_cmp member_total member_key c.args.members.now c.args.member.now.key c.in-Err.at
    c.in-Err.ensures.absent in
    ap (λ o. change_from o c.args.member.now) (sym none)
