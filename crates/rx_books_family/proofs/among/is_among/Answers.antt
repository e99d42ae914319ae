use Rattle.std.proofs.Common.{Some, sym, ap, ◌∙◌}
use Rattle.rx_sorted.proofs.Places.{item_at-at, item_at-gap}
use Rattle.rx_ledger.specs.Members.{member_cmp, member_key}
use Rattle.rx_ledger.proofs.Orders.{member_total}
use Rattle.rx_books_family.specs.Amended.{is_member_found}
use Rattle.rx_books_family.proofs.among.is_among.Goals as goal

pub returns-in-Ok : goal.returns-in-Ok
returns-in-Ok c =
    c.eq.ensures ∙ sym (ap (is_member_found c.args.member.now) (item_at-at member_cmp member_total member_key c.args.members.now
    c.args.member.now.key c.in-Ok.at c.index-members-at.result c.requires c.in-Ok.ensures.found ∙ ap Some (sym c.index-members-at.is)))

pub returns-in-Err : goal.returns-in-Err
returns-in-Err c =
    sym (ap (is_member_found c.args.member.now) (item_at-gap member_cmp member_total member_key c.args.members.now c.args.member.now.key
    c.in-Err.field-0 c.in-Err.ensures.absent))
