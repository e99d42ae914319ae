use Rattle.std.proofs.Common.{◌≡◌, get_or, arith}
use Rattle.rx_d0_reply.proofs.Shapes.{group_in_order}
use Rattle.rx_d0_reply.proofs.shape.is_group.Goals as goal

pub returns-in-30 : goal.returns-in-30
returns-in-30 c =
    let first : get_or c.args.group.now 0 0 ≡ 30 = omega arith in
    group_in_order c.args.group.now c.are_labelled.result first c.in-30.len_at_least c.are_labelled.ensures
