use Rattle.std.proofs.Common.{sym, ◌∙◌, arith}
use Rattle.rx_d0_reply.proofs.Shapes.{count_above, fault_is}
use Rattle.rx_d0_reply.proofs.shape.fault_of.Goals as goal

pub overflow_sub-bytes : goal.overflow_sub-bytes
overflow_sub-bytes c =
    omega (arith, count_above c.args.bytes.now (sym c.is_header.ensures ∙ c.if-not-is_header.false))

pub returns-then-are_groups : goal.returns-then-are_groups
returns-then-are_groups c =
    fault_is c.args.bytes.now c.from-count.result (sym c.is_header.ensures ∙ c.if-not-is_header.false) c.from-count.ensures
    (sym c.are_groups.ensures ∙ c.if-are_groups.true)

pub returns-else-are_groups : goal.returns-else-are_groups
returns-else-are_groups c =
    fault_is c.args.bytes.now c.from-count.result (sym c.is_header.ensures ∙ c.if-not-is_header.false) c.from-count.ensures
    (sym c.are_groups.ensures ∙ c.if-are_groups.false)
