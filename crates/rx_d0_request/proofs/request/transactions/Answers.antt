use Rattle.std.proofs.Common.{◌≡◌, ◌++◌, true, sym, ap, ◌∙◌}
use Rattle.std.proofs.lemmas.List.{append-nil}
use Rattle.rx_d0_values.specs.Listed.{are_transactions}
use Rattle.rx_d0_request.specs.Views.{insurance_texts}
use Rattle.rx_d0_request.proofs.Lists.{asked, are_asked, asked_two}
use Rattle.rx_d0_request.proofs.request.transactions.Goals as goal

pub loop-group-init : goal.loop-group-init
loop-group-init c =
    asked_two c.args.is_billing (insurance_texts c.args.common.now) c.args.pieces c.first.new.self c.next.new.self c.first.result.now
    c.in-Some.second.now
    c.in_ok-list.list.items c.extend_from_slice.new.self.items c.transaction-first.result c.transaction.result
    c.requires c.first.ensures.value c.first.ensures.rest c.in-Some.ensures.value c.transaction-first.ensures c.transaction.ensures
    c.in_ok-list.ensures.items c.in_ok-extend_from_slice.ensures.items

pub unreachable-requires : goal.unreachable-requires
unreachable-requires c =
    let is_billing = c.args.is_billing in
    let common = insurance_texts c.args.common.now in
    let items = c.loop-group.list.items in
    let ended : items ++ asked is_billing common c.loop-group.pieces ≡ items = rw c.in_default-next.ensures.value (append-nil items) in
    let all : items ≡ asked is_billing common c.args.pieces = sym ended ∙ c.loop-group.invariant in
    let good : are_transactions items ≡ true = ap are_transactions all ∙ are_asked is_billing common c.args.pieces c.requires in
    cc (c.in-Err.ensures.accepts.1 good)
