-- The reply at one more place is put where the record there names the plan.
use Rattle.std.proofs.Common.{◌≡◌, ◌<◌, ◌-◌, ◌∙◌, ap, get_or, length, map, sym, arith}
use Rattle.rx_schedule.specs.Shards.{places_of}
use Rattle.rx_switch.specs.Own.{no_reply}
use Rattle.rx_commands.specs.Own.{is_own}
use Rattle.rx_commands.proofs.OwnRecords.{pass_over, put_more, reply_there}
use Rattle.rx_commands.proofs.own_records.own_replies.Goals.{then-is_own+in_ok-copy_of+in_ok-push, else-is_own}
use Rattle.rx_commands.proofs.own_records.own_replies.Goals as goal

pub loop-at-preserved : goal.loop-at-preserved
loop-at-preserved c =
    let b = c.args.batch.now in
    let replies = b.replies.items in
    let at = c.loop-at.at in
    let low : at < length replies = omega (arith, c.len-at-end.ensures) in
    elim c.if-is_own.branch [
      | then-is_own+in_ok-copy_of+in_ok-push w ↦
          put_more (is_own b) (λ place. get_or replies (place - 1) no_reply) at w.in_ok-copy_of.field-0 c.loop-at.own.items
          c.if-is_own.own.items c.loop-at.invariant (sym w.if-is_own.ensures)
          (reply_there replies at w.index.result.now w.in_ok-copy_of.field-0 low w.index.ensures w.in_ok-copy_of.ensures)
          (ap (λ v. v.items) w.own-is ∙ w.in_ok-push.ensures.items)
      | else-is_own w ↦
          pass_over (is_own b) (λ place. get_or replies (place - 1) no_reply) at c.if-is_own.own.items
          (ap (λ v. v.items) w.own-is ∙ c.loop-at.invariant) (sym w.if-is_own.ensures)
    ]

pub returns : goal.returns
returns c =
    let b = c.args.batch.now in
    let all : c.loop-at.at ≡ length b.details = omega (arith, c.len-at-end.ensures, c.requires) in
    c.loop-at.invariant
    ∙ ap (λ n. map (λ place. get_or b.replies.items (place - 1) no_reply) (places_of (is_own b) n)) all
