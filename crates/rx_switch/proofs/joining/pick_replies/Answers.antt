-- The lists of the plans, and the replies to the strays after them.
use Rattle.std.proofs.Common.{◌≡◌, ◌∷◌, [], List, ◌∙◌, ap, arith, length, map, refl, subst, sym}
use Rattle.std.proofs.lemmas.List.{map-append}
use Rattle.std.proofs.lemmas.Result.{err_from_is_err_and}
use Rattle.rx_d0_values.specs.declared.reply.Reply.{Reply}
use Rattle.rx_settle.specs.Settlement.{settlement_text}
use Rattle.rx_switch.specs.JoinParts.{join_inputs}
use Rattle.rx_switch.specs.JoinRefused.IsNotJoined.{memory}
use Rattle.rx_wave.specs.Jobs.{AreReplies}
use Rattle.rx_switch.proofs.Finished.{are_places, are_rejected}
use Rattle.rx_switch.proofs.JoinWhole.{all_joined, all_replied, as_many, at_its_stamp, map_again}
use Rattle.rx_switch.proofs.JoinWhole.{reply as joined_reply}
use Rattle.rx_switch.proofs.joining.pick_replies.Goals as goal

pub lists_of_plans-requires-clause-dealt : goal.lists_of_plans-requires-clause-dealt
lists_of_plans-requires-clause-dealt g c =
    let given = c.requires.given in
    let x = join_inputs c.args.stamp given.1 c.args.batch.now in
    (x, refl, c.in_ok-dealt.ensures x refl refl refl given.2.doors_are)

pub replies_to_strays-requires-clause-places : goal.replies_to_strays-requires-clause-places
replies_to_strays-requires-clause-places g c =
    let given = c.requires.given in
    let x = join_inputs c.args.stamp given.1 c.args.batch.now in
    let dealt = c.in_ok-dealt.ensures x refl refl refl given.2.doors_are in
    rw (c.deref-2.ensures.value, c.places_of.ensures) (are_places x c.in_ok-dealt.dealt dealt (length c.args.texts.now))

pub replies_to_strays-requires-clause-rejected : goal.replies_to_strays-requires-clause-rejected
replies_to_strays-requires-clause-rejected g c =
    let given = c.requires.given in
    let x = join_inputs c.args.stamp given.1 c.args.batch.now in
    let dealt = c.in_ok-dealt.ensures x refl refl refl given.2.doors_are in
    let long = as_many given.0 given.1 c.args.texts.now c.args.doors.now c.args.stamp c.args.batch.now given.2 c.in_ok-dealt.dealt
    dealt in
    let last : length c.args.texts.now ≡ length given.1 = omega (arith, long) in
    rw (c.deref-2.ensures.value, c.places_of.ensures, last) (are_rejected x c.in_ok-dealt.dealt dealt)

pub replies_in_order-requires : goal.replies_in_order-requires
replies_in_order-requires g c =
    let given = c.requires.given in
    let x = join_inputs c.args.stamp given.1 c.args.batch.now in
    let dealt = c.in_ok-dealt.ensures x refl refl refl given.2.doors_are in
    let texts = c.args.texts.now in
    let long = as_many given.0 given.1 texts c.args.doors.now c.args.stamp c.args.batch.now given.2 c.in_ok-dealt.dealt dealt in
    let last : length c.args.texts.now ≡ length given.1 = omega (arith, long) in
    let strays = rw (c.deref-2.ensures.value, c.places_of.ensures, last) at c.in_ok-strays.ensures in
    let lists : List (List Reply) = map (λ list. list.items) c.in_ok-lists.lists.items in
    let all = ap (map (λ list. list.items)) c.in_ok-push.ensures.items
    ∙ map-append (λ list. list.items) c.in_ok-lists.lists.items (c.in_ok-strays.strays ∷ []) in
    let reply = joined_reply given.0 given.1 texts c.args.doors.now c.args.stamp c.args.batch.now given.2 c.in_ok-dealt.dealt dealt
    lists c.in_ok-strays.strays.items c.in_ok-lists.ensures.picked strays in
    let are = all_replied given.0 given.1 texts c.args.doors.now c.args.stamp c.args.batch.now given.2 c.in_ok-dealt.dealt dealt
    lists c.in_ok-strays.strays.items c.in_ok-lists.ensures.picked strays in
    (reply, rw (c.deref-3.ensures.value) (subst (AreReplies reply c.in_ok-dealt.dealt.numbers.items) (sym all) are))

pub returns-in_err-dealt-clause-refused : goal.returns-in_err-dealt-clause-refused
returns-in_err-dealt-clause-refused g c join plans is =
    let p = err_from_is_err_and c.from_residual.result c.from_residual.ensures.1 in
    rw (p.1, p.2) memory

pub returns-in_err-lists-clause-refused : goal.returns-in_err-lists-clause-refused
returns-in_err-lists-clause-refused g c join plans is =
    let p = err_from_is_err_and c.from_residual-in_err-lists.result c.from_residual-in_err-lists.ensures.1 in
    let x = join_inputs c.args.stamp plans c.args.batch.now in
    let dealt = c.in_ok-dealt.ensures x refl refl refl is.doors_are in
    let both = at_its_stamp join plans c.args.texts.now c.args.doors.now c.args.stamp c.args.batch.now is c.in_ok-dealt.dealt dealt in
    rw (p.1, p.2) (c.in_err-lists.ensures.refused join plans both.0 both.1)

pub returns-in_err-settlements-clause-refused : goal.returns-in_err-settlements-clause-refused
returns-in_err-settlements-clause-refused g c join plans is =
    let p = err_from_is_err_and c.from_residual-in_err-settlements.result c.from_residual-in_err-settlements.ensures.1 in
    rw (p.1, p.2, c.in_err-settlements.ensures.refused) memory

pub returns-in_err-strays-clause-refused : goal.returns-in_err-strays-clause-refused
returns-in_err-strays-clause-refused g c join plans is =
    let p = err_from_is_err_and c.from_residual-in_err-strays.result c.from_residual-in_err-strays.ensures.1 in
    rw (p.1, p.2) memory

pub returns-in_err-push-clause-refused : goal.returns-in_err-push-clause-refused
returns-in_err-push-clause-refused g c join plans is =
    let p = err_from_is_err_and c.from_residual-in_err-push.result c.from_residual-in_err-push.ensures.1 in
    rw (p.1, p.2) memory

pub returns-in_err-replies-clause-refused : goal.returns-in_err-replies-clause-refused
returns-in_err-replies-clause-refused g c join plans is =
    let p = err_from_is_err_and c.from_residual-in_err-replies.result c.from_residual-in_err-replies.ensures.1 in
    rw (p.1, p.2) memory

pub returns-clause-joined : goal.returns-clause-joined
returns-clause-joined g c join plans is =
    let x = join_inputs c.args.stamp plans c.args.batch.now in
    let dealt = c.in_ok-dealt.ensures x refl refl refl is.doors_are in
    let texts = c.args.texts.now in
    let long = as_many join plans texts c.args.doors.now c.args.stamp c.args.batch.now is c.in_ok-dealt.dealt dealt in
    let last : length c.args.texts.now ≡ length plans = omega (arith, long) in
    let strays = rw (c.deref-2.ensures.value, c.places_of.ensures, last) at c.in_ok-strays.ensures in
    let lists : List (List Reply) = map (λ list. list.items) c.in_ok-lists.lists.items in
    let all = ap (map (λ list. list.items)) c.in_ok-push.ensures.items
    ∙ map-append (λ list. list.items) c.in_ok-lists.lists.items (c.in_ok-strays.strays ∷ []) in
    let reply = joined_reply join plans texts c.args.doors.now c.args.stamp c.args.batch.now is c.in_ok-dealt.dealt dealt
    lists c.in_ok-strays.strays.items c.in_ok-lists.ensures.picked strays in
    let are = all_replied join plans texts c.args.doors.now c.args.stamp c.args.batch.now is c.in_ok-dealt.dealt dealt
    lists c.in_ok-strays.strays.items c.in_ok-lists.ensures.picked strays in
    let made = c.in_ok-replies.ensures reply
    (rw (c.deref-3.ensures.value) (subst (AreReplies reply c.in_ok-dealt.dealt.numbers.items) (sym all) are)) in
    let settled = rw (c.deref.ensures.value) at c.in_ok-settlements.ensures.settled in
    all_joined join plans texts c.args.doors.now c.args.stamp c.args.batch.now is c.in_ok-dealt.dealt dealt
    lists c.in_ok-strays.strays.items c.in_ok-lists.ensures.picked strays _ _ (rw (c.deref-3.ensures.value) at made)
    (settled ∙ sym (map_again (λ list. list.items)
    (settlement_text c.in_ok-dealt.dealt.lot c.in_ok-dealt.dealt.stamp) c.in_ok-lists.lists.items))
