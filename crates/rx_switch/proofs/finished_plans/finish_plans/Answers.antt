-- The plans' replies and those to the strays are those of the switch.
use Rattle.std.proofs.Common.{◌≡◌, List, [], ◌∷◌, length, map, ap, ◌∙◌, arith}
use Rattle.std.proofs.lemmas.List.{length-map, map-append}
use Rattle.rx_switch.specs.declared.finished_plans.PlanShare.{PlanShare}
use Rattle.rx_switch.specs.RouteParts.{Share, its_output, its_replies, its_share, opened, output_texts, share_of}
use Rattle.rx_switch.proofs.Finished.{all_finished, are_places, are_rejected}
use Rattle.rx_switch.proofs.Mapped.{mapped_twice}
use Rattle.rx_switch.proofs.finished_plans.finish_plans.Goals as goal

pub finish_beside-requires-clause-places : goal.finish_beside-requires-clause-places
finish_beside-requires-clause-places g c κs within = are_places c.requires.dealt.0 c.args.dealt.now c.requires.dealt.2

pub replies_to_strays-requires-clause-places : goal.replies_to_strays-requires-clause-places
replies_to_strays-requires-clause-places g c =
    rw (c.deref.ensures.value, c.places_of.ensures)
    (are_places c.requires.dealt.0 c.args.dealt.now c.requires.dealt.2 (length c.args.plans.now))

pub replies_to_strays-requires-clause-rejected : goal.replies_to_strays-requires-clause-rejected
replies_to_strays-requires-clause-rejected g c =
    let x = c.requires.dealt.0 in
    let long = ap length c.requires.dealt.1 ∙ length-map c.args.plans.now opened in
    let last : length c.args.plans.now ≡ length x.plans = omega (arith, long) in
    rw (c.deref.ensures.value, c.places_of.ensures, last) (are_rejected x c.args.dealt.now c.requires.dealt.2)

pub returns : goal.returns
returns g c = λ x plans apart is.
    let dealt = c.args.dealt.now in
    let given = c.args.plans.now in
    let shares : List PlanShare = c.in_ok-shares.shares.items in
    let long = ap length plans ∙ length-map given opened in
    let last : length c.args.plans.now ≡ length x.plans = omega (arith, long) in
    let strays = rw (c.deref.ensures.value, c.places_of.ensures, last) at c.in_ok-strays.ensures in
    let lists = ap (map (λ list. list.items)) c.in_ok-push.ensures.items
    ∙ map-append (λ list. list.items) c.in_ok-apart.apart.lists.items (c.in_ok-strays.strays ∷ []) in
    let made = c.in_ok-shares.ensures in
    let replies : map (λ (share : PlanShare). share.replies.items) shares ≡ map (its_replies dealt) given =
    mapped_twice share_of (its_share dealt) (λ (s : Share). s.replies) shares given made in
    let outputs : map (λ (share : PlanShare). output_texts share.output) shares ≡ map (its_output dealt) given =
    mapped_twice share_of (its_share dealt) (λ (s : Share). s.output) shares given made in
    all_finished x dealt is given plans c.requires.numbered apart
    (map (λ list. list.items) c.in_ok-apart.apart.lists.items) c.in_ok-strays.strays.items _
    (c.in_ok-apart.ensures.lists ∙ replies) strays lists (c.in_ok-apart.ensures.outputs ∙ outputs)
