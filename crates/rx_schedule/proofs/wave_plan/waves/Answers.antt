use Rattle.std.proofs.Common.{◌≡◌, ◌-◌, ◌≤◌, length, arith, subst}
use Rattle.std.proofs.lemmas.List.{get_or_read}
use Rattle.rx_schedule.specs.Marked.{IsDown}
use Rattle.rx_schedule.proofs.Scanned.{down_ends, down_step, scanned_waves}
use Rattle.rx_schedule.proofs.Longest.{are_longest, chain_shares, none_fewer}
use Rattle.rx_schedule.proofs.wave_plan.waves.Goals as goal

pub members-preserved : goal.members-preserved
members-preserved c =
    let fs = c.args.footprints.now in
    let s = c.in_ok-scan.scan in
    let next = c.members.invariant.next c.members-test.true in
    let to : c.members.place ≤ length fs = next.1 in
    let long : length s.before.items ≡ length fs = c.in_ok-scan.ensures.as_many_before in
    down_step fs (length fs) s.keys.last s.families.last s.numbers.items s.before.items s.top c.in_ok-scan.ensures (omega arith)
    c.members.left c.members.place c.index-place.result.now c.members.chain.items c.members-test.true c.members.invariant
    (λ one. get_or_read s.before.items (c.members.place - 1) c.index-place.result.now (omega arith) c.index-place.ensures 0)

pub returns-clause-waves : goal.returns-clause-waves
returns-clause-waves c =
    let fs = c.args.footprints.now in
    let s = c.in_ok-scan.scan in
    scanned_waves fs (length fs) s.keys.last s.families.last s.numbers.items s.before.items s.top c.in_ok-scan.ensures (omega arith)

pub returns-clause-longest : goal.returns-clause-longest
returns-clause-longest c =
    let fs = c.args.footprints.now in
    let s = c.in_ok-scan.scan in
    are_longest fs s.numbers.items
    (scanned_waves fs (length fs) s.keys.last s.families.last s.numbers.items s.before.items s.top c.in_ok-scan.ensures (omega arith))

pub returns-clause-shared : goal.returns-clause-shared
returns-clause-shared c =
    let fs = c.args.footprints.now in
    let s = c.in_ok-scan.scan in
    let none : c.members.left ≡ 0 = omega arith in
    chain_shares fs s.numbers.items s.top.wave c.members.chain.items
    (scanned_waves fs (length fs) s.keys.last s.families.last s.numbers.items s.before.items s.top c.in_ok-scan.ensures (omega arith))
    (down_ends fs (length fs) s.keys.last s.families.last s.numbers.items s.before.items s.top c.in_ok-scan.ensures (omega arith)
    c.members.place c.members.chain.items
    (subst (λ n. IsDown fs s.numbers.items s.top n c.members.place c.members.chain.items) none c.members.invariant))

pub returns-clause-fewest : goal.returns-clause-fewest
returns-clause-fewest c =
    let fs = c.args.footprints.now in
    let s = c.in_ok-scan.scan in
    none_fewer fs s.numbers.items
    (scanned_waves fs (length fs) s.keys.last s.families.last s.numbers.items s.before.items s.top c.in_ok-scan.ensures (omega arith))
