use Rattle.std.proofs.Common.{◌+◌, refl}
use Rattle.std.proofs.lemmas.List.{take_all}
use Rattle.rx_schedule.proofs.Spread.{spread_step, spread_within, together}
use Rattle.rx_schedule.proofs.uses.Uses.of.Goals as goal

pub footprints-preserved : goal.footprints-preserved
footprints-preserved c =
    let fs = c.args.footprints.now in
    record {
      keys = spread_step (λ F. F.keys) fs c.footprints.at (c.footprints.at + 1) c.index-footprints-at.result c.keys.result.now
          c.footprints.keys.items c.put_uses.new.uses.items c.footprints-test.true c.index-footprints-at.is
          c.keys.ensures.value refl c.footprints.invariant.keys c.in_ok-put_uses.ensures;
      families = spread_step (λ F. F.families) fs c.footprints.at (c.footprints.at + 1) c.index-footprints-at.result
          c.families.result.now c.footprints.families.items c.put_uses-in-footprints.new.uses.items c.footprints-test.true
          c.index-footprints-at.is c.families.ensures.value refl c.footprints.invariant.families c.in_ok-put_uses-2.ensures;
    }

pub returns : goal.returns
returns c =
    let fs = c.args.footprints.now in
    let all = take_all c.footprints.at fs c.footprints-test.false in
    rw (c.footprints.invariant.keys, c.footprints.invariant.families, all) (together fs)

pub invariant_of-result : goal.invariant_of-result
invariant_of-result c =
    let fs = c.args.footprints.now in
    let all = take_all c.footprints.at fs c.footprints-test.false in
    rw (c.footprints.invariant.keys, c.footprints.invariant.families, all)
    (spread_within (λ F. F.keys) fs, spread_within (λ F. F.families) fs)
