use Rattle.std.proofs.Common.{◌∷◌, subst}
use Rattle.rx_schedule.specs.declared.event.Event.TheVariants.{Take}
use Rattle.rx_schedule.specs.Jobs.{job}
use Rattle.rx_schedule.specs.Machine.{IsLegal, one_by_one}
use Rattle.rx_schedule.proofs.Interleaved.{ends, finds, leaves, replies}
use Rattle.rx_schedule.proofs.Standing.{standing_before, standing_legal, standing_whole}
use Rattle.rx_schedule.proofs.law.law_of_standing.Goals as goal

pub returns-clause-legal : goal.returns-clause-legal
returns-clause-legal c = λ lot plan L records order all keeps.
    (standing_legal (job lot plan L records) order all keeps, standing_whole (job lot plan L records) order all)

pub returns-clause-finds : goal.returns-clause-finds
returns-clause-finds c = λ lot plan L records o order all keeps later place before is b named.
    let legal = standing_before (job lot plan L records) later (place ∷ before)
    (subst (λ ps. IsLegal (job lot plan L records) (one_by_one ps)) is (standing_legal (job lot plan L records) order all keeps)) in
    finds lot plan L records o (one_by_one before) place legal.1 b named

pub returns-clause-leaves : goal.returns-clause-leaves
returns-clause-leaves c = λ lot plan L records o order all keeps later place before is b named.
    let legal = standing_before (job lot plan L records) later (place ∷ before)
    (subst (λ ps. IsLegal (job lot plan L records) (one_by_one ps)) is (standing_legal (job lot plan L records) order all keeps)) in
    leaves lot plan L records o (Take place ∷ one_by_one before) place legal b named

pub returns-clause-books : goal.returns-clause-books
returns-clause-books c = λ lot plan L records o order all keeps b.
    ends lot plan L records o (one_by_one order) (standing_legal (job lot plan L records) order all keeps)
    (standing_whole (job lot plan L records) order all) b

pub returns-clause-replies : goal.returns-clause-replies
returns-clause-replies c = λ lot plan L records o order all keeps place at.
    replies lot plan L records o (one_by_one order) (standing_legal (job lot plan L records) order all keeps)
    (standing_whole (job lot plan L records) order all) place at
