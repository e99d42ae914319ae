use Rattle.rx_schedule.specs.Jobs.{job}
use Rattle.rx_schedule.specs.Machine.{one_by_one, wave_by_wave}
use Rattle.rx_schedule.proofs.Interleaved.{ends, replies}
use Rattle.rx_schedule.proofs.Shared.{waves_number}
use Rattle.rx_schedule.proofs.Standing.{by_number, standing_legal, standing_whole}
use Rattle.rx_schedule.proofs.WaveByWave.{waves_legal, waves_whole}
use Rattle.rx_schedule.proofs.law.law_of_waves.Goals as goal

pub returns-clause-valid : goal.returns-clause-valid
returns-clause-valid c = λ lot plan L records numbers w. waves_number lot plan L records numbers w

pub returns-clause-keeps : goal.returns-clause-keeps
returns-clause-keeps c = λ lot plan L records number order v all goes. by_number (job lot plan L records) number order v all goes

pub returns-clause-books : goal.returns-clause-books
returns-clause-books c = λ lot plan L records o number order v all goes b.
    ends lot plan L records o (one_by_one order)
    (standing_legal (job lot plan L records) order all (by_number (job lot plan L records) number order v all goes))
    (standing_whole (job lot plan L records) order all) b

pub returns-clause-replies : goal.returns-clause-replies
returns-clause-replies c = λ lot plan L records o number order v all goes place at.
    replies lot plan L records o (one_by_one order)
    (standing_legal (job lot plan L records) order all (by_number (job lot plan L records) number order v all goes))
    (standing_whole (job lot plan L records) order all) place at

pub returns-clause-whole : goal.returns-clause-whole
returns-clause-whole c = λ lot plan L records number waves v goes.
    (waves_legal (job lot plan L records) number waves v goes, waves_whole (job lot plan L records) number waves goes)

pub returns-clause-whole_books : goal.returns-clause-whole_books
returns-clause-whole_books c = λ lot plan L records o number waves v goes b.
    ends lot plan L records o (wave_by_wave waves) (waves_legal (job lot plan L records) number waves v goes)
    (waves_whole (job lot plan L records) number waves goes) b

pub returns-clause-whole_replies : goal.returns-clause-whole_replies
returns-clause-whole_replies c = λ lot plan L records o number waves v goes place at.
    replies lot plan L records o (wave_by_wave waves) (waves_legal (job lot plan L records) number waves v goes)
    (waves_whole (job lot plan L records) number waves goes) place at
