use Rattle.rx_schedule.proofs.Noted.{billed_more, on_ok}
use Rattle.rx_schedule.proofs.billers.Billers.note.Goals as goal

pub returns : goal.returns
returns c = λ earlier has. on_ok c.note_body.result c.note_body.ensures
    (λ step. billed_more c.args.self.now.families c.note_body.new.self.families earlier c.args.transmission.now has step)
