use Rattle.rx_schedule.specs.Footprints.{billed_by}
use Rattle.rx_schedule.specs.Billed.{is_biller}
use Rattle.rx_schedule.proofs.Noted.{more_noted}
use Rattle.rx_schedule.proofs.billers.Billers.note_heard.Goals as goal

pub billings-preserved : goal.billings-preserved
billings-preserved c = λ k f.
    more_noted (billed_by c.args.heard.now k) _ c.billings.transaction-index c.transaction-item.result f
    (is_biller c.args.self.now.families k f) (is_biller c.billings.self.families k f) _
    c.billings-test.true c.transaction-item.is (c.billings.invariant k f) (c.in_ok-note_billing.ensures k f)
