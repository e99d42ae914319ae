use Rattle.rx_ledger.proofs.Placed.{IsTermsOf-placed}
use Rattle.rx_ledger.proofs.sheet.Sheet.terms.Goals as goal

pub returns : goal.returns
returns c =
    IsTermsOf-placed c.args.lot c.args.self.now c.args.transmission.now c.figures-figures.result.now
    c.transactions-list.result.now
    c.billed_at-first.result c.billed_at-second.result c.billed_at-third.result c.billed_at-fourth.result
    c.figures-figures.ensures.value c.transactions-list.ensures.value c.transactions-list.ensures.few
    c.billed_at-first.ensures.value c.billed_at-second.ensures.value c.billed_at-third.ensures.value
    c.billed_at-fourth.ensures.value
