use Rattle.std.proofs.Common.{◌≡◌, true, sym, ap, Ok, ◌∙◌}
use Rattle.rx_ledger.specs.Ledger.{with_row}
use Rattle.rx_books_text.specs.declared.line.Line.TheVariants as lines
use Rattle.rx_books_text.specs.Printed.{PrintedParts}
use Rattle.rx_books_text.specs.TextFault.{is_next}
use Rattle.rx_books_text.proofs.Added.{claim_refused, claim_listed}
use Rattle.rx_books_text.proofs.printed.Printed.add_claim.Goals as goal

pub returns-in-Err : goal.returns-in-Err
returns-in-Err c =
    let next : is_next c.args.self.now (lines.Claim c.args.row) ≡ true =
    sym c.claim_is_next.ensures ∙ c.if-not-claim_is_next.false in
    let same : c.self.inside.ledger ≡ c.args.self.now.ledger = ap (λ (p : PrintedParts). p.ledger) c.self.view_is in
    rw c.refused.ensures (claim_refused c.args.number c.args.self.now c.args.row c.in-Err.error next
    (rw same at c.in-Err.ensures.there) (rw same at c.in-Err.ensures.unknown))

pub returns : goal.returns
returns c =
    let next : is_next c.args.self.now (lines.Claim c.args.row) ≡ true =
    sym c.claim_is_next.ensures ∙ c.if-not-claim_is_next.false in
    let same : c.self.inside.ledger ≡ c.args.self.now.ledger = ap (λ (p : PrintedParts). p.ledger) c.self.view_is in
    let listed = claim_listed c.args.self.now c.args.row c.in_default.field-0 next (rw same at c.in_default.ensures.unknown) in
    rw (next, listed, c.in_default.ensures.ok) (ap (λ (p : PrintedParts). Ok (record p { ledger = with_row p.ledger c.args.row }))
    (sym c.self.view_is))
