use Rattle.std.proofs.Common.{◌≡◌, true, sym, ap, ◌∙◌}
use Rattle.rx_books_text.specs.declared.line.Line.TheVariants as lines
use Rattle.rx_books_text.specs.Printed.{PrintedParts}
use Rattle.rx_books_text.specs.TextFault.{is_next}
use Rattle.rx_books_text.proofs.Added.{member_refused}
use Rattle.rx_books_text.proofs.printed.Printed.add_member.Goals as goal

pub returns-in-Err : goal.returns-in-Err
returns-in-Err c =
    let next : is_next c.args.self.now (lines.Member c.args.line) ≡ true =
    sym c.member_is_next.ensures ∙ c.if-not-member_is_next.false in
    let same : c.self.inside.ledger ≡ c.args.self.now.ledger = ap (λ (p : PrintedParts). p.ledger) c.self.view_is in
    rw c.refused.ensures (member_refused c.args.number c.args.self.now c.args.line c.in-Err.error next
    (rw same at c.in-Err.ensures.there) c.in-Err.ensures.known)
