use Rattle.std.proofs.Common.{sym, ◌∙◌}
use Rattle.rx_books_text.specs.Printed.{member_lines}
use Rattle.rx_books_scan.specs.Lists.{claim_lines, total_lines}
use Rattle.rx_books_scan.proofs.Begins.{begin_all}
use Rattle.rx_books_scan.proofs.part.read_part.Goals as goal

pub returns : goal.returns
returns c =
    let members = c.in-Some.members in
    let claims = c.in-Some-claims_at.claims in
    record {
      lines = begin_all c.args.version c.args.text.now c.in-Some.rest.now c.in-Some-claims_at.rest.now
          c.in-Some-totals_at.rest.now (member_lines members.members.items members.deductibles.items)
          (claim_lines claims.rows.items) (total_lines c.in-Some-totals_at.totals.items)
          c.in-Some.ensures.lines c.in-Some-claims_at.ensures.lines c.in-Some-totals_at.ensures
          (sym c.is_empty.ensures ∙ c.if-not-is_empty.false);
      measured = record { members = c.in-Some.ensures.bytes; claims = c.in-Some-claims_at.ensures.lengths };
    }
