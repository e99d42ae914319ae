use Rattle.std.proofs.Common.{subst}
use Rattle.rx_sorted.specs.Ascending.{IsAscending}
use Rattle.rx_fields.specs.Order.{id_cmp}
use Rattle.rx_books_text.specs.Printed.{PrintedParts, total_family}
use Rattle.rx_books_text.proofs.printed.Printed.totals.Goals as goal

pub returns-clause-ascending : goal.returns-clause-ascending
returns-clause-ascending c =
    subst (λ (p : PrintedParts). IsAscending id_cmp total_family p.totals) c.self.view_is c.as_slice.ensures.ascending
