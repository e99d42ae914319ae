-- What is found among the members and total lines that are left is what is found among all.
use Rattle.std.proofs.Common.{◌≡◌, drop}
use Rattle.std.specs.Prelude.{find}
use Rattle.rx_books_text.specs.Printed.{total_family}
use Rattle.rx_fields.specs.Order.{id_cmp}
use Rattle.rx_sorted.specs.Ascending.{IsAscending}
use Rattle.rx_diagnostics.specs.BooksTotals.{lacks_total}
use Rattle.rx_diagnostics.proofs.books_totals.first_lacking.Given as goal

abbrev pub invariant-loop-member : goal.invariant-loop-member
invariant-loop-member l =
    record {
      same : find (lacks_total l.left) (drop l.member-index l.members) ≡ find (lacks_total l.totals) l.members;
      rise : IsAscending id_cmp total_family l.left;
    }
