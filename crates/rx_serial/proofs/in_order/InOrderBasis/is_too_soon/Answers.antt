-- Some fill that is counted is too soon exactly where some row of the family is.
use Rattle.std.proofs.Common.{◌≡◌, Bool, ap, ◌∙◌}
use Rattle.std.specs.Prelude.{◌&&◌}
use Rattle.std.specs.List.{list_any}
use Rattle.rx_ledger.specs.declared.row.Row.{Row}
use Rattle.rx_ledger.specs.Answers.{is_too_soon}
use Rattle.rx_ledger.specs.Rows.{claimed_by}
use Rattle.rx_ledger.proofs.Found.{any_of_passed}
use Rattle.rx_serial.specs.declared.refill.Refill.{Refill}
use Rattle.rx_serial.specs.Fills.{concerns, fill_of, is_counted, refill_of}
use Rattle.rx_serial.proofs.Counting.{any_filled}
use Rattle.rx_serial.proofs.Refills.{concerned_row}
use Rattle.rx_serial.proofs.in_order.InOrderBasis.is_too_soon.Goals as goal

pub returns-then-are_counted_for : goal.returns-then-are_counted_for
returns-then-are_counted_for c =
    let L = c.self.inside.books.books.ledger in
    let figures = c.args.figures.now in
    let date = c.args.date in
    let b = c.args.bill.now in
    let i = c.in-Some.holder in
    let f : Refill = refill_of figures date b i in
    let found = rw (← c.self.view_is, c.of.ensures) at c.in-Some.ensures.found in
    let covers = rw c.of-refill.ensures at c.are_counted_for.ensures in
    let filled = any_filled (is_counted c.self.inside.marks c.self.inside.first_day) L.members L.rows
    c.self.inside.fills (concerns f) c.is_too_soon.ensures.within c.self.invariant.counted
    (covers c.if-are_counted_for.true) in
    let of_fill : Row → Bool = λ r. concerns f (fill_of L.members r) in
    let of_row : Row → Bool = λ r. claimed_by b.family r && is_too_soon figures date b r in
    let same : of_fill ≡ of_row = λ j r.
    concerned_row figures date b L.members i r c.self.invariant.in_order.members_rise found j in
    let told = rw c.of-refill.ensures at c.is_too_soon.ensures.value in
    rw (← c.self.view_is)
    (told ∙ filled ∙ ap (λ (test : Row → Bool). list_any test L.rows) same
    ∙ any_of_passed (claimed_by b.family) (is_too_soon figures date b) L.rows)
