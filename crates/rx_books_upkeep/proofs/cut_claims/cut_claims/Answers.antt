use Rattle.std.proofs.Common.{◌≡◌, List, ap, subst, ◌∙◌}
use Rattle.std.specs.List.{flat_map}
use Rattle.rx_ledger.specs.declared.row.Row.{Row}
use Rattle.rx_books_upkeep.specs.AgedText.{AreCut}
use Rattle.rx_books_upkeep.proofs.cut_claims.cut_claims.Goals as goal

pub returns-in_ok-gathered-in-Some : goal.returns-in_ok-gathered-in-Some
returns-in_ok-gathered-in-Some g c =
    let all : flat_map (λ (part : List Row). part) c.in-Some.claims.items ≡ c.args.books.now.books.ledger.rows =
    rw c.in-Some.is at c.in_ok-claims.ensures in
    subst (λ (rs : List Row). AreCut c.args.percent c.args.day rs c.in_ok-gathered-in-Some.field-0)
    (ap (flat_map (λ (part : List Row). part)) c.deref.ensures.value ∙ all)
    (c.in_ok-gathered-in-Some.ensures c.args.percent c.args.day c.deref.result.now c.in_ok-found-in-Some.ensures)
