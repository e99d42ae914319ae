use Rattle.std.proofs.Common.{◌≡◌, [], length, refl, sym, ap, ◌∙◌}
use Rattle.rx_books_store.specs.BooksText.{families_of}
use Rattle.rx_books_store.proofs.Adding.{counted_none}
use Rattle.rx_books_store.proofs.Openings.{length-names}
use Rattle.rx_books_store.proofs.opening_sums.no_sums.Goals as goal

pub returns : goal.returns
returns c =
    let ms = c.args.opening.now.members in
    let here : length c.as_slice-members.result.now ≡ length ms = ap length (c.as_slice-members.ensures.value ∙ c.members.ensures.value) in
    let theirs : length c.families.result.now ≡ length (families_of ms) =
    sym (length-names c.families.result.now) ∙ ap length c.families.ensures in
    λ period.
    let none = counted_none period ms [] [] _ _ _ _ _ refl c.in_ok-figures.ensures.members here
    c.in_ok-figures.ensures.pockets c.in_ok-figures.ensures.families theirs in
    record { figures = none.figures; small = none.small }
