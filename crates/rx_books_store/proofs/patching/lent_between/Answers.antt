use Rattle.std.proofs.Common.{◌++◌, append_assoc, ap, ◌∙◌}
use Rattle.rx_io.specs.Patches.{Patch}
use Rattle.rx_books_store.specs.BooksText.{claims_text}
use Rattle.rx_books_store.specs.Store.{standing_rows}
use Rattle.rx_books_store.proofs.patching.lent_between.Goals as goal

pub put_standing-requires : goal.put_standing-requires
put_standing-requires c = record {
  kept = c.requires.kept;
  lender = ap (λ (p : Patch). p.lender) c.in_ok-text.ensures;
  rise = c.requires.rise;
  own = c.requires.own;
}

pub returns : goal.returns
returns c =
    let claims = claims_text (standing_rows c.args.opening.now.rows c.args.slots.now) in
    ap (λ (p : Patch). p.text) c.in_ok-put.ensures
    ∙ ap (λ t. t ++ c.args.below.now) (c.in_ok-put_standing.ensures ∙ ap (λ (p : Patch). p.text ++ claims) c.in_ok-text.ensures)
    ∙ append_assoc c.args.above.items claims c.args.below.now
