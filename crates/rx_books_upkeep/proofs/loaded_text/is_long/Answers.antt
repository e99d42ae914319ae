use Rattle.std.proofs.Common.{◌+◌, ◌∙◌, arith}
use Rattle.std.specs.Prelude.{nat_lt}
use Rattle.rx_fields.specs.declared.limits.TheConstants.{MOST_LINES}
use Rattle.rx_books_upkeep.proofs.FiguredText.{same_test}
use Rattle.rx_books_upkeep.proofs.loaded_text.is_long.Goals as goal

pub returns : goal.returns
returns c =
    same_test MOST_LINES c.line_feeds.result c.line_feeds-2.result c.args.claims c.saturating_add-others.result
    c.saturating_add.result c.saturating_add-others.ensures c.saturating_add.ensures (omega arith)
    ∙ (λ i. nat_lt MOST_LINES (c.line_feeds.ensures i + c.line_feeds-2.ensures i + c.args.claims))
