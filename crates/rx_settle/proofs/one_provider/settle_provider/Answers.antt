use Rattle.std.proofs.Common.{◌∙◌, ◌++◌}
use Rattle.std.specs.List.{filter, flat_map}
use Rattle.rx_settle.proofs.Tallied.{lines_alone}
use Rattle.rx_settle.specs.Counting.{line}
use Rattle.rx_settle.specs.Providers.{is_same, named}
use Rattle.rx_settle.proofs.one_provider.settle_provider.Goals as goal

-- the line of the one tally, after an empty text
pub returns : goal.returns
returns c =
    c.in_ok-put_line_of.ensures
    ∙ (λ j. c.new-text.ensures.items j ++ flat_map line (filter (λ e. is_same c.args.id.now (named e.0))
    (c.in_ok-tallied.ensures.providers j)))
    ∙ lines_alone c.args.id.now c.args.replies.now
