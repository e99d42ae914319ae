use Rattle.std.proofs.Common.{◌≡◌, ◌++◌}
use Rattle.std.specs.List.{filter, flat_map}
use Rattle.rx_settle.specs.Counting.{line}
use Rattle.rx_settle.specs.Providers.{is_same, named}
use Rattle.rx_settle.proofs.one_provider.put_line_of.Given as goal

-- what is written, and the line that is left to write
abbrev pub invariant-loop-field : goal.invariant-loop-field
invariant-loop-field l =
    l.text.items ++ flat_map line (filter (λ e. is_same l.id (named e.0)) l.field-iterator)
    ≡ l.initial.text.items ++ flat_map line (filter (λ e. is_same l.id (named e.0)) l.providers.entries)
