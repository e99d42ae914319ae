-- The names so far, and those of what is left, are all.
use Rattle.std.proofs.Common.{◌≡◌, ◌++◌}
use Rattle.toml.specs.View.{members_view, table_view}
use Rattle.rx_diagnostics.specs.KnownKeys.{texts_of}
use Rattle.rx_diagnostics.specs.SheetNames.{names_in}
use Rattle.rx_diagnostics.proofs.sheet_names.names_in.Given as goal

abbrev pub invariant-loop-name : goal.invariant-loop-name
invariant-loop-name l =
    texts_of l.names.items ++ names_in (texts_of l.known) (members_view l.name-iterator)
    ≡ names_in (texts_of l.known) (table_view l.table)
