-- The names put, and those that are left, are all.
use Rattle.std.proofs.Common.{◌≡◌, ◌++◌, length, string_bytes}
use Rattle.rx_diagnostics.specs.KnownKeys.{texts_of}
use Rattle.rx_diagnostics.specs.SheetNames.{names_text}
use Rattle.rx_diagnostics.proofs.sheet_names.names_words.Given as goal

abbrev pub invariant-loop-left : goal.invariant-loop-left
invariant-loop-left l = string_bytes l.said ++ names_text (texts_of l.left) ≡ names_text (texts_of l.names)

abbrev pub decreases-loop-left : goal.decreases-loop-left
decreases-loop-left l = length l.left
