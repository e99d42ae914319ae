use Rattle.std.proofs.Common.{◌≡◌, ◌++◌}
use Rattle.std.specs.List.{flat_map}
use Rattle.rx_books_scan.proofs.cut.pieces.Given as goal

-- the pieces so far, and what is left, are the text
abbrev pub invariant-loop-place : goal.invariant-loop-place
invariant-loop-place l = flat_map (λ piece. piece.now) l.pieces.items ++ l.rest ≡ l.text
