use Rattle.std.proofs.Common.{map, take, option_copied}
use Rattle.rx_diagnostics.proofs.LeastApart.{IsBest}
use Rattle.rx_diagnostics.proofs.likeness.nearest.Given as goal

-- the nearest of those before
abbrev pub invariant-loop-candidate : goal.invariant-loop-candidate
invariant-loop-candidate l = IsBest l.name (map (λ k. k.now) (take l.candidate-index l.known)) (option_copied l.best) l.least
