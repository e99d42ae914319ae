-- Plumbing: how answers that differ are counted, one after another.
use Rattle.std.specs.Prelude.{ℕ, ◌+◌, ℤ, pos, ◌-ℤ◌, List, [], ◌∷◌}
use Rattle.rx_commands.specs.Differing.{Differing, less, more}
use Rattle.rx_commands.specs.declared.comparing.change.Change.{Change}

abbrev pub no_change : Change
no_change = record { count = 0; more = 0; less = 0 }

-- one more
abbrev pub added : Change → Differing → Change
added c d = record { count = c.count + 1; more = c.more + more d; less = c.less + less d }

-- these more
abbrev pub after : Change → List Differing → Change
after c [] = c
after c (d ∷ ds) = after (added c d) ds

-- all numbers together, which none of them passes
abbrev pub weight : Change → ℕ
weight c = c.count + c.more + c.less

-- by how many cents the net is more
abbrev pub cents_of : Change → ℤ
cents_of c = pos c.more -ℤ pos c.less
