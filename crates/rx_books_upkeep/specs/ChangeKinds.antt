-- Plumbing: of which kind a change is.
use Rattle.std.specs.Prelude.{Bool, true, false, List}
use Rattle.std.specs.List.{count_by}
use Rattle.rx_books_upkeep.specs.declared.change.Change.{Change}
use Rattle.rx_books_upkeep.specs.declared.change.Change.TheVariants.{CameIn, Changed, Stayed}
use Rattle.rx_books_upkeep.specs.declared.change.MemberChange.{MemberChange}
use Rattle.rx_books_upkeep.specs.declared.change.Loaded.{Loaded}

abbrev pub is_in : Change → Bool
is_in CameIn = true
is_in other = false

abbrev pub is_other : Change → Bool
is_other Changed = true
is_other other = false

abbrev pub is_same : Change → Bool
is_same Stayed = true
is_same other = false

abbrev pub came_in : MemberChange → Bool
came_in c = is_in c.change

abbrev pub changed : MemberChange → Bool
changed c = is_other c.change

abbrev pub stayed : MemberChange → Bool
stayed c = is_same c.change

-- how many there are of each kind
abbrev pub counts_in : List MemberChange → Loaded
counts_in cs = record { came_in = count_by came_in cs; changed = count_by changed cs; stayed = count_by stayed cs }
