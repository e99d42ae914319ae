-- Meaning: sections in the order of their nets.
use Rattle.std.specs.Prelude.{◌+◌, ◌≤◌, List, length}
use Rattle.std.specs.List.{AllAdjacentBelow}
use Rattle.rx_report.specs.declared.section.Section.{Section}

-- the net of the second isn't greater: what it is paid less what is taken back from it
abbrev pub NetIsNotGreater : Section → Section → Type 0
NetIsNotGreater s t = t.tally.paid_out + s.tally.taken_back ≤ s.tally.paid_out + t.tally.taken_back

-- no net is greater than the one before it
abbrev pub NetsFall : List Section → Type 0
NetsFall sections = AllAdjacentBelow NetIsNotGreater sections (length sections)
