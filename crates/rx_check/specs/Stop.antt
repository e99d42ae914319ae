-- Meaning: the warnings at which an adjudication ends before it writes anything.
use Rattle.std.specs.Prelude.{Bool, not, ◌&&◌, ◌||◌, ◌==◌, nat_lt, length, is_some}
use Rattle.rx_check.specs.Warned.{has_many_lines}
use Rattle.rx_check.specs.declared.warnings.Warnings.{Warnings}

-- books of another period, a batch of another plan, one that was adjudicated already, or end books that no run could read
abbrev pub is_unlikely : Warnings → Bool
is_unlikely w = is_some w.period || (w.none_under || (nat_lt 0 w.adjudicated || w.may_pass))

-- ignored keys of the sheet, or books with many lines
abbrev pub is_worth_a_look : Warnings → Bool
is_worth_a_look w = not (length w.ignored.items == 0) || has_many_lines w.lines

-- the former, unless it is to be done again; the latter only where it is to be strict
abbrev pub stops : Bool → Bool → Warnings → Bool
stops again strict w = (not again && is_unlikely w) || (strict && is_worth_a_look w)
