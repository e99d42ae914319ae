-- Meaning: the known name that is most like a given one.
use Rattle.std.specs.Prelude.{ℕ, ◌+◌, ◌-◌, Bool, ◌&&◌, nat_eq, nat_le, nat_lt, if◌then◌else◌, max, min}
use Rattle.std.specs.Prelude.{List, [], ◌∷◌, filter, length, reverse, Option, Some, None}
use Rattle.std.specs.List.{common_prefix_len}
use Rattle.rx_diagnostics.specs.declared.likeness.TheConstants.{MOST_APART}

-- how many bytes both have at the front, and at the end
abbrev pub in_front : List ℕ → List ℕ → ℕ
in_front one other = common_prefix_len nat_eq one other

abbrev pub at_end : List ℕ → List ℕ → ℕ
at_end one other = in_front (reverse one) (reverse other)

-- how many bytes of the longer are left, once what both have at the front and at the end is cut
abbrev pub apart : List ℕ → List ℕ → ℕ
apart one other =
    max (length one) (length other) - min (in_front one other + at_end one other) (min (length one) (length other))

-- a known name is like a given one: at most three bytes apart, and fewer than it has
abbrev pub is_like : List ℕ → List ℕ → Bool
is_like name known = nat_le (apart name known) MOST_APART && nat_lt (apart name known) (length known)

-- the first, unless another is less apart
abbrev pub nearer : List ℕ → List ℕ → Option (List ℕ) → List ℕ
nearer name first None = first
nearer name first (Some other) = if nat_lt (apart name other) (apart name first) then other else first

abbrev pub least_apart : List ℕ → List (List ℕ) → Option (List ℕ)
least_apart name [] = None
least_apart name (known ∷ others) = Some (nearer name known (least_apart name others))

-- of the known names that are like a given one, the least apart; the first of several
abbrev pub nearest : List ℕ → List (List ℕ) → Option (List ℕ)
nearest name known = least_apart name (filter (is_like name) known)
