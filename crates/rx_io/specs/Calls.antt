-- Plumbing: which calls of a device in memory fail, where it is to fail after this many good ones.
use Rattle.std.specs.Prelude.{◌≡◌, ◌+◌, ℕ, Bool, false, nat_le, Option, Some, None}

-- whether the call fails that comes after n others: the device has this many good calls left, or never fails
unfoldable pub fails_at : Option ℕ → ℕ → Bool
fails_at None n = false
fails_at (Some good) n = nat_le good n

-- one call was made: the others are one nearer
abbrev pub ComesNext : Option ℕ → Option ℕ → Type 0
ComesNext before after = (n : ℕ) → fails_at after n ≡ fails_at before (n + 1)
