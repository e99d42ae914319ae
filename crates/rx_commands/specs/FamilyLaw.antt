-- Meaning: the claim with which a limit is reached.
use Rattle.std.specs.Prelude.{ℕ, ◌≤◌, ◌<◌, Bool, List}
use Rattle.rx_ledger.specs.Members.{is_same}
use Rattle.rx_commands.specs.declared.family.sums.Claim.{Claim}

-- the claim is the person's
abbrev pub is_of : List ℕ → Claim → Bool
is_of person c = is_same c.row.person person

-- up to an earlier claim the sum was below the limit, and now it isn't
pub record IsReached (figure earlier now : ℕ) : Type 0 where
  pub below : earlier < figure
  pub reached : figure ≤ now
