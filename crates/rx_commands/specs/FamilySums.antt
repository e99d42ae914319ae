-- Meaning: a family's standing claims by date, each with the sums of a period up to it.
use Rattle.std.specs.Prelude.{◌≡◌, ℕ, Bool, nat_lt, not, ◌&&◌, false, List, [], ◌∷◌, ◌++◌, Option, Some, None, option_map, map}
use Rattle.std.specs.List.Sorted.{IsPermutation, IsSortedByKey, IsStableByKey}
use Rattle.rx_fields.specs.Calendar.{Civil, day_cmp}
use Rattle.rx_fields.specs.Numbered.{Span}
use Rattle.rx_ledger.specs.declared.figures.Figures.{Figures}
use Rattle.rx_ledger.specs.declared.row.Row.{Row}
use Rattle.rx_ledger.specs.Share.{left}
use Rattle.rx_ledger.specs.Sums.{deductible_in, family_deductible_in, out_of_pocket_in}
use Rattle.rx_commands.specs.declared.family.sums.Claim.{Claim}
use Rattle.rx_commands.specs.declared.family.sums.Limits.{Limits}
use Rattle.rx_commands.specs.declared.family.sums.Running.{Running}

-- ---- by date

abbrev pub row_date : Row → Civil
row_date r = r.key.date

-- the same rows by date; those of one day stand as they did
pub record IsByDate (rows list : List Row) : Type 0 where
  pub all : IsPermutation rows list
  pub dates : IsSortedByKey row_date day_cmp list
  pub days : IsStableByKey row_date day_cmp rows list

-- ---- limits

-- no limits, and those of a plan
abbrev pub no_limits : Limits
no_limits = record { deductible = None; family_deductible = None; out_of_pocket = None }

abbrev pub limits_of : Figures → Limits
limits_of f =
    record {
      deductible = Some f.member_deductible;
      family_deductible = f.family_deductible;
      out_of_pocket = Some f.family_maximum;
    }

-- what is left of a limit
abbrev pub left_of : Option ℕ → ℕ → Option ℕ
left_of limit sum = option_map (λ figure. left figure sum) limit

-- a sum that was below the limit before a claim is no longer so with it
abbrev pub reaches : Option ℕ → ℕ → ℕ → Bool
reaches None before after = false
reaches (Some figure) before after = nat_lt before figure && not (nat_lt after figure)

-- ---- the sums up to a claim

-- a sum that comes to `after` with a claim, and to `before` without it
abbrev pub running_of : Option ℕ → ℕ → ℕ → Running
running_of limit before after =
    record { sum = after; left = left_of limit after; reaches = reaches limit before after }

-- a claim with the sums over itself and those before it: of its member's deductible, and of its family's figures
abbrev pub claim_after : Limits → Span → List Row → Row → Claim
claim_after limits period before r =
    let all = before ++ r ∷ [] in
    record {
      row = r;
      deductible =
          running_of limits.deductible (deductible_in period before r.person) (deductible_in period all r.person);
      family_deductible =
          running_of limits.family_deductible (family_deductible_in period before) (family_deductible_in period all);
      out_of_pocket = running_of limits.out_of_pocket (out_of_pocket_in period before) (out_of_pocket_in period all);
    }

-- claims after these, each with its sums
abbrev pub claims_after : Limits → Span → List Row → List Row → List Claim
claims_after limits period before [] = []
claims_after limits period before (r ∷ rows) =
    claim_after limits period before r ∷ claims_after limits period (before ++ r ∷ []) rows

abbrev pub claims_of : Limits → Span → List Row → List Claim
claims_of limits period rows = claims_after limits period [] rows

abbrev pub claim_row : Claim → Row
claim_row c = c.row

-- exactly these rows, by date, each with the sums up to it
pub record AreClaims (limits : Limits) (period : Span) (rows : List Row) (claims : List Claim) : Type 0 where
  pub by_date : IsByDate rows (map claim_row claims)
  pub sums : claims ≡ claims_of limits period (map claim_row claims)
