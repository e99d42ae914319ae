-- Meaning: the transaction at a place of a batch.
use Rattle.std.specs.Prelude.{ℕ, ◌-◌, nat_lt, if◌then◌else◌, List, Option, None, slice_get, option_and_then}
use Rattle.std.specs.Option.{option_map}
use Rattle.rx_d0_values.specs.declared.transaction.Transaction.{Transaction}
use Rattle.rx_d0_values.specs.declared.transmission.Body.{Body}
use Rattle.rx_d0_values.specs.declared.transmission.Body.TheVariants.{Rejected, Heard}
use Rattle.rx_d0_values.specs.declared.transmission.Heard.{Heard as HeardRecord}
use Rattle.rx_d0_values.specs.declared.transmission.Transmission.{Transmission}
use Rattle.rx_explain.specs.declared.at.At.{At}

-- an item of a list by its number from 1
abbrev pub item : {X : Type 0} → List X → ℕ → Option X
item xs n = if nat_lt 0 n then slice_get xs (n - 1) else None

-- a transaction with its record
pub record Spot : Type 0 where
  pub heard : HeardRecord
  pub transaction : Transaction

abbrev pub spot_in : ℕ → Body → Option Spot
spot_in nth (Rejected r) = None
spot_in nth (Heard h) = option_map (λ t. record { heard = h; transaction = t }) (item h.list nth)

abbrev pub spot_at : List Transmission → At → Option Spot
spot_at ts at = option_and_then (λ t. spot_in at.nth t.body) (item ts at.place)
