-- What was there, and what the transactions so far name.
use Rattle.std.proofs.Common.{◌≡◌, ◌++◌, ◌||◌, ℕ, List, take}
use Rattle.std.specs.List.{flat_map}
use Rattle.rx_d0_values.specs.declared.transmission.Transmission.{Transmission}
use Rattle.rx_schedule.specs.Billed.{HasBilled, has_family}
use Rattle.rx_schedule.specs.Footprints.{families_named, key_named}
use Rattle.rx_schedule.proofs.naming.name_all.Given as goal

abbrev pub invariant-transactions : goal.invariant-transactions
invariant-transactions l =
    record {
      keys : l.keys.items ≡ l.initial.keys.items ++ flat_map (key_named l.heard) (take l.transaction-index l.transaction-items);
      families : (earlier : List Transmission) → HasBilled l.billers.families earlier → (f : List ℕ)
          → has_family l.families.items f ≡ (has_family l.initial.families.items f
          || has_family (flat_map (families_named l.books.ledger earlier l.heard)
          (take l.transaction-index l.transaction-items)) f);
    }
