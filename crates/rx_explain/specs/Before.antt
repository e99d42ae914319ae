-- Meaning: the ledger on which a transaction of a batch is adjudicated.
use Rattle.std.specs.Prelude.{ℕ, ◌-◌, List, take}
use Rattle.rx_fields.specs.Numbered.{LotParts}
use Rattle.rx_d0_values.specs.declared.transmission.Heard.{Heard as HeardRecord}
use Rattle.rx_d0_values.specs.declared.transmission.Transmission.{Transmission}
use Rattle.rx_ledger.specs.Fold.{fold_ledger, ledger_from}
use Rattle.rx_ledger.specs.Ledger.{Ledger}
use Rattle.rx_ledger.specs.Plan.{Plan}

-- the ledger before the record at a place: the records before it, one after another, on the opening ledger
abbrev pub ledger_at : LotParts → Plan → List Transmission → Ledger → ℕ → Ledger
ledger_at lot plan ts opening place = fold_ledger lot plan 1 (take (place - 1) ts) opening

-- the ledger before its nth transaction: then the transactions of the record before it
abbrev pub ledger_before : LotParts → Plan → List Transmission → Ledger → ℕ → HeardRecord → ℕ → Ledger
ledger_before lot plan ts opening place h nth =
    ledger_from lot plan place h 1 (take (nth - 1) h.list) (ledger_at lot plan ts opening place)
