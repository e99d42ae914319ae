-- To each record there is one reply.
use Rattle.std.proofs.Common.{◌≡◌, ℕ, suc, ◌+◌, List, [], ◌∷◌, length, refl, ap}
use Rattle.rx_d0_values.specs.declared.transmission.Transmission.{Transmission}
use Rattle.rx_fields.specs.Numbered.{LotParts}
use Rattle.rx_ledger.specs.Fold.{fold_replies, ledger_after}
use Rattle.rx_ledger.specs.Ledger.{Ledger}
use Rattle.rx_ledger.specs.Plan.{Plan}

pub one_each : (lot : LotParts) (plan : Plan) (place : ℕ) (ts : List Transmission) (L : Ledger)
    → length (fold_replies lot plan place ts L) ≡ length ts
one_each lot plan place [] L = refl
one_each lot plan place (t ∷ ts) L =
    ap suc (one_each lot plan (place + 1) ts (ledger_after lot plan place t L))
