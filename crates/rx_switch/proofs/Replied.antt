-- Each detail of a batch has its reply.
use Rattle.std.proofs.Common.{◌≡◌, ℕ, suc, ◌+◌, List, [], ◌∷◌, length, refl, ap, ◌∙◌}
use Rattle.std.proofs.lemmas.List.{length-map}
use Rattle.rx_fields.specs.Numbered.{LotParts}
use Rattle.rx_fields.specs.declared.door.Door.{Door}
use Rattle.rx_batch.specs.declared.detail.Detail.{Detail}
use Rattle.rx_d0_values.specs.declared.transmission.Transmission.{Transmission}
use Rattle.rx_ledger.specs.Fold.{fold_replies, ledger_after}
use Rattle.rx_ledger.specs.Ledger.{Ledger}
use Rattle.rx_ledger.specs.Plan.{Plan}
use Rattle.rx_d0_request.specs.Request.{transmission_of}
use Rattle.rx_wave.specs.Decoding.{transmissions_of}

-- as many replies as transmissions
pub one_each : (lot : LotParts) (plan : Plan) (place : ℕ) (ts : List Transmission) (L : Ledger)
    → length (fold_replies lot plan place ts L) ≡ length ts
one_each lot plan place [] L = refl
one_each lot plan place (t ∷ ts) L =
    ap suc (one_each lot plan (place + 1) ts (ledger_after lot plan place t L))

-- as many replies as details
pub replied : (lot : LotParts) (plan : Plan) (place : ℕ) (door : Door) (details : List Detail) (L : Ledger)
    → length (fold_replies lot plan place (transmissions_of door details) L) ≡ length details
replied lot plan place door details L =
    one_each lot plan place (transmissions_of door details) L
    ∙ length-map details (λ detail. transmission_of door detail.text)
