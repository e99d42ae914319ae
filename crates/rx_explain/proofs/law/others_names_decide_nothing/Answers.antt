-- A ledger is in order; the explanations are those at the places.
use Rattle.rx_ledger.specs.Ledger.{IsLedger, Ledger}
use Rattle.rx_d0_values.specs.declared.transmission.Transmission.{Transmission}
use Rattle.rx_ledger.specs.Plan.{Plan}
use Rattle.std.proofs.Common.{List, ℕ}
use Rattle.rx_explain.specs.Names.{DifferInNames}
use Rattle.rx_explain.proofs.NamesApart.{explained-alike, there-too}
use Rattle.rx_explain.proofs.NamesFolded.{InOrder}
use Rattle.rx_explain.proofs.law.others_names_decide_nothing.Goals as goal

ordered : (own : List ℕ) (plan : Plan) (ts us : List Transmission) (L M : Ledger) → IsLedger L
    → (differ : DifferInNames own plan ts us L M) → InOrder differ.names L
ordered own plan ts us L M is differ =
    record { members_rise = is.members_rise; rows_rise = is.rows_rise; agreed = differ.claims_agree }

pub returns-clause-stands : goal.returns-clause-stands
returns-clause-stands c own plan ts us L M is differ at s there mine =
    there-too own plan ts us L M differ (ordered own plan ts us L M is differ) at s there mine

pub returns-clause-explained : goal.returns-clause-explained
returns-clause-explained c own lot plan ts us L M is differ at s there mine x y one other =
    explained-alike own lot plan ts us L M differ (ordered own plan ts us L M is differ) at s there mine x y one other
