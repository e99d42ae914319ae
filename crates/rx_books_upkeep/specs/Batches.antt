-- Plumbing: a fact of each transaction of a batch.
use Rattle.std.specs.Prelude.{List}
use Rattle.std.specs.List.{All}
use Rattle.rx_d0_values.specs.declared.transaction.Transaction.{Transaction}
use Rattle.rx_d0_values.specs.declared.transmission.Body.{Body}
use Rattle.rx_d0_values.specs.declared.transmission.Body.TheVariants.{Rejected, Heard}
use Rattle.rx_d0_values.specs.declared.transmission.Heard.{Heard as HeardRecord}
use Rattle.rx_d0_values.specs.declared.transmission.Transmission.{Transmission}

-- each transaction of a record; a rejected header has none
abbrev pub EachOf : (HeardRecord → Transaction → Type 0) → Body → Type 0
EachOf P (Rejected r) = Unit {0}
EachOf P (Heard h) = All (P h) h.list

-- each transaction of a batch
abbrev pub EachTransaction : (HeardRecord → Transaction → Type 0) → List Transmission → Type 0
EachTransaction P transmissions = All (λ t. EachOf P t.body) transmissions
