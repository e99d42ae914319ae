-- What the reader of a response file refuses, or has no memory for, is refused by `explain`.
use Rattle.std.proofs.Common.{ℕ, List, Some}
use Rattle.rx_batch.specs.Fault.{UnlessMemory}
use Rattle.rx_batch.specs.Reading.{HasFault}
use Rattle.rx_batch.specs.declared.fault.BatchFault.{BatchFault}
use Rattle.rx_batch.specs.declared.fault.BatchFault.TheVariants as batch
use Rattle.rx_show.specs.ResponseFile.{as_batch}
use Rattle.rx_switch.specs.Planned.IsNotPlanned.{memory}
use Rattle.rx_commands.specs.ExplainFault.{of_response}
use Rattle.rx_commands.specs.Explaining.{IsNotExplained}

module _ (sheet books given bytes : List ℕ) where
  pub no_response : (f : BatchFault) → UnlessMemory f (HasFault (as_batch bytes) f)
      → IsNotExplained sheet books given (Some bytes) (of_response f)
  no_response (batch.Outside at) e = e
  no_response (batch.NoHeader at) e = e
  no_response (batch.HeaderShape at) e = e
  no_response (batch.Unclosed at) e = e
  no_response (batch.RecordKind at) e = e
  no_response (batch.DetailShape at) e = e
  no_response (batch.TrailerShape at) e = e
  no_response (batch.NoTrailer at) e = e
  no_response (batch.NumberDiffers at) e = e
  no_response (batch.CountDiffers at) e = e
  no_response (batch.AfterTrailer at) e = e
  no_response (batch.TooMuch at) e = e
  no_response batch.Memory e = memory
