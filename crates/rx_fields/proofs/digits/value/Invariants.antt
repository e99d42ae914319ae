-- The sum so far is the number of the digits so far, and has no more digits.
use Rattle.std.proofs.Common.{◌≡◌, ◌<◌, ◌^◌, take}
use Rattle.rx_fields.specs.Digits.{number}
use Rattle.rx_fields.proofs.digits.value.Given as goal

abbrev pub invariant-loop-digit : goal.invariant-loop-digit
invariant-loop-digit l =
    record { so_far : l.sum ≡ number (take l.digit-index l.digits); within : l.sum < 10 ^ l.digit-index }
