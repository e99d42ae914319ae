-- Meaning: the requests of a batch.
use Rattle.std.specs.Prelude.{List, map}
use Rattle.rx_fields.specs.declared.door.Door.{Door}
use Rattle.rx_batch.specs.declared.detail.Detail.{Detail}
use Rattle.rx_d0_values.specs.declared.transmission.Transmission.{Transmission}
use Rattle.rx_d0_request.specs.Request.{transmission_of}

-- the transmission of each detail, in order, at a plan's door
abbrev pub transmissions_of : Door → List Detail → List Transmission
transmissions_of door details = map (λ detail. transmission_of door detail.text) details
