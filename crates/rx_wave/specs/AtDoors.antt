-- Meaning: the requests of a batch, read at the doors of several plans (docs/FORMATS.md, "Several plans").
use Rattle.std.specs.Prelude.{List, map}
use Rattle.rx_fields.specs.declared.door.Door.{Door}
use Rattle.rx_batch.specs.declared.detail.Detail.{Detail}
use Rattle.rx_d0_values.specs.declared.transmission.Transmission.{Transmission}
use Rattle.rx_d0_request.specs.Doors.{routed}
use Rattle.rx_d0_request.specs.Request.{transmission_of}
use Rattle.rx_wave.specs.declared.decoding.At.{At}
use Rattle.rx_wave.specs.declared.decoding.At.TheVariants as at

-- the transmission of each detail, in order, at the doors of several plans
abbrev pub transmissions_routed : List Door → List Detail → List Transmission
transmissions_routed doors details = map (λ detail. routed doors detail.text) details

-- the same at one door or at several
abbrev pub transmission_at : At → Detail → Transmission
transmission_at (at.Door door) = λ detail. transmission_of door.now detail.text
transmission_at (at.Doors doors) = λ detail. routed doors.now detail.text

abbrev pub transmissions_at : At → List Detail → List Transmission
transmissions_at a details = map (transmission_at a) details
