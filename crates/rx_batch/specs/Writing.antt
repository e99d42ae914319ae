-- Meaning: the one text of a batch file.
use Rattle.std.specs.Prelude.{◌≡◌, ℕ, ◌+◌, All, Some, List, ◌∷◌, ◌++◌, codes, length, replicate}
use Rattle.std.specs.List.{flat_map}
use Rattle.rx_fields.specs.Digits.{digits_text}
use Rattle.rx_fields.specs.Calendar.{date_text}
use Rattle.rx_fields.specs.Clock.{time_of, time_text}
use Rattle.rx_batch.specs.declared.detail.Detail.{Detail}
use Rattle.rx_batch.specs.declared.head.Head.{Head}
use Rattle.rx_batch.specs.declared.layout.TheConstants.{STX}
use Rattle.rx_batch.specs.declared.head.Kind.TheVariants.{Transmission}
use Rattle.rx_batch.specs.Grammar.{IsInside, record_text}
use Rattle.rx_batch.specs.Header.{byte_of_kind, byte_of_file, lot_in}

-- batch number, creation date, creation time, file type, version
abbrev pub lot_text : Head → List ℕ
lot_text head =
    digits_text 7 head.lot.number ++ (date_text head.lot.created ++ (time_text head.time ++ byte_of_file head.file ∷ codes "12"))

-- a header's fields in order
abbrev pub header_text : Head → List ℕ
header_text head = codes "00" ++ (byte_of_kind head.kind ∷ (head.sender ++ (lot_text head ++ head.receiver)))

-- what stands before a detail's text: STX, `G1`, the reference
abbrev pub detail_front : List ℕ → List ℕ
detail_front reference = STX ∷ (codes "G1" ++ reference)

-- a detail's fields in order
abbrev pub detail_text : Detail → List ℕ
detail_text d = codes "G1" ++ (d.reference ++ d.text)

-- a trailer's fields in order, with a blank message
abbrev pub trailer_text : ℕ → ℕ → List ℕ
trailer_text number count = codes "99" ++ (digits_text 7 number ++ (digits_text 10 count ++ replicate 35 32))

-- nothing skipped; the header, the details, the trailer with the number of details plus two
abbrev pub file_text : Head → List Detail → List ℕ
file_text head details =
    record_text (header_text head)
    ++ (flat_map (λ d. record_text (detail_text d)) details ++ record_text (trailer_text head.lot.number (length details + 2)))

-- what the grammar reads back: requests, and no STX or ETX in a field
pub record IsPlain (head : Head) (details : List Detail) : Type 0 where
  pub kind : head.kind ≡ Transmission
  pub sender : IsInside head.sender
  pub receiver : IsInside head.receiver
  pub each : All (λ d. IsInside d.reference × IsInside d.text) details

-- the digits of a head are read as its lot and its time
pub record IsLotSpelled (head : Head) : Type 0 where
  pub lot : lot_in (digits_text 7 head.lot.number) (date_text head.lot.created) ≡ Some head.lot
  pub time : time_of (time_text head.time) ≡ Some head.time
