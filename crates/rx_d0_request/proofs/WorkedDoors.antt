-- Requests to three plans, of which the first two have one BIN: which plan each names, and the codes of those that name none.
use Rattle.std.proofs.Common.{◌≡◌, ℕ, List, [], ◌∷◌, ◌++◌, refl}
use Rattle.std.specs.Prelude.{codes}
use Rattle.rx_fields.specs.declared.code.Code.TheVariants as code
use Rattle.rx_fields.specs.declared.door.Door.{Door}
use Rattle.rx_d0_request.specs.Codes.{first_five}
use Rattle.rx_d0_request.specs.Cut.{is_part, is_segment, segments, fields}
use Rattle.rx_d0_request.specs.Doors.{door_in, plan_named, stray_rejected}
use Rattle.rx_d0_request.specs.Headers.{header_bytes, header_of, is_clean}
use Rattle.rx_d0_request.specs.Known.{common_of, field, insurance_in, insurance_of, segment}
use Rattle.rx_d0_request.specs.Request.{common, groups, parts}

abbrev doors : List Door
doors =
    record { bin = codes "900001"; pcn = codes "RXDEMO    " } ∷ record { bin = codes "900001"; pcn = codes "OTHER     " }
    ∷ record { bin = codes "900002"; pcn = codes "RXDEMO    " } ∷ []

-- a billing of one group, with this BIN, version and processor control number
abbrev request : List ℕ → List ℕ → List ℕ → List ℕ
request bin version pcn =
    bin ++ (version ++ (codes "B1" ++ (pcn ++ (codes "1011234567893     20260228          " ++ 29 ∷ []))))

-- ---- which plan is named

first : plan_named doors (request (codes "900001") (codes "D0") (codes "RXDEMO    ")) ≡ 0
unfolding door_in header_of header_bytes
first = refl

second : plan_named doors (request (codes "900001") (codes "D0") (codes "OTHER     ")) ≡ 1
unfolding door_in header_of header_bytes
second = refl

third : plan_named doors (request (codes "900002") (codes "D0") (codes "RXDEMO    ")) ≡ 2
unfolding door_in header_of header_bytes
third = refl

other_number : plan_named doors (request (codes "900002") (codes "D0") (codes "OTHER     ")) ≡ 3
unfolding door_in header_of header_bytes
other_number = refl

other_bin : plan_named doors (request (codes "900009") (codes "D0") (codes "RXDEMO    ")) ≡ 3
unfolding door_in header_of header_bytes
other_bin = refl

-- ---- the codes of those that name none

-- 04: a plan has the BIN, and none the processor control number with it, though another plan has that
number_codes : stray_rejected doors (request (codes "900002") (codes "D0") (codes "OTHER     "))
    ≡ record { codes = code.ProcessorControlNumber ∷ []; groups = 1 }
unfolding stray_rejected first_five header_of header_bytes is_clean common groups parts common_of is_part segments insurance_in segment insurance_of field is_segment fields
number_codes = refl

-- only 01: no plan has the BIN
bin_codes : stray_rejected doors (request (codes "900009") (codes "D0") (codes "RXDEMO    "))
    ≡ record { codes = code.Bin ∷ []; groups = 1 }
unfolding stray_rejected first_five header_of header_bytes is_clean common groups parts common_of is_part segments insurance_in segment insurance_of field is_segment fields
bin_codes = refl

-- 01 and 02: nor is the version D0
more_codes : stray_rejected doors (request (codes "900009") (codes "51") (codes "NOBODY    "))
    ≡ record { codes = code.Bin ∷ code.Version ∷ []; groups = 1 }
unfolding stray_rejected first_five header_of header_bytes is_clean common groups parts common_of is_part segments insurance_in segment insurance_of field is_segment fields
more_codes = refl
