-- Plumbing: the places and their number follow from the codes.
use Rattle.std.specs.Prelude.{◌≡◌, ◌-◌, ◌++◌, List, length, take, replicate, refl}
use Rattle.std.proofs.Common.{arith, take-append-drop, length-take}
use Rattle.rx_fields.specs.declared.code.Code.{Code}
use Rattle.rx_fields.specs.declared.code.Code.TheVariants.{Bin}
use Rattle.rx_d0_values.specs.CodeList.{IsFilled}
use Rattle.rx_d0_values.specs.declared.codes.Codes.TheInside.{Inside}

-- the fields of these codes
abbrev pub filled_codes : List Code → Inside
filled_codes codes = record { codes = codes ++ replicate (5 - length codes) Bin; len = length codes }

pub filled_back : (a : Inside) → IsFilled a.len a.codes → filled_codes (take a.len a.codes) ≡ a
filled_back a h =
    let len : length (take a.len a.codes) ≡ a.len = omega (arith, length-take a.len a.codes, h.whole, h.few) in
    let codes : take a.len a.codes ++ replicate (5 - a.len) Bin ≡ a.codes =
    rw (← h.rest) (take-append-drop a.len a.codes) in
    rw (len, codes) refl
