-- Meaning: what a request transmission is, for every byte string (docs/FORMATS.md, "Request transmission").
use Rattle.std.specs.Prelude.{ℕ, Bool, ◌&&◌, is_some, min, max, if◌then◌else◌, List, [], length, drop, map, Option, unwrap_or, codes}
use Rattle.rx_text.specs.declared.separators.TheConstants.{GROUP}
use Rattle.rx_fields.specs.declared.code.Code.{Code}
use Rattle.rx_fields.specs.declared.door.Door.{Door}
use Rattle.rx_fields.specs.Calendar.{civil_of}
use Rattle.rx_d0_values.specs.declared.transmission.Transmission.{Transmission}
use Rattle.rx_d0_values.specs.declared.transmission.Body.{Body}
use Rattle.rx_d0_values.specs.declared.transmission.Body.TheVariants.{Rejected, Heard}
use Rattle.rx_d0_values.specs.Echoed.{blanked_parts}
use Rattle.rx_d0_request.specs.Bills.{transaction}
use Rattle.rx_d0_request.specs.Codes.{is_faulty, first_five, header_conditions}
use Rattle.rx_text.specs.Bytes.{cut}
use Rattle.rx_d0_request.specs.Cut.{same, first, further}
use Rattle.rx_d0_request.specs.Headers.{header_bytes, header_of, is_clean, echo_parts}
use Rattle.rx_d0_request.specs.declared.header.TheConstants.{HEADER_LENGTH}
use Rattle.rx_d0_request.specs.Known.{InsuranceTexts, no_insurance, common_of, group_of}
use Rattle.rx_d0_request.specs.Values.{provider_in, date_in}

-- the parts: after the header, cut at each GS
unfoldable pub parts : List ℕ → List (List ℕ)
parts bytes = cut GROUP (drop HEADER_LENGTH bytes)

-- the known values of the common part, or a syntax error
unfoldable pub common : List ℕ → Option InsuranceTexts
common bytes = common_of (first (parts bytes))

-- the groups: one per GS
unfoldable pub groups : List ℕ → List (List ℕ)
groups bytes = further (parts bytes)

abbrev pub conditions : Door → List ℕ → List (Code × Bool)
conditions door bytes =
    header_conditions door (header_of (header_bytes bytes)) (is_clean bytes && is_some (common bytes))
    (length (groups bytes))

-- the header is accepted where no condition holds; its provider and date are there then
unfoldable pub body : Door → List ℕ → Body
body door bytes =
    let h = header_of (header_bytes bytes) in
    let insurance = unwrap_or (common bytes) no_insurance in
    if is_faulty (conditions door bytes)
    then Rejected (record {
      codes = first_five (conditions door bytes);
      groups = max 1 (min (length (groups bytes)) 4);
    })
    else Heard (record {
      provider = unwrap_or (provider_in h.provider) [];
      date = unwrap_or (date_in h.date) (civil_of h.date);
      list = map (λ group. transaction (same h.code (codes "B1")) insurance (group_of group)) (groups bytes);
    })

-- the transmission of a byte string, at a plan's door
unfoldable pub transmission_of : Door → List ℕ → Transmission
transmission_of door bytes =
    record { echo = blanked_parts (echo_parts (header_of (header_bytes bytes))); body = body door bytes }
