-- Meaning: requests to several plans: which plan a request names, and what is answered where it names none (docs/FORMATS.md, "Several plans").
use Rattle.std.specs.Prelude.{ℕ, suc, Bool, not, ◌&&◌, ◌||◌, if◌then◌else◌, List, [], ◌∷◌, is_none, is_some, length, min, max, codes}
use Rattle.std.specs.List.{list_any}
use Rattle.rx_fields.specs.declared.code.Code.{Code}
use Rattle.rx_fields.specs.declared.code.Code.TheVariants as code
use Rattle.rx_fields.specs.declared.door.Door.{Door}
use Rattle.rx_d0_values.specs.declared.transmission.Transmission.{Transmission}
use Rattle.rx_d0_values.specs.declared.transmission.Body.TheVariants as body
use Rattle.rx_d0_values.specs.declared.transmission.Rejected.{Rejected}
use Rattle.rx_d0_values.specs.declared.echo.EchoParts.{EchoParts}
use Rattle.rx_d0_values.specs.declared.reply.Outcome.TheVariants as outcome
use Rattle.rx_d0_values.specs.declared.reply.Reply.{Reply}
use Rattle.rx_d0_values.specs.Echoed.{blanked_parts}
use Rattle.rx_d0_request.specs.Codes.{first_five, is_count}
use Rattle.rx_d0_request.specs.Cut.{same}
use Rattle.rx_d0_request.specs.Headers.{echo_parts, header_bytes, header_of, is_clean}
use Rattle.rx_d0_request.specs.declared.header.Header.{Header}
use Rattle.rx_d0_request.specs.Request.{common, groups, transmission_of}
use Rattle.rx_d0_request.specs.Values.{date_in, provider_in}

-- the BIN and the processor control number of a request's header, whose missing bytes are blanks
unfoldable pub door_in : List ℕ → Door
door_in bytes = let h = header_of (header_bytes bytes) in record { bin = h.bin; pcn = h.pcn }

-- the request has the BIN of the plan at the door
abbrev pub has_bin : Door → Door → Bool
has_bin asked door = same asked.bin door.bin

-- it names that plan: it has its BIN and its processor control number
abbrev pub names_plan : Door → Door → Bool
names_plan asked door = same asked.bin door.bin && same asked.pcn door.pcn

-- the number of the plan that a request names, the plans being counted from 0: the first, and where no two plans have
-- one door the only one; as many as there are plans where it names none
abbrev pub plan_at : Door → List Door → ℕ
plan_at asked [] = 0
plan_at asked (door ∷ doors) = if names_plan asked door then 0 else suc (plan_at asked doors)

abbrev pub plan_named : List Door → List ℕ → ℕ
plan_named doors bytes = plan_at (door_in bytes) doors

-- the codes of a header that names no plan: 01 where no plan has its BIN, 04 where one has, and the others as for every
-- header, in their order
abbrev pub stray_conditions : List Door → Header → Bool → ℕ → List (Code × Bool)
stray_conditions doors h is_sound groups =
    (code.Bin, not (list_any (λ door. same h.bin door.bin) doors))
    ∷ (code.Version, not (same h.version (codes "D0")))
    ∷ (code.TransactionCode, not (same h.code (codes "B1") || same h.code (codes "B2")))
    ∷ (code.ProcessorControlNumber, list_any (λ door. same h.bin door.bin) doors)
    ∷ (code.TransactionCount, not (is_count h.count groups))
    ∷ (code.Provider, is_none (provider_in h.provider))
    ∷ (code.DateOfService, is_none (date_in h.date))
    ∷ (code.Syntax, not is_sound)
    ∷ []

-- what its rejected header has: these codes, for as many answers as for every rejected header
unfoldable pub stray_rejected : List Door → List ℕ → Rejected
stray_rejected doors bytes =
    let h = header_of (header_bytes bytes) in
    record {
      codes = first_five (stray_conditions doors h (is_clean bytes && is_some (common bytes)) (length (groups bytes)));
      groups = max 1 (min (length (groups bytes)) 4);
    }

-- what a reply repeats of a request
unfoldable pub echo_of : List ℕ → EchoParts
echo_of bytes = blanked_parts (echo_parts (header_of (header_bytes bytes)))

-- a request that names no plan
abbrev pub stray : List Door → List ℕ → Transmission
stray doors bytes = record { echo = echo_of bytes; body = body.Rejected (stray_rejected doors bytes) }

-- the reply to it
abbrev pub stray_reply : List Door → List ℕ → Reply
stray_reply doors bytes = record { echo = echo_of bytes; outcome = outcome.Rejected (stray_rejected doors bytes) }

-- the request as the first of some plans reads it that it names; where it names none of them, as a stray of all
abbrev pub routed_among : List Door → List Door → List ℕ → Transmission
routed_among all [] bytes = stray all bytes
routed_among all (door ∷ doors) bytes =
    if names_plan (door_in bytes) door then transmission_of door bytes else routed_among all doors bytes

-- the transmission of a byte string, at the doors of several plans
abbrev pub routed : List Door → List ℕ → Transmission
routed doors bytes = routed_among doors doors bytes
