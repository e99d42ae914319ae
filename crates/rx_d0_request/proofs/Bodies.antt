-- What follows the echo, out of what was read.
use Rattle.std.proofs.Common.{◌≡◌, ℕ, Bool, true, false, ◌&&◌, List, length, drop, Option, Some, None, refl, sym, ap, ◌∙◌}
use Rattle.std.specs.Prelude.{option_map, is_some}
use Rattle.rx_text.specs.declared.separators.TheConstants.{GROUP}
use Rattle.rx_fields.specs.declared.code.Code.{Code}
use Rattle.rx_fields.specs.declared.door.Door.{Door}
use Rattle.rx_d0_values.specs.declared.transmission.Body.TheVariants.{Rejected, Heard}
use Rattle.rx_d0_request.specs.declared.header.Header.{Header}
use Rattle.rx_d0_request.specs.Codes.{is_faulty, header_conditions}
use Rattle.rx_text.specs.Bytes.{cut}
use Rattle.rx_d0_request.specs.Cut.{first, further}
use Rattle.rx_d0_request.specs.Headers.{header_bytes, header_of, is_clean}
use Rattle.rx_d0_request.specs.Known.{InsuranceTexts, common_of}
use Rattle.rx_d0_request.specs.Request.{parts, common, groups, conditions, body}
use Rattle.rx_d0_request.specs.Steps.{opening_parts, heard_parts, rejected_parts}

pub is_some_map : {A B : Type 0} (f : A → B) (o : Option A) → is_some (option_map f o) ≡ is_some o
is_some_map f None = refl
is_some_map f (Some x) = refl

-- what was read of the bytes after the header
pub groups_are : (bytes rest : List ℕ) → rest ≡ drop 56 bytes → further (cut GROUP rest) ≡ groups bytes
unfolding groups parts
groups_are bytes rest e = ap (λ (text : List ℕ). further (cut GROUP text)) e

pub common_is : (bytes rest : List ℕ) → rest ≡ drop 56 bytes → common_of (first (cut GROUP rest)) ≡ common bytes
unfolding common parts
common_is bytes rest e = ap (λ (text : List ℕ). common_of (first (cut GROUP text))) e

pub conditions_are : (door : Door) (bytes : List ℕ) (h : Header) (clean has_common : Bool) (n : ℕ)
    → h ≡ header_of (header_bytes bytes) → clean ≡ is_clean bytes → has_common ≡ is_some (common bytes) → n ≡ length (groups bytes)
    → header_conditions door h (clean && has_common) n ≡ conditions door bytes
conditions_are door bytes h clean has_common n eh ec ei en = rw (eh, ec, ei, en) refl

-- a header that isn't accepted
pub body_rejected : (door : Door) (bytes : List ℕ) (rows : List (Code × Bool)) (n : ℕ) → rows ≡ conditions door bytes
    → n ≡ length (groups bytes) → is_faulty rows ≡ true
    → Rejected (rejected_parts rows n) ≡ body door bytes
unfolding body
body_rejected door bytes rows n er en fault =
    let faulty : is_faulty (conditions door bytes) ≡ true = ap is_faulty (sym er) ∙ fault in
    rw (er, en, faulty) refl

-- a header that is accepted
pub body_heard : (door : Door) (bytes : List ℕ) (rows : List (Code × Bool)) (h : Header) (read : Option InsuranceTexts)
    (pieces : List (List ℕ))
    → rows ≡ conditions door bytes → h ≡ header_of (header_bytes bytes) → read ≡ common bytes → pieces ≡ groups bytes
    → is_faulty rows ≡ false
    → Heard (heard_parts (opening_parts h read) pieces) ≡ body door bytes
unfolding body opening_parts
body_heard door bytes rows h read pieces er eh ei ep well =
    let clean : is_faulty (conditions door bytes) ≡ false = ap is_faulty (sym er) ∙ well in
    rw (eh, ei, ep, clean) refl
