use Rattle.std.proofs.Common.{◌≡◌, true, ◌&&◌, length, List, ℕ, sym, ap, ◌∙◌}
use Rattle.std.specs.Prelude.{option_map, is_some}
use Rattle.rx_text.specs.declared.separators.TheConstants.{GROUP}
use Rattle.rx_d0_values.specs.Listed.{is_few}
use Rattle.rx_d0_values.specs.declared.transmission.Heard as heard_type
use Rattle.rx_d0_values.specs.declared.transmission.Body.TheVariants.{Heard}
use Rattle.rx_d0_request.specs.Codes.{is_faulty, header_conditions}
use Rattle.rx_text.specs.Bytes.{cut}
use Rattle.rx_d0_request.specs.Cut.{first, further}
use Rattle.rx_d0_request.specs.Headers.{header_of, header_bytes}
use Rattle.rx_d0_request.specs.Known.{common_of}
use Rattle.rx_d0_request.specs.Request.{groups, common, conditions}
use Rattle.rx_d0_request.specs.Views.{insurance_texts, opening_view}
use Rattle.rx_d0_request.specs.Steps.{heard_parts, opening_parts, OpeningParts}
use Rattle.rx_d0_request.proofs.Bodies.{is_some_map, groups_are, common_is, conditions_are, body_rejected, body_heard}
use Rattle.rx_d0_request.proofs.Faults.{fault_of, no_fault_of, value_of, header_few}
use Rattle.rx_d0_request.proofs.request.body.Goals as goal

pub heard-requires : goal.heard-requires
heard-requires c =
    let n = c.count_groups-groups.result in
    let rest = c.after_header-rest.result.now in
    let rows = header_conditions c.args.door.now c.args.header.now (c.is_clean-is_clean.result && is_some c.common_read-common.result) n in
    let well = no_fault_of (is_faulty rows) _ _ c.in-Some.ensures in
    let few : is_few n ≡ true = header_few c.args.door.now c.args.header.now
    (c.is_clean-is_clean.result && is_some c.common_read-common.result) n well in
    let left : c.first.new.self ≡ further (cut GROUP rest) = c.first.ensures.rest ∙ ap further c.new-pieces.ensures in
    ap (λ (pieces : List (List ℕ)). is_few (length pieces)) left ∙ (ap is_few (sym c.count_groups-groups.ensures) ∙ few)

pub rejected-requires : goal.rejected-requires
rejected-requires c =
    let door = c.args.door.now in
    let header = c.args.header.now in
    let clean = c.is_clean-is_clean.result in
    let n = c.count_groups-groups.result in
    let fault = fault_of (is_faulty (header_conditions door header (clean && is_some c.common_read-common.result) n)) _ c.in-None.ensures in
    rw c.is_some.ensures fault

pub returns-in_ok-heard-in-Some : goal.returns-in_ok-heard-in-Some
returns-in_ok-heard-in-Some c =
    let door = c.args.door.now in
    let header = c.args.header.now in
    let bytes = c.args.bytes.now in
    let clean = c.is_clean-is_clean.result in
    let n = c.count_groups-groups.result in
    let rest = c.after_header-rest.result.now in
    let found = c.common_read-common.result in
    let rows = header_conditions door header (clean && is_some found) n in
    let well = no_fault_of (is_faulty rows) _ _ c.in-Some.ensures in
    let opened : opening_view c.in-Some.opening ≡ opening_parts header (option_map insurance_texts found) = value_of
    (is_faulty rows) _ _ c.in-Some.ensures in
    let header_is : header ≡ header_of (header_bytes bytes) = c.requires in
    let read : option_map insurance_texts found ≡ common bytes =
    c.common_read-common.ensures ∙ (ap common_of (c.first.ensures.value ∙ ap first c.new-pieces.ensures)
    ∙ common_is bytes rest c.after_header-rest.ensures) in
    let left : c.first.new.self ≡ groups bytes = c.first.ensures.rest
    ∙ (ap further c.new-pieces.ensures ∙ groups_are bytes rest c.after_header-rest.ensures) in
    let count : n ≡ length (groups bytes) = c.count_groups-groups.ensures ∙ ap length (groups_are bytes rest c.after_header-rest.ensures) in
    let has_common : is_some found ≡ is_some (common bytes) = sym (is_some_map insurance_texts found) ∙ ap is_some read in
    let rows_are : rows ≡ conditions door bytes = conditions_are door bytes header clean
    (is_some found) n header_is c.is_clean-is_clean.ensures has_common count in
    let whole = body_heard door bytes rows header (option_map insurance_texts found) c.first.new.self rows_are header_is read left well in
    ap (λ (h : heard_type.Heard). Heard h) (c.in_ok-heard-in-Some.ensures
    ∙ ap (λ (o : OpeningParts). heard_parts o c.first.new.self) opened) ∙ whole

pub returns-in-None : goal.returns-in-None
returns-in-None c =
    let door = c.args.door.now in
    let header = c.args.header.now in
    let bytes = c.args.bytes.now in
    let clean = c.is_clean-is_clean.result in
    let n = c.count_groups-groups.result in
    let rest = c.after_header-rest.result.now in
    let found = c.common_read-common.result in
    let rows = header_conditions door header (clean && is_some found) n in
    let fault = fault_of (is_faulty rows) _ c.in-None.ensures in
    let header_is : header ≡ header_of (header_bytes bytes) = c.requires in
    let read : option_map insurance_texts found ≡ common bytes =
    c.common_read-common.ensures ∙ (ap common_of (c.first.ensures.value ∙ ap first c.new-pieces.ensures)
    ∙ common_is bytes rest c.after_header-rest.ensures) in
    let count : n ≡ length (groups bytes) = c.count_groups-groups.ensures ∙ ap length (groups_are bytes rest c.after_header-rest.ensures) in
    let has_common : is_some found ≡ is_some (common bytes) = sym (is_some_map insurance_texts found) ∙ ap is_some read in
    let rows_are : rows ≡ conditions door bytes = conditions_are door bytes header clean
    (is_some found) n header_is c.is_clean-is_clean.ensures has_common count in
    let whole = body_rejected door bytes rows n rows_are count fault in
    rw (c.rejected.ensures, c.is_some.ensures) whole
