use Rattle.std.proofs.Common.{◌≡◌, true, false, refl, ap, sym, ◌∙◌}
use Rattle.rx_d0_request.specs.declared.reading.BillReading.{BillReading}
use Rattle.rx_d0_request.specs.Bills.{billing, bill_parts}
use Rattle.rx_d0_request.specs.Codes.{is_faulty, bill_conditions}
use Rattle.rx_d0_request.specs.Steps.{bill_rows, bill_values}
use Rattle.rx_d0_request.specs.Values.{number_in}
use Rattle.rx_d0_request.specs.Views.{insurance_texts, group_texts}
use Rattle.rx_d0_request.proofs.Faults.{fault_of, no_fault_of, value_of}
use Rattle.rx_d0_request.proofs.Readings.{rows_are, values_are}
use Rattle.rx_d0_request.proofs.bill.billing.Goals as goal

pub returns-in-Some : goal.returns-in-Some
unfolding billing
returns-in-Some c =
    let common = insurance_texts c.args.common.now in
    let group = group_texts c.args.group.now in
    let reading = c.new-reading.result in
    let rows : bill_rows reading ≡ bill_conditions common group = ap bill_rows c.new-reading.ensures ∙ rows_are common group in
    let values : bill_values reading ≡ bill_parts common group = ap bill_values c.new-reading.ensures ∙ values_are common group in
    let well : is_faulty (bill_conditions common group) ≡ false =
    ap is_faulty (sym rows) ∙ no_fault_of (is_faulty (bill_rows reading)) _ _ c.in-Some.ensures in
    let bill : c.in-Some.bill ≡ bill_parts common group =
    value_of (is_faulty (bill_rows reading)) _ _ c.in-Some.ensures ∙ values in
    rw (bill, well) refl

pub returns-in-None : goal.returns-in-None
unfolding billing
returns-in-None c =
    let common = insurance_texts c.args.common.now in
    let group = group_texts c.args.group.now in
    let reading = c.new-reading.result in
    let rows : bill_rows reading ≡ bill_conditions common group = ap bill_rows c.new-reading.ensures ∙ rows_are common group in
    let faulty : is_faulty (bill_conditions common group) ≡ true =
    ap is_faulty (sym rows) ∙ fault_of (is_faulty (bill_rows reading)) _ c.in-None.ensures in
    let reference : reading.fill.reference ≡ number_in 12 group.claim.reference =
    ap (λ (r : BillReading). r.fill.reference) c.new-reading.ensures in
    rw (c.first_five.ensures, c.conditions.ensures, rows, reference, faulty) refl
