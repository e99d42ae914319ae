use Rattle.std.proofs.Common.{◌≡◌, true, not, refl, ap, ◌∙◌}
use Rattle.std.specs.Prelude.{is_none}
use Rattle.rx_d0_values.specs.declared.bill.BillParts.{BillParts}
use Rattle.rx_d0_values.specs.declared.transaction.Reversal.{Reversal}
use Rattle.rx_d0_request.specs.Codes.{is_faulty}
use Rattle.rx_d0_request.specs.Steps.{bill_rows, fill_conditions, fill_parts}
use Rattle.rx_d0_request.proofs.Faults.{fault_of, no_fault_of, value_of}
use Rattle.rx_d0_request.proofs.Readings.{faulty_at, fill_faulty, IsRead, billed}
use Rattle.rx_d0_request.proofs.reading.BillReading.bill.Goals as goal
use Rattle.rx_d0_request.proofs.reading.BillReading.bill.Goals.{then-not-self-via-then-not-self}
use Rattle.rx_d0_request.proofs.reading.BillReading.bill.Goals.{then-not-self-via-else-not-self+then-not-self-2}

pub returns-in_err-family : goal.returns-in_err-family
returns-in_err-family c =
    let faulty = faulty_at (bill_rows c.args.self.now) 0 (ap is_none c.in_err-family.was) in
    rw (c.from_residual.ensures, faulty) refl

pub returns-in_err-person : goal.returns-in_err-person
returns-in_err-person c =
    let faulty = faulty_at (bill_rows c.args.self.now) 1 (ap is_none c.in_err-person.was) in
    rw (c.from_residual-in_err-person.ensures, faulty) refl

pub returns-in_err-fill : goal.returns-in_err-fill
returns-in_err-fill c =
    let fault = fault_of (is_faulty (fill_conditions c.args.self.now.fill)) _ c.in_err-fill.ensures in
    rw (c.from_residual-in_err-fill.ensures, fill_faulty c.args.self.now fault) refl

pub returns-in_err-quantity : goal.returns-in_err-quantity
returns-in_err-quantity c =
    let faulty = faulty_at (bill_rows c.args.self.now) 6 (ap is_none c.in_err-quantity.was) in
    rw (c.from_residual-in_err-quantity.ensures, faulty) refl

pub returns-in_err-days : goal.returns-in_err-days
returns-in_err-days c =
    let faulty = faulty_at (bill_rows c.args.self.now) 7 (ap is_none c.in_err-days.was) in
    rw (c.from_residual-in_err-days.ensures, faulty) refl

pub returns-then-not-self : goal.returns-then-not-self
returns-then-not-self c =
    let rows = bill_rows c.args.self.now in
    let faulty : is_faulty rows ≡ true = elim c.then-not-self.branch [
      | then-not-self-via-then-not-self w ↦ faulty_at rows 8 (ap not w.if-not-self.true)
      | then-not-self-via-else-not-self+then-not-self-2 w ↦ faulty_at rows 9 (ap not w.if-not-self-2.true)
    ] in
    rw faulty refl

pub returns-in_err-ingredient_cost : goal.returns-in_err-ingredient_cost
returns-in_err-ingredient_cost c =
    let faulty = faulty_at (bill_rows c.args.self.now) 10 (ap is_none c.in_err-ingredient_cost.was) in
    rw (c.from_residual-in_err-ingredient_cost.ensures, faulty) refl

pub returns-in_err-dispensing_fee : goal.returns-in_err-dispensing_fee
returns-in_err-dispensing_fee c =
    let faulty = faulty_at (bill_rows c.args.self.now) 11 (ap is_none c.in_err-dispensing_fee.was) in
    rw (c.from_residual-in_err-dispensing_fee.ensures, faulty) refl

pub returns-in_err-usual_charge : goal.returns-in_err-usual_charge
returns-in_err-usual_charge c =
    let faulty = faulty_at (bill_rows c.args.self.now) 12 (rw c.in_err-usual_charge.was refl) in
    rw (c.from_residual-in_err-usual_charge.ensures, faulty) refl

pub returns-in_err-gross_amount : goal.returns-in_err-gross_amount
returns-in_err-gross_amount c =
    let faulty = faulty_at (bill_rows c.args.self.now) 13 (ap is_none c.in_err-gross_amount.was) in
    rw (c.from_residual-in_err-gross_amount.ensures, faulty) refl

pub returns : goal.returns
returns c =
    let b = c.args.self.now in
    let fill : c.in_ok-fill.fill ≡ fill_parts b.fill = value_of (is_faulty (fill_conditions b.fill)) _ _ c.in_ok-fill.ensures in
    let parts : BillParts = record {
      reference = c.in_ok-fill.fill.reference;
      family = c.in_ok-family.family;
      person = c.in_ok-person.person;
      product = c.in_ok-fill.fill.product;
      quantity = c.in_ok-quantity.quantity;
      days = c.in_ok-days.days;
      ingredient_cost = c.in_ok-ingredient_cost.ingredient_cost;
      dispensing_fee = c.in_ok-dispensing_fee.dispensing_fee;
      usual_charge = c.in_ok-usual_charge.usual_charge;
      gross_amount = c.in_ok-gross_amount.gross_amount;
    } in
    let read : IsRead b parts =
    record {
      fill = no_fault_of (is_faulty (fill_conditions b.fill)) _ _ c.in_ok-fill.ensures;
      reference = ap (λ (r : Reversal). r.reference) fill;
      family = c.in_ok-family.was;
      person = c.in_ok-person.was;
      product = ap (λ (r : Reversal). r.product) fill;
      quantity = c.in_ok-quantity.was;
      days = c.in_ok-days.was;
      is_plain = c.if-not-self.false;
      is_sole = c.if-not-self-2.false;
      ingredient_cost = c.in_ok-ingredient_cost.was;
      dispensing_fee = c.in_ok-dispensing_fee.was;
      usual_charge = c.in_ok-usual_charge.was;
      gross_amount = c.in_ok-gross_amount.was;
    } in
    c.new.ensures ∙ billed b parts read
