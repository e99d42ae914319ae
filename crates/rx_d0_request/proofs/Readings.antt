-- What is read of the fields of a billing, once.
use Rattle.std.proofs.Common.{◌≡◌, ℕ, zero, suc, Bool, true, false, not, ◌&&◌, ◌||◌, cond, List, [], ◌∷◌, ◌++◌, get_or}
use Rattle.std.proofs.Common.{Option, Some, None, refl, ap, ◌∙◌}
use Rattle.std.specs.Prelude.{is_none, is_some, unwrap_or}
use Rattle.std.proofs.lemmas.List.Folds.{list_any-append}
use Rattle.rx_fields.specs.declared.code.Code.{Code}
use Rattle.rx_fields.specs.declared.code.Code.TheVariants.{Bin}
use Rattle.rx_d0_values.specs.declared.bill.BillParts.{BillParts}
use Rattle.rx_d0_values.specs.Billed.{bill_of}
use Rattle.rx_d0_request.specs.declared.reading.BillReading.{BillReading}
use Rattle.rx_d0_request.specs.Bills.{or_zero, bill_parts}
use Rattle.rx_d0_request.specs.Codes.{is_faulty, bill_conditions}
use Rattle.rx_d0_request.specs.Known.{InsuranceTexts, GroupTexts}
use Rattle.rx_d0_request.specs.Steps.{amount_if_any, states_no_charge, fill_conditions, supply_conditions}
use Rattle.rx_d0_request.specs.Steps.{bill_reading, bill_rows, bill_values}
use Rattle.rx_d0_request.specs.Values.{amount_in, is_no_amount}
use Rattle.rx_d0_request.proofs.Faults.{or_true}

-- ---- amounts that may be absent

is_unread : (amount : Option ℕ) → is_none (cond (is_none amount) None (Some amount)) ≡ is_none amount
is_unread None = refl
is_unread (Some n) = refl

is_read : (amount : Option ℕ) → unwrap_or (cond (is_none amount) None (Some amount)) None ≡ amount
is_read None = refl
is_read (Some n) = refl

pub unread_is : (text : Option (List ℕ)) → is_none (amount_if_any text) ≡ is_no_amount text
unread_is None = refl
unread_is (Some text) = is_unread (amount_in (Some text))

pub read_is : (text : Option (List ℕ)) → unwrap_or (amount_if_any text) None ≡ amount_in text
read_is None = refl
read_is (Some text) = is_read (amount_in (Some text))

usual_there : (usual : Option ℕ) (gross : Option (Option ℕ))
    → states_no_charge (cond (is_none usual) None (Some usual)) gross ≡ (is_none usual || false)
usual_there None gross = refl
usual_there (Some n) gross = refl

gross_there : (gross : Option ℕ) → states_no_charge (Some None) (cond (is_none gross) None (Some gross)) ≡ false
gross_there None = refl
gross_there (Some n) = refl

pub no_charge_is : (usual gross : Option (List ℕ)) → states_no_charge (amount_if_any usual) (amount_if_any gross)
    ≡ (is_no_amount usual || (is_none usual && is_none gross))
no_charge_is None None = refl
no_charge_is None (Some gross) = gross_there (amount_in (Some gross))
no_charge_is (Some usual) gross = usual_there (amount_in (Some usual)) (amount_if_any gross)

-- ---- billings

-- the codes of the fields are those of the texts
pub rows_are : (common : InsuranceTexts) (group : GroupTexts)
    → bill_rows (bill_reading common group) ≡ bill_conditions common group
rows_are common group =
    rw (
      unread_is group.pricing.dispensing_fee,
      unread_is group.pricing.gross_amount,
      no_charge_is group.pricing.usual_charge group.pricing.gross_amount,
    ) refl

-- and so are the values
pub values_are : (common : InsuranceTexts) (group : GroupTexts)
    → bill_values (bill_reading common group) ≡ bill_parts common group
unfolding bill_parts
values_are common group =
    rw (
      read_is group.pricing.dispensing_fee,
      read_is group.pricing.usual_charge,
      read_is group.pricing.gross_amount,
    ) refl

-- ---- tables

-- a condition that holds is enough
pub faulty_at : (rows : List (Code × Bool)) (i : ℕ) → (get_or rows i (Bin, false)).1 ≡ true → is_faulty rows ≡ true
unfolding is_faulty
faulty_at [] i h = absurd cc
faulty_at (row ∷ rows) zero h = rw h refl
faulty_at (row ∷ rows) (suc i) h = rw (faulty_at rows i h) (or_true row.1)

-- a table in front of another
pub faulty_front : (front rows : List (Code × Bool)) → is_faulty (front ++ rows) ≡ (is_faulty front || is_faulty rows)
unfolding is_faulty
faulty_front front rows = list_any-append (λ (row : Code × Bool). row.1) front rows

-- ---- billings, by their fields

-- a fault of a reversal is one of a billing
pub fill_faulty : (b : BillReading) → is_faulty (fill_conditions b.fill) ≡ true → is_faulty (bill_rows b) ≡ true
unfolding is_faulty
fill_faulty b h =
    ap (λ x. is_none b.family || (is_none b.person || x)) (faulty_front (fill_conditions b.fill) (supply_conditions b)
    ∙ ap (λ x. x || is_faulty (supply_conditions b)) h)
    ∙ (ap (λ x. is_none b.family || x) (or_true (is_none b.person)) ∙ or_true (is_none b.family))

-- each field has a value, and these are the parts
pub record IsRead (b : BillReading) (x : BillParts) : Type 0 where
  pub fill : is_faulty (fill_conditions b.fill) ≡ false
  pub reference : x.reference ≡ or_zero b.fill.reference
  pub family : b.family ≡ Some x.family
  pub person : b.person ≡ Some x.person
  pub product : x.product ≡ or_zero b.fill.product
  pub quantity : b.quantity ≡ Some x.quantity
  pub days : b.days ≡ Some x.days
  pub is_plain : b.is_plain ≡ true
  pub is_sole : b.is_sole ≡ true
  pub ingredient_cost : b.ingredient_cost ≡ Some x.ingredient_cost
  pub dispensing_fee : b.dispensing_fee ≡ Some x.dispensing_fee
  pub usual_charge : b.usual_charge ≡ Some x.usual_charge
  pub gross_amount : b.gross_amount ≡ Some x.gross_amount

uncharged : (usual gross : Option ℕ)
    → (states_no_charge (Some usual) (Some gross) || false) ≡ not (is_some usual || is_some gross)
uncharged None None = refl
uncharged None (Some n) = refl
uncharged (Some n) gross = refl

supply_read : (b : BillReading) (x : BillParts) → IsRead b x
    → is_faulty (supply_conditions b) ≡ not (is_some x.usual_charge || is_some x.gross_amount)
unfolding is_faulty
supply_read b x r =
    rw (r.quantity, r.days, r.is_plain, r.is_sole, r.ingredient_cost, r.dispensing_fee, r.usual_charge, r.gross_amount)
    (uncharged x.usual_charge x.gross_amount)

-- then the one fault left is that neither charge is there
rows_read : (b : BillReading) (x : BillParts) → IsRead b x
    → is_faulty (bill_rows b) ≡ not (is_some x.usual_charge || is_some x.gross_amount)
unfolding is_faulty
rows_read b x r =
    ap (λ v. is_none b.family || (is_none b.person || v)) (faulty_front (fill_conditions b.fill) (supply_conditions b)
    ∙ (ap (λ v. v || is_faulty (supply_conditions b)) r.fill ∙ supply_read b x r))
    ∙ rw (r.family, r.person) refl

values_read : (b : BillReading) (x : BillParts) → IsRead b x → bill_values b ≡ x
values_read b x r =
    rw (
      ← r.reference,
      r.family,
      r.person,
      ← r.product,
      r.quantity,
      r.days,
      r.ingredient_cost,
      r.dispensing_fee,
      r.usual_charge,
      r.gross_amount,
    ) refl

turned : {A : Type 0} (holds : Bool) (x : A) → cond holds (Some x) None ≡ cond (not holds) None (Some x)
turned true x = refl
turned false x = refl

pub billed : (b : BillReading) (x : BillParts) → IsRead b x
    → bill_of x ≡ cond (is_faulty (bill_rows b)) None (Some (bill_values b))
billed b x r =
    rw (rows_read b x r, values_read b x r) (turned (is_some x.usual_charge || is_some x.gross_amount) x)
