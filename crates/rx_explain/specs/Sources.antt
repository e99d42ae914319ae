-- Meaning: where a claim that stands before a transaction came from, and what becomes of it.
use Rattle.std.specs.Prelude.{◌≡◌, ◌⊎◌, true, List, Some}
use Rattle.std.specs.List.{Contains}
use Rattle.std.specs.Ordering.{is_le}
use Rattle.std.specs.declared.cmp.Ordering.TheVariants.{Less}
use Rattle.rx_fields.specs.Numbered.{LotParts}
use Rattle.rx_d0_values.specs.declared.bill.BillParts.{BillParts}
use Rattle.rx_d0_values.specs.declared.reply.Answer.TheVariants.{Paid, Approved}
use Rattle.rx_d0_values.specs.declared.reply.Approved.{Approved as ApprovedParts}
use Rattle.rx_d0_values.specs.declared.reply.Paid.{Paid as PaidParts}
use Rattle.rx_d0_values.specs.declared.transaction.Reversal.{Reversal}
use Rattle.rx_d0_values.specs.declared.transaction.Transaction.{Transaction}
use Rattle.rx_d0_values.specs.declared.transaction.Transaction.TheVariants.{Bill, Reverse}
use Rattle.rx_d0_values.specs.declared.transmission.Transmission.{Transmission}
use Rattle.rx_ledger.specs.declared.row.Row.{Row}
use Rattle.rx_ledger.specs.Answers.{Asked, answer, key_of, paid_row}
use Rattle.rx_ledger.specs.Fold.{asked, fold_replies}
use Rattle.rx_ledger.specs.Ledger.{Ledger, row_under}
use Rattle.rx_ledger.specs.Plan.{Plan}
use Rattle.rx_explain.specs.declared.at.At.{At}
use Rattle.rx_explain.specs.declared.explanation.Explanation.{Explanation}
use Rattle.rx_explain.specs.declared.traced.Traced.{Traced}
use Rattle.rx_explain.specs.Before.{ledger_before}
use Rattle.rx_explain.specs.Spots.{Spot, spot_at}
use Rattle.rx_explain.specs.Traces.{at_cmp, events_of, traced}

-- ---- what one transaction does to a claim

-- on this ledger it is a billing that is answered as paid, and the claim is the one that stands by it
pub record IsPaidBy (a : Asked) (L : Ledger) (t : Transaction) (r : Row) : Type 0 where
  pub bill : BillParts
  pub paid : PaidParts
  pub bills : t ≡ Bill bill
  pub answered : answer a L t ≡ Paid paid
  pub row_is : r ≡ paid_row a bill paid.number paid.pricing

-- on this ledger it is a reversal that names the claim's fill key, and is approved
pub record IsTakenBackBy (a : Asked) (L : Ledger) (t : Transaction) (r : Row) : Type 0 where
  pub reversal : Reversal
  pub approved : ApprovedParts
  pub reverses : t ≡ Reverse reversal
  pub answered : answer a L t ≡ Approved approved
  pub names : key_of a reversal.reference ≡ r.key

-- ---- places

-- one place is before another
abbrev pub IsBefore : At → At → Type 0
IsBefore a b = at_cmp a b ≡ Less

-- one place is before another or the same
abbrev pub IsUpTo : At → At → Type 0
IsUpTo a b = is_le (at_cmp a b) ≡ true

-- ---- a claim in a batch

module _ (lot : LotParts) (plan : Plan) (ts : List Transmission) (opening : Ledger) where
  -- the claim stands before the transaction at a place
  abbrev pub StandsBefore : Row → At → Spot → Type 0
  StandsBefore r at s = row_under (ledger_before lot plan ts opening at.place s.heard at.nth) r.key ≡ Some r

  -- that transaction pays it
  abbrev pub Pays : Row → At → Spot → Type 0
  Pays r at s =
      IsPaidBy (asked lot plan at.place s.heard at.nth) (ledger_before lot plan ts opening at.place s.heard at.nth)
      s.transaction r

  -- that transaction takes it back
  abbrev pub TakesBack : Row → At → Spot → Type 0
  TakesBack r at s =
      IsTakenBackBy (asked lot plan at.place s.heard at.nth) (ledger_before lot plan ts opening at.place s.heard at.nth)
      s.transaction r

  -- it is paid at a place, and taken back at a place
  abbrev pub IsPaidAt : Row → At → Type 0
  IsPaidAt r at = (s : Spot) × (spot_at ts at ≡ Some s) × Pays r at s

  abbrev pub IsTakenBackAt : Row → At → Type 0
  IsTakenBackAt r at = (s : Spot) × (spot_at ts at ≡ Some s) × TakesBack r at s

  -- it stands before each transaction up to a place; before each after a place; before each after one place up to another
  abbrev pub StandsUpTo : At → Row → Type 0
  StandsUpTo last r = (at : At) → (s : Spot) → spot_at ts at ≡ Some s → IsUpTo at last → StandsBefore r at s

  abbrev pub StandsAfter : At → Row → Type 0
  StandsAfter first r = (at : At) → (s : Spot) → spot_at ts at ≡ Some s → IsBefore first at → StandsBefore r at s

  abbrev pub StandsBetween : At → At → Row → Type 0
  StandsBetween first last r =
      (at : At) → (s : Spot) → spot_at ts at ≡ Some s → IsBefore first at → IsUpTo at last → StandsBefore r at s

  -- the claim as it is shown with the transaction at a place: its source and its end, among what the batch changed
  abbrev pub traced_at : At → Row → Traced
  traced_at at r = traced (events_of 1 ts (fold_replies lot plan 1 ts opening)) at r

-- ---- the claims of an explanation

-- it shows the claim: as the one that decided, or among those that are counted
abbrev pub IsShown : Explanation → Traced → Type 0
IsShown x t = (x.standing ≡ Some t) ⊎ Contains x.counted.items t
