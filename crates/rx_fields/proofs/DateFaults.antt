-- What isn't a number of eight digits is no date, by the same fault.
use Rattle.std.proofs.Common.{◌≡◌, ℕ, Bool, true, false, cond, List, Result, Ok, Err, ap}
use Rattle.std.specs.Prelude.{IsErrAnd}
use Rattle.rx_fields.specs.Calendar.{date_of}
use Rattle.rx_fields.specs.Digits.{number_of}
use Rattle.rx_fields.specs.declared.fault.FieldFault.{FieldFault}
use Rattle.rx_fields.specs.declared.fault.FieldFault.TheVariants.{Empty, TooLong, NotDigit}

abbrev refused_or : {A : Type 0} → Bool → Bool → Bool → Result A FieldFault → Result A FieldFault
refused_or a b c r = cond a (Err Empty) (cond b (Err TooLong) (cond c r (Err NotDigit)))

fault_same : {A B : Type 0} (a b c : Bool) (x : A) (r : Result B FieldFault) (f : FieldFault)
    → refused_or a b c (Ok x) ≡ Err f → refused_or a b c r ≡ Err f
fault_same true b c x r f e = cc
fault_same false true c x r f e = cc
fault_same false false true x r f e = absurd cc
fault_same false false false x r f e = cc

pub date_fault : (bytes : List ℕ) (f : FieldFault) → number_of 8 bytes ≡ Err f → date_of bytes ≡ Err f
date_fault bytes f e = fault_same _ _ _ _ _ f e

-- what is said of a result's fault says which it is
pub fault_told : {A : Type 0} (r : Result A FieldFault) (f : FieldFault) → IsErrAnd r (λ e. e ≡ f) → r ≡ Err f
fault_told (Ok x) f h = absurd h
fault_told (Err e) f h = ap Err h
