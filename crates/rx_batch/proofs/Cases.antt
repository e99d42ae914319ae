-- Worked cases of the grammar, computed.
use Rattle.std.proofs.Common.{◌≡◌, ℕ, List, [], ◌∷◌, ◌++◌, take, drop, set, codes, refl, Ok, Err, Result}
use Rattle.rx_batch.specs.declared.batch.Batch.{Batch}
use Rattle.rx_batch.specs.declared.fault.BatchFault.{BatchFault}
use Rattle.rx_batch.specs.declared.fault.BatchFault.TheVariants as fault
use Rattle.rx_batch.specs.declared.head.Kind.TheVariants.{Transmission}
use Rattle.rx_batch.specs.declared.head.FileType.TheVariants.{Production}
use Rattle.rx_batch.specs.Grammar.{record_text}
use Rattle.rx_batch.specs.Reading.{batch_of}

-- the header of every worked case: sender PHARMSYS, batch 0000042 of 2026-03-01, 09:30, receiver RXSWITCH
abbrev header : List ℕ
header = codes "00TPHARMSYS                0000042202603010930P12RXSWITCH                "

-- the transmission of the base claim, after its reference
abbrev claim : List ℕ
claim = codes "G10000000001900001D0B1RXDEMO    1011234567893     20260228          "
    ++ ((30 ∷ []) ++ ((28 ∷ []) ++ (codes "AM04"
    ++ ((28 ∷ []) ++ (codes "C2C100"
    ++ ((28 ∷ []) ++ (codes "C301"
    ++ ((29 ∷ []) ++ ((30 ∷ [])
    ++ ((28 ∷ []) ++ (codes "AM07"
    ++ ((28 ∷ []) ++ (codes "EM1"
    ++ ((28 ∷ []) ++ (codes "D2000000000123"
    ++ ((28 ∷ []) ++ (codes "E103"
    ++ ((28 ∷ []) ++ (codes "D700002000202"
    ++ ((28 ∷ []) ++ (codes "E70000030000"
    ++ ((28 ∷ []) ++ (codes "D5030"
    ++ ((28 ∷ []) ++ (codes "D61"
    ++ ((30 ∷ []) ++ ((28 ∷ []) ++ (codes "AM11"
    ++ ((28 ∷ []) ++ (codes "D90003000{"
    ++ ((28 ∷ []) ++ (codes "DC0000017E" ++ ((28 ∷ []) ++ (codes "DQ0004000{"))))))))))))))))))))))))))))))))))

abbrev trailer : List ℕ
trailer = codes "9900000420000000001                                   "

-- the file of one billing, of 326 bytes
abbrev file : List ℕ
file = record_text header ++ record_text claim ++ record_text trailer

abbrev wrong : BatchFault → Result Batch BatchFault
wrong fault = Err fault

one_billing : batch_of file ≡ Ok (record {
  head = record {
    kind = Transmission;
    sender = codes "PHARMSYS                ";
    lot = record { number = 42; created = record { year = 2026; month = 3; day = 1 } };
    time = record { hour = 9; minute = 30 };
    file = Production;
    receiver = codes "RXSWITCH                ";
  };
  details = record { reference = codes "0000000001"; text = drop 12 claim } ∷ [];
})
one_billing = refl

case_1 : batch_of (take 0 file) ≡ wrong (fault.NoHeader 0)
case_1 = refl

case_2 : batch_of (take 1 file) ≡ wrong (fault.Unclosed 0)
case_2 = refl

case_3 : batch_of (take 74 file) ≡ wrong (fault.Unclosed 0)
case_3 = refl

case_4 : batch_of (take 75 file) ≡ wrong (fault.NoTrailer 75)
case_4 = refl

case_5 : batch_of (take 76 file) ≡ wrong (fault.Unclosed 75)
case_5 = refl

case_6 : batch_of (take 269 file) ≡ wrong (fault.Unclosed 75)
case_6 = refl

case_7 : batch_of (take 270 file) ≡ wrong (fault.NoTrailer 270)
case_7 = refl

case_8 : batch_of (take 271 file) ≡ wrong (fault.Unclosed 270)
case_8 = refl

case_9 : batch_of (take 325 file) ≡ wrong (fault.Unclosed 270)
case_9 = refl

case_10 : batch_of (file ++ 88 ∷ []) ≡ wrong (fault.AfterTrailer 326)
case_10 = refl

case_11 : batch_of (88 ∷ file) ≡ wrong (fault.Outside 0)
case_11 = refl

case_12 : batch_of (set file 100 2) ≡ wrong (fault.Unclosed 75)
case_12 = refl

case_13 : batch_of (set file 80 3) ≡ wrong (fault.DetailShape 75)
case_13 = refl

case_14 : batch_of (set file 100 3) ≡ wrong (fault.Outside 101)
case_14 = refl

case_15 : batch_of (set file 1 71) ≡ wrong (fault.NoHeader 0)
case_15 = refl

case_16 : batch_of (set (set file 48 49) 49 49) ≡ wrong (fault.HeaderShape 0)
case_16 = refl

case_17 : batch_of (set file 271 56) ≡ wrong (fault.RecordKind 270)
case_17 = refl

case_18 : batch_of (set file 279 51) ≡ wrong (fault.NumberDiffers 270)
case_18 = refl

case_19 : batch_of (set file 289 50) ≡ wrong (fault.CountDiffers 270)
case_19 = refl

-- a message of 36 bytes
case_20 : batch_of (take 325 file ++ 32 ∷ 3 ∷ []) ≡ wrong (fault.TrailerShape 270)
case_20 = refl
