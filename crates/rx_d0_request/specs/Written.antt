-- Meaning: requests as they are written: each field once, in order, in its one spelling (docs/FORMATS.md, "Request transmission").
-- FS is 28, GS is 29, SS is 30.
use Rattle.std.specs.Prelude.{◌≡◌, ℕ, ◌+◌, ◌-◌, ◌<◌, ◌≤◌, ◌^◌, true, pos, List, [], ◌∷◌, ◌++◌}
use Rattle.std.specs.Prelude.{length, map, replicate, Option, Some, None, All, codes}
use Rattle.std.specs.List.{list_all}
use Rattle.rx_fields.specs.declared.limits.TheConstants.{MOST_CENTS}
use Rattle.rx_fields.specs.Amount.{signed_text}
use Rattle.rx_fields.specs.Calendar.{Civil, IsCivil, date_text}
use Rattle.rx_fields.specs.Digits.{digits_text}
use Rattle.rx_text.specs.Bytes.{is_printable}
use Rattle.rx_fields.specs.Text.{IsId, trimmed}
use Rattle.rx_fields.specs.declared.door.Door.{Door}
use Rattle.rx_d0_values.specs.Billed.{IsCharged}
use Rattle.rx_d0_values.specs.Echoed.{blanked_parts}
use Rattle.rx_d0_values.specs.declared.bill.BillParts.{BillParts}
use Rattle.rx_d0_values.specs.declared.transaction.Reversal.{Reversal}
use Rattle.rx_d0_values.specs.declared.transaction.Transaction.{Transaction}
use Rattle.rx_d0_values.specs.declared.transmission.Body.TheVariants.{Heard}
use Rattle.rx_d0_values.specs.declared.transmission.Transmission.{Transmission}
use Rattle.rx_d0_request.specs.Cut.{Field, is_named}

-- ---- parts, segments and fields

-- the pieces, each after its separator
abbrev pub behind : ℕ → List (List ℕ) → List ℕ
behind separator [] = []
behind separator (piece ∷ pieces) = separator ∷ (piece ++ behind separator pieces)

abbrev pub field_text : Field → List ℕ
field_text f = f.id ++ f.value

abbrev pub segment_text : List Field → List ℕ
segment_text fs = behind 28 (map field_text fs)

abbrev pub part_text : List (List Field) → List ℕ
part_text segments = behind 30 (map segment_text segments)

-- the common part, and the groups
abbrev pub parts_text : List (List Field) → List (List (List Field)) → List ℕ
parts_text common groups = part_text common ++ behind 29 (map part_text groups)

-- printable bytes: two of id, and a value that doesn't end with a blank
pub record IsWritten (f : Field) : Type 0 where
  pub two : length f.id ≡ 2
  pub printable : list_all is_printable (f.id ++ f.value) ≡ true
  pub whole : trimmed f.value ≡ f.value

-- such fields, of which the first names the segment
pub record IsWrittenSegment (fs : List Field) : Type 0 where
  pub fields : All IsWritten fs
  pub named : is_named fs ≡ true

-- such segments
abbrev pub IsWrittenPart : List (List Field) → Type 0
IsWrittenPart segments = All IsWrittenSegment segments

-- ---- what is asked

-- a value under an id
abbrev pub under : List ℕ → List ℕ → Field
under id value = record { id = id; value = value }

-- an amount under an id, if there is one
abbrev pub amount_if_there : List ℕ → Option ℕ → List Field
amount_if_there id None = []
amount_if_there id (Some n) = under id (signed_text (pos n)) ∷ []

-- segment 04: the member
abbrev pub insurance_fields : List ℕ → List ℕ → List Field
insurance_fields family person =
    under (codes "AM") (codes "04") ∷ under (codes "C2") family ∷ under (codes "C3") person ∷ []

-- segment 07: the prescription and the product
abbrev pub claim_fields : ℕ → ℕ → List Field → List Field
claim_fields reference product more =
    under (codes "AM") (codes "07") ∷ under (codes "EM") (codes "1") ∷ under (codes "D2") (digits_text 12 reference)
    ∷ under (codes "E1") (codes "03") ∷ under (codes "D7") (digits_text 11 product) ∷ more

-- quantity and days, and that it is no compound, which a reversal leaves out
abbrev pub supply_fields : BillParts → List Field
supply_fields b =
    under (codes "E7") (digits_text 10 b.quantity) ∷ under (codes "D5") (digits_text 3 b.days)
    ∷ under (codes "D6") (codes "1") ∷ []

-- segment 11: the amounts
abbrev pub pricing_fields : BillParts → List Field
pricing_fields b =
    under (codes "AM") (codes "11") ∷ under (codes "D9") (signed_text (pos b.ingredient_cost))
    ∷ (amount_if_there (codes "DC") b.dispensing_fee
    ++ (amount_if_there (codes "DQ") b.usual_charge ++ amount_if_there (codes "DU") b.gross_amount))

-- the group of a billing, and of a reversal
abbrev pub bill_group : BillParts → List (List Field)
bill_group b = claim_fields b.reference b.product (supply_fields b) ∷ pricing_fields b ∷ []

abbrev pub reversal_group : Reversal → List (List Field)
reversal_group r = claim_fields r.reference r.product [] ∷ []

-- who asks, and on which date
pub record Asker : Type 0 where
  pub qualifier : List ℕ
  pub provider : List ℕ
  pub date : Civil

-- the pharmacy's id with blanks to 15 bytes
abbrev pub provider_text : List ℕ → List ℕ
provider_text id = id ++ replicate (15 - length id) 32

-- the header: BIN, version, code, processor control number, count, qualifier, provider, date, and no software vendor
abbrev pub header_text : Door → List ℕ → ℕ → Asker → List ℕ
header_text door code count who =
    door.bin ++ (codes "D0" ++ (code ++ (door.pcn ++ ((48 + count) ∷ (who.qualifier
    ++ (provider_text who.provider ++ (date_text who.date ++ replicate 10 32)))))))

-- the billings of a member
abbrev pub billing_text : Door → Asker → List ℕ → List ℕ → List BillParts → List ℕ
billing_text door who family person bills =
    header_text door (codes "B1") (length bills) who
    ++ parts_text (insurance_fields family person ∷ []) (map bill_group bills)

-- reversals, which have no common part
abbrev pub reversal_text : Door → Asker → List Reversal → List ℕ
reversal_text door who reversals =
    header_text door (codes "B2") (length reversals) who ++ parts_text [] (map reversal_group reversals)

-- the transmission of these
abbrev pub heard_of : List ℕ → Asker → List Transaction → Transmission
heard_of code who list =
    record {
      echo = blanked_parts (record {
        version = codes "D0";
        code = code;
        qualifier = who.qualifier;
        provider = provider_text who.provider;
        date = date_text who.date;
      });
      body = Heard (record { provider = who.provider; date = who.date; list = list });
    }

-- ---- what can be written

pub record IsDoor (door : Door) : Type 0 where
  pub bin_length : length door.bin ≡ 6
  pub bin : list_all is_printable door.bin ≡ true
  pub pcn_length : length door.pcn ≡ 10
  pub pcn : list_all is_printable door.pcn ≡ true

pub record IsAsker (who : Asker) : Type 0 where
  pub qualifier_length : length who.qualifier ≡ 2
  pub qualifier : list_all is_printable who.qualifier ≡ true
  pub provider : IsId 15 who.provider
  pub date : IsCivil who.date

-- the amount has at most eight digits, where it is there
abbrev pub IsAmountIfThere : Option ℕ → Type 0
IsAmountIfThere None = Unit {0}
IsAmountIfThere (Some n) = n ≤ MOST_CENTS

-- a billing for this member within the limits of its fields, that states a charge
pub record IsBillOf (family person : List ℕ) (b : BillParts) : Type 0 where
  pub family_is : b.family ≡ family
  pub person_is : b.person ≡ person
  pub reference : b.reference < 10 ^ 12
  pub product : b.product < 10 ^ 11
  pub some : 0 < b.quantity
  pub quantity : b.quantity < 10 ^ 10
  pub day : 0 < b.days
  pub days : b.days < 10 ^ 3
  pub ingredient_cost : b.ingredient_cost ≤ MOST_CENTS
  pub dispensing_fee : IsAmountIfThere b.dispensing_fee
  pub usual_charge : IsAmountIfThere b.usual_charge
  pub gross_amount : IsAmountIfThere b.gross_amount
  pub charged : IsCharged b

pub record IsReversal (r : Reversal) : Type 0 where
  pub reference : r.reference < 10 ^ 12
  pub product : r.product < 10 ^ 11

-- ---- the base claim (docs/FORMATS.md, "The base claim")

abbrev pub base_door : Door
base_door = record { bin = codes "900001"; pcn = codes "RXDEMO    " }

abbrev pub base_asker : Asker
base_asker =
    record {
      qualifier = codes "01";
      provider = codes "1234567893";
      date = record { year = 2026; month = 2; day = 28 };
    }

abbrev pub base_bill : BillParts
base_bill =
    record {
      reference = 123;
      family = codes "C100";
      person = codes "01";
      product = 2_000_202;
      quantity = 30_000;
      days = 30;
      ingredient_cost = 30_000;
      dispensing_fee = Some 175;
      usual_charge = Some 40_000;
      gross_amount = None;
    }

-- its 181 bytes, as that page has them
abbrev pub base_claim : List ℕ
base_claim =
    codes "900001D0B1RXDEMO    1011234567893     20260228          "
    ++ 30 ∷ 28 ∷ (codes "AM04" ++ 28 ∷ (codes "C2C100" ++ 28 ∷ (codes "C301"
    ++ 29 ∷ 30 ∷ 28 ∷ (codes "AM07" ++ 28 ∷ (codes "EM1" ++ 28 ∷ (codes "D2000000000123" ++ 28 ∷ (codes "E103"
    ++ 28 ∷ (codes "D700002000202" ++ 28 ∷ (codes "E70000030000" ++ 28 ∷ (codes "D5030" ++ 28 ∷ (codes "D61"
    ++ 30 ∷ 28 ∷ (codes "AM11" ++ 28 ∷ (codes "D90003000{" ++ 28 ∷ (codes "DC0000017E" ++ 28 ∷ codes "DQ0004000{"))))))))))))))
