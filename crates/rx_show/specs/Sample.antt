-- Meaning: the fixed inputs of the sample, and the line that it gives (docs/FORMATS.md, "Fixed inputs").
use Rattle.std.specs.Prelude.{ℕ, List, [], ◌∷◌, ◌++◌, codes, None}
use Rattle.std.specs.List.{flat_map}
use Rattle.rx_fields.specs.Calendar.{Civil}
use Rattle.rx_fields.specs.Numbered.{LotParts, Span}
use Rattle.rx_d0_values.specs.declared.reply.Reply.{Reply}
use Rattle.rx_ledger.specs.Fold.{reply_to}
use Rattle.rx_ledger.specs.Ledger.{Ledger, empty, with_member}
use Rattle.rx_ledger.specs.Plan.{Plan, with_drug}
use Rattle.rx_ledger.specs.declared.drug.Drug.{Drug}
use Rattle.rx_ledger.specs.declared.drug.Share.TheVariants.{Copay}
use Rattle.rx_ledger.specs.declared.figures.Figures.{Figures}
use Rattle.rx_ledger.specs.declared.member.Member.{Member}
use Rattle.rx_d0_reply.specs.Text.{reply_text}
use Rattle.rx_d0_request.specs.Request.{transmission_of}
use Rattle.rx_show.specs.Bytes.{shown_byte}

abbrev pub in_2026 : ℕ → ℕ → Civil
in_2026 month day = record { year = 2026; month = month; day = day }

-- the year 2026
abbrev pub year_2026 : Span
year_2026 = record { first = in_2026 1 1; last = in_2026 12 31 }

-- batch 0000042, created on 2026-03-01
abbrev pub sample_lot : LotParts
sample_lot = record { number = 42; created = in_2026 3 1 }

-- the plain sheet
abbrev pub plain_figures : Figures
plain_figures =
    record {
      door = record { bin = codes "900001"; pcn = codes "RXDEMO    " };
      period = year_2026;
      member_deductible = 10_000;
      family_maximum = 30_000;
      refill_percent = 75;
      max_days = 90;
      fee = 175;
      family_deductible = None;
    }

-- a drug with a copay in cents and a price in hundredths of a cent per unit
abbrev pub drug : ℕ → ℕ → Drug
drug copay price = record { share = Copay copay; price = price }

abbrev pub no_drugs : Plan
no_drugs = record { figures = plain_figures; drugs = [] }

abbrev pub plain_plan : Plan
plain_plan =
    with_drug (with_drug (with_drug no_drugs
    1_000_101 (drug 1_000 2_500))
    2_000_202 (drug 3_000 100_000))
    3_000_303 (drug 1_000 5_000)

-- the opening books: members who are covered in 2026, and no row
abbrev pub enrolled : List ℕ → List ℕ → Member
enrolled family person = record { key = record { family = family; person = person }; coverage = year_2026 }

abbrev pub opening : Ledger
opening =
    with_member (with_member (with_member (with_member empty
    (enrolled (codes "C100") (codes "01")))
    (enrolled (codes "C100") (codes "02")))
    (enrolled (codes "C100") (codes "03")))
    (enrolled (codes "C200") (codes "01"))

-- a field after its separator X'1C'
abbrev pub field : List ℕ → List ℕ
field text = 28 ∷ text

-- a segment after its separator X'1E'
abbrev pub segment : List (List ℕ) → List ℕ
segment fields = 30 ∷ flat_map field fields

-- the base claim: a header of 56 bytes, the common segment, and after X'1D' the claim and its pricing
unfoldable pub base_claim : List ℕ
base_claim =
    codes "900001D0B1RXDEMO    1011234567893     20260228          "
    ++ segment (codes "AM04" ∷ codes "C2C100" ∷ codes "C301" ∷ [])
    ++ 29 ∷ segment (codes "AM07" ∷ codes "EM1" ∷ codes "D2000000000123" ∷ codes "E103" ∷ codes "D700002000202"
    ∷ codes "E70000030000" ∷ codes "D5030" ∷ codes "D61" ∷ [])
    ++ segment (codes "AM11" ∷ codes "D90003000{" ∷ codes "DC0000017E" ∷ codes "DQ0004000{" ∷ [])

-- the reply to the base claim, the one record of its batch
abbrev pub sample_reply : Reply
sample_reply = reply_to sample_lot plain_plan 1 (transmission_of plain_figures.door base_claim) opening

-- its text on one line
abbrev pub sample_text : List ℕ
sample_text = flat_map shown_byte (reply_text sample_reply)
