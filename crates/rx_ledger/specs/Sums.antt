-- Meaning: the accumulators of a benefit period: sums over the standing claims of a family that are dated within it.
use Rattle.std.specs.Prelude.{ℕ, List, if◌then◌else◌, sum_by}
use Rattle.rx_fields.specs.Numbered.{Span, is_within}
use Rattle.rx_d0_values.specs.Priced.{patient_pay}
use Rattle.rx_ledger.specs.declared.row.Row.{Row}
use Rattle.rx_ledger.specs.Ledger.{Ledger, rows_of}
use Rattle.rx_ledger.specs.Members.{is_same}

-- what a row counts in a period: its figure where it is dated within the period, else nothing
abbrev pub counted : Span → (Row → ℕ) → Row → ℕ
counted period figure r = if is_within period r.key.date then figure r else 0

-- the amount applied to the deductible, of a person's rows and of all rows of a family; and what the family paid
abbrev pub deductible_paid : Row → ℕ
deductible_paid r = r.pricing.deductible

abbrev pub persons_deductible_paid : List ℕ → Row → ℕ
persons_deductible_paid person r = if is_same r.person person then deductible_paid r else 0

abbrev pub paid_by_patient : Row → ℕ
paid_by_patient r = patient_pay r.pricing

-- over the rows of one family: a person's deductible, the family's out of pocket, the family's deductible
abbrev pub deductible_in : Span → List Row → List ℕ → ℕ
deductible_in period rows person = sum_by (counted period (persons_deductible_paid person)) rows

abbrev pub out_of_pocket_in : Span → List Row → ℕ
out_of_pocket_in period rows = sum_by (counted period paid_by_patient) rows

abbrev pub family_deductible_in : Span → List Row → ℕ
family_deductible_in period rows = sum_by (counted period deductible_paid) rows

-- the deductible of a member, the out of pocket of a family, and the deductible of a family
abbrev pub deductible : Span → Ledger → List ℕ → List ℕ → ℕ
deductible period L family person = deductible_in period (rows_of L family) person

abbrev pub out_of_pocket : Span → Ledger → List ℕ → ℕ
out_of_pocket period L family = out_of_pocket_in period (rows_of L family)

abbrev pub family_deductible : Span → Ledger → List ℕ → ℕ
family_deductible period L family = family_deductible_in period (rows_of L family)
