-- Plumbing: the figures of a sheet: keys 1 to 9, one after another by their numbers, and key 14.
use Rattle.std.specs.Prelude.{ℕ, Option, None, Result, Ok}
use Rattle.std.specs.Option.{option_and_then}
use Rattle.rx_ledger.specs.declared.figures.TheConstants.{MOST_LIMIT}
use Rattle.rx_fields.specs.declared.limits.TheConstants.{MOST_CENTS}
use Rattle.toml.specs.Data.{Data, Members}
use Rattle.rx_fields.specs.Calendar.{Civil}
use Rattle.rx_fields.specs.Numbered.{Span, period_of}
use Rattle.rx_fields.specs.declared.door.Door.{Door}
use Rattle.rx_ledger.specs.declared.figures.Figures.{Figures}
use Rattle.rx_ledger.specs.declared.sheet_key.SheetKey.TheVariants as key
use Rattle.rx_sheet.specs.declared.fault.SheetFault.{SheetFault}
use Rattle.rx_text.specs.Results.{◌>>=◌}
use Rattle.rx_sheet.specs.Values.{read_at, read_if_there, bin, pcn, day, number}

-- keys 1 and 2
unfoldable pub door_in : Members → Result Door SheetFault
door_in sheet = do
  bin ← read_at key.Bin bin sheet
  pcn ← read_at key.Pcn pcn sheet
  Ok (record { bin = bin; pcn = pcn })

-- the period from a first day to the day that a value stands for, which isn't before it
abbrev pub period_from : Civil → Data → Option Span
period_from first value = option_and_then (period_of first) (day value)

-- keys 3 and 4
unfoldable pub period_in : Members → Result Span SheetFault
period_in sheet = do
  first ← read_at key.PeriodFirst day sheet
  read_at key.PeriodLast (period_from first) sheet

-- keys 1 to 9; the family's deductible is read later
unfoldable pub figures_in : Members → Result Figures SheetFault
figures_in sheet = do
  door ← door_in sheet
  period ← period_in sheet
  member_deductible ← read_at key.MemberDeductible (number 0 MOST_LIMIT) sheet
  family_maximum ← read_at key.FamilyMaximum (number 0 MOST_LIMIT) sheet
  refill_percent ← read_at key.RefillPercent (number 0 100) sheet
  max_days ← read_at key.MaxDays (number 1 999) sheet
  fee ← read_at key.Fee (number 0 MOST_CENTS) sheet
  Ok (record {
    door = door;
    period = period;
    member_deductible = member_deductible;
    family_maximum = family_maximum;
    refill_percent = refill_percent;
    max_days = max_days;
    fee = fee;
    family_deductible = None;
  })

-- key 14
unfoldable pub family_deductible_in : Members → Result (Option ℕ) SheetFault
family_deductible_in sheet = read_if_there key.FamilyDeductible (number 0 MOST_LIMIT) sheet
