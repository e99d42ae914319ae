use Rattle.std.proofs.Common.{◌≡◌, ◌++◌, ℕ, List, IfOk, refl, string_bytes, subst, sym}
use Rattle.toml.specs.Data.{Members}
use Rattle.toml.specs.View.{table_view}
use Rattle.rx_ledger.specs.declared.sheet_key.SheetKey.{SheetKey}
use Rattle.rx_ledger.specs.declared.sheet_key.SheetKey.TheVariants as key
use Rattle.rx_diagnostics.specs.SheetTexts.{missing_text}
use Rattle.rx_diagnostics.specs.SheetWords.{meant_for, missing_in}
use Rattle.rx_diagnostics.proofs.sheet.missing_in.Goals as goal

-- a key of the sheet itself
of_sheet : (text : List ℕ) (k : SheetKey) (sheet : Members) → ¬ (k ≡ key.Tier) → ¬ (k ≡ key.Price)
    → missing_text k ++ meant_for text k sheet ≡ missing_in text k sheet
of_sheet text key.Bin sheet tier price = refl
of_sheet text key.Pcn sheet tier price = refl
of_sheet text key.PeriodFirst sheet tier price = refl
of_sheet text key.PeriodLast sheet tier price = refl
of_sheet text key.MemberDeductible sheet tier price = refl
of_sheet text key.FamilyMaximum sheet tier price = refl
of_sheet text key.RefillPercent sheet tier price = refl
of_sheet text key.MaxDays sheet tier price = refl
of_sheet text key.Fee sheet tier price = refl
of_sheet text key.Tiers sheet tier price = refl
of_sheet text key.Drugs sheet tier price = refl
of_sheet text key.Tier sheet tier price = absurd (tier refl)
of_sheet text key.Price sheet tier price = absurd (price refl)
of_sheet text key.FamilyDeductible sheet tier price = refl

pub returns-in_default : goal.returns-in_default
returns-in_default c =
    let same = of_sheet c.args.text.now c.args.key (table_view c.args.sheet.now) c.in_default.not-Tier c.in_default.not-Price in
    subst (λ (t : List ℕ). IfOk c.missing_and_meant.result (λ said. string_bytes said ≡ t)) same c.missing_and_meant.ensures
