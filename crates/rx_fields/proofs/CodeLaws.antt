-- Codes are read as they are written.
use Rattle.std.proofs.Common.{◌≡◌, length, Some, refl}
use Rattle.rx_fields.specs.Codes.{code_of, code_text}
use Rattle.rx_fields.specs.declared.code.Code.{Code}
use Rattle.rx_fields.specs.declared.code.Code.TheVariants as code

-- each code has two characters of its own
pub code_again : (c : Code) → (code_of (code_text c) ≡ Some c) × (length (code_text c) ≡ 2)
code_again code.Bin = (refl, refl)
code_again code.Version = (refl, refl)
code_again code.TransactionCode = (refl, refl)
code_again code.ProcessorControlNumber = (refl, refl)
code_again code.Provider = (refl, refl)
code_again code.Cardholder = (refl, refl)
code_again code.OtherCoverage = (refl, refl)
code_again code.DateOfService = (refl, refl)
code_again code.Reference = (refl, refl)
code_again code.DaysSupply = (refl, refl)
code_again code.Compound = (refl, refl)
code_again code.ProductId = (refl, refl)
code_again code.IngredientCost = (refl, refl)
code_again code.UnknownCardholder = (refl, refl)
code_again code.Person = (refl, refl)
code_again code.NotCovered = (refl, refl)
code_again code.ProductNotCovered = (refl, refl)
code_again code.PlanLimits = (refl, refl)
code_again code.RefillTooSoon = (refl, refl)
code_again code.TooOld = (refl, refl)
code_again code.PostDated = (refl, refl)
code_again code.DuplicatePaid = (refl, refl)
code_again code.ReversalNotProcessed = (refl, refl)
code_again code.TransactionCount = (refl, refl)
code_again code.DispensingFee = (refl, refl)
code_again code.UsualCharge = (refl, refl)
code_again code.GrossAmount = (refl, refl)
code_again code.ProductQualifier = (refl, refl)
code_again code.Quantity = (refl, refl)
code_again code.ReferenceQualifier = (refl, refl)
code_again code.Syntax = (refl, refl)
