-- Meaning: the two characters of each reject code.
use Rattle.std.specs.Prelude.{ℕ, List, [], ◌∷◌, Option, codes, find, nat_eq}
use Rattle.std.specs.Cmp.Lexicographic.{pointwise}
use Rattle.rx_fields.specs.declared.code.Code.{Code}
use Rattle.rx_fields.specs.declared.code.Code.TheVariants as code

-- the characters of a code, a line each
abbrev pub code_text : Code → List ℕ
code_text code.Bin = codes "01"
code_text code.Version = codes "02"
code_text code.TransactionCode = codes "03"
code_text code.ProcessorControlNumber = codes "04"
code_text code.Provider = codes "05"
code_text code.Cardholder = codes "07"
code_text code.OtherCoverage = codes "13"
code_text code.DateOfService = codes "15"
code_text code.Reference = codes "16"
code_text code.DaysSupply = codes "19"
code_text code.Compound = codes "20"
code_text code.ProductId = codes "21"
code_text code.IngredientCost = codes "23"
code_text code.UnknownCardholder = codes "52"
code_text code.Person = codes "53"
code_text code.NotCovered = codes "65"
code_text code.ProductNotCovered = codes "70"
code_text code.PlanLimits = codes "76"
code_text code.RefillTooSoon = codes "79"
code_text code.TooOld = codes "81"
code_text code.PostDated = codes "82"
code_text code.DuplicatePaid = codes "83"
code_text code.ReversalNotProcessed = codes "87"
code_text code.TransactionCount = codes "A9"
code_text code.DispensingFee = codes "DC"
code_text code.UsualCharge = codes "DQ"
code_text code.GrossAmount = codes "DU"
code_text code.ProductQualifier = codes "E1"
code_text code.Quantity = codes "E7"
code_text code.ReferenceQualifier = codes "EM"
code_text code.Syntax = codes "R8"

-- every code, in the order of its characters
abbrev pub all_codes : List Code
all_codes =
    code.Bin ∷ code.Version ∷ code.TransactionCode ∷ code.ProcessorControlNumber ∷ code.Provider ∷ code.Cardholder
    ∷ code.OtherCoverage ∷ code.DateOfService ∷ code.Reference ∷ code.DaysSupply ∷ code.Compound ∷ code.ProductId
    ∷ code.IngredientCost ∷ code.UnknownCardholder ∷ code.Person ∷ code.NotCovered ∷ code.ProductNotCovered
    ∷ code.PlanLimits ∷ code.RefillTooSoon ∷ code.TooOld ∷ code.PostDated ∷ code.DuplicatePaid
    ∷ code.ReversalNotProcessed ∷ code.TransactionCount ∷ code.DispensingFee ∷ code.UsualCharge ∷ code.GrossAmount
    ∷ code.ProductQualifier ∷ code.Quantity ∷ code.ReferenceQualifier ∷ code.Syntax ∷ []

-- the code that has these characters
abbrev pub code_of : List ℕ → Option Code
code_of bs = find (λ c. pointwise nat_eq (code_text c) bs) all_codes
