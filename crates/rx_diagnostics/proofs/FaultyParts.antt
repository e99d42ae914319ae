-- What is said of a value of a tier or a drug, by its parts.
use Rattle.std.proofs.Common.{◌≡◌, ◌++◌, ℕ, List, codes, refl}
use Rattle.rx_diagnostics.specs.FaultyParts.{expected_of, owner_of, part_of}
use Rattle.rx_diagnostics.specs.SheetDrugs.{said_of}
use Rattle.rx_diagnostics.specs.declared.sheet_drugs.Faulty.{Faulty}
use Rattle.rx_diagnostics.specs.declared.sheet_drugs.Faulty.TheVariants as faulty

pub said_parts : (f : Faulty) (name shown : List ℕ)
    → said_of f name shown
    ≡ owner_of f ++ (codes " " ++ (name ++ (part_of f ++ (codes " = " ++ (shown ++ (codes ": " ++ expected_of f))))))
unfolding said_of
said_parts faulty.Cents name shown = refl
said_parts faulty.Percent name shown = refl
said_parts faulty.Drug name shown = refl
said_parts faulty.Tier name shown = refl
said_parts faulty.Price name shown = refl
