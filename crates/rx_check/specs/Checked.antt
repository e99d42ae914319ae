-- Meaning: what `check` prints, and how it ends.
use Rattle.std.specs.Prelude.{◌≡◌, not, string_bytes}
use Rattle.rx_check.specs.Found.{Files, IsFound}
use Rattle.rx_check.specs.Refusals.{refusal_of}
use Rattle.rx_check.specs.Report.{IsReport, Names}
use Rattle.rx_check.specs.Warned.{warns_of_nothing}
use Rattle.rx_check.specs.declared.checked.Checked.{Checked}
use Rattle.rx_check.specs.declared.found.Found.{Found}

-- the lines are about what is found of the inputs, the refusal is that of the first fault, and the warnings are reported as well
pub record IsChecked (files : Files) (names : Names) (c : Checked) : Type 0 where
  pub found : Found
  pub is_found : IsFound files found
  pub text_is : IsReport files names found (string_bytes c.text)
  pub refusal_is : c.refusal ≡ refusal_of found
  pub warnings_are : c.has_warnings ≡ not (warns_of_nothing found.warnings)
  pub all_are : c.warnings ≡ found.warnings
