use Rattle.std.specs.Prelude.{option_copied}
use Rattle.rx_check.specs.Faults.{IsSheetPlaceIn}
use Rattle.rx_check.specs.Wording.{AreSheetWords}
use Rattle.rx_check.proofs.Reports.{begins, says}
use Rattle.rx_check.proofs.fault_lines.sheet_line.Goals as goal

pub returns-clause-begins : goal.returns-clause-begins
returns-clause-begins c =
    begins (IsSheetPlaceIn (option_copied c.args.input.now.text) c.args.fault) c.args.input.now.name.now c.in_ok-words.words
    c.line.result c.in_ok-words.ensures.place c.line.ensures.begins

pub returns-clause-said : goal.returns-clause-said
returns-clause-said c =
    says (AreSheetWords (option_copied c.args.input.now.text) c.args.fault) c.args.input.now.name.now c.in_ok-words.words
    c.line.result c.in_ok-words.ensures.said c.line.ensures.value
