use Rattle.std.proofs.Common.{◌≡◌, take}
use Rattle.rx_report_text.specs.Providers.{longest}
use Rattle.rx_report_text.proofs.providers.longest.Given as goal

abbrev pub invariant-loop-section : goal.invariant-loop-section
invariant-loop-section l = l.longest ≡ longest (take l.section-index l.sections)
