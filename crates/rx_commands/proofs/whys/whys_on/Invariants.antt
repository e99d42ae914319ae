-- The lines so far, each with its words; and the pass on its way.
use Rattle.std.proofs.Common.{take}
use Rattle.std.specs.List.{AllZip}
use Rattle.rx_commands.specs.Records.{IsPass}
use Rattle.rx_commands.specs.Tiers.{table_of}
use Rattle.rx_commands.specs.Whys.{IsWhyAmong}
use Rattle.rx_commands.proofs.whys.whys_on.Given as goal

abbrev pub invariant-loop-line : goal.invariant-loop-line
invariant-loop-line l = record {
  pass : IsPass l.batch l.pass;
  whys : AllZip (IsWhyAmong l.batch.lot l.batch.sheet.now (table_of l.quoted.tiers.now) l.batch.asked.now l.batch.opening.now.ledger
      l.quoted.details.now l.events)
      (take l.line-index l.lines) l.whys.items;
}
