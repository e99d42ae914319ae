-- Meaning: where a report's lines stand in the batch.
use Rattle.rx_explain.specs.declared.at.At.{At}
use Rattle.rx_report.specs.declared.line.Line.{Line}

abbrev pub at_of : Line → At
at_of l = record { place = l.place; nth = l.nth }
