-- Meaning: the occasion of a transaction, and what it is asked under.
use Rattle.std.specs.Prelude.{ℕ, List}
use Rattle.rx_d0_values.specs.declared.transmission.Heard.{Heard}
use Rattle.rx_fields.specs.Numbered.{LotParts}
use Rattle.rx_ledger.specs.declared.figures.Figures.{Figures}
use Rattle.rx_ledger.specs.declared.occasion.Occasion.{Occasion}
use Rattle.rx_ledger.specs.declared.sheet.Listed.{Listed}
use Rattle.rx_ledger.specs.Decisions.{Asked}
use Rattle.rx_ledger.specs.Fold.{authorization}

-- the occasion of the nth transaction of the record at a place
abbrev pub occasion_of : LotParts → Figures → ℕ → Heard → ℕ → Occasion
occasion_of lot figures place h nth =
    record {
      lot = lot;
      figures = figures;
      provider = h.provider;
      date = h.date;
      number = authorization lot place nth;
    }

-- what the occasion's transaction is asked under, where the plan lists these drugs
abbrev pub asked_on : Occasion → List Listed → Asked
asked_on o drugs =
    record {
      lot = o.lot;
      plan = record { figures = o.figures; drugs = drugs };
      provider = o.provider;
      date = o.date;
      number = o.number;
    }
