use Rattle.std.proofs.Common.{◌≡◌, ℕ, Some, get_or, vec_len}
use Rattle.std.specs.List.{slice_get}
use Rattle.rx_ledger.specs.SameTerms.{IsTermsOf}
use Rattle.rx_ledger.specs.TermList.{TermParts}
use Rattle.rx_schedule.specs.Footprints.{no_record}
use Rattle.rx_desk.proofs.making.terms_of.Given as goal

abbrev pub invariant-records : goal.invariant-records
invariant-records l = record {
  as_many : vec_len l.terms ≡ l.transmission-index;
  each : (i : ℕ) (t : TermParts) → slice_get l.terms.items i ≡ Some t
      → IsTermsOf l.lot l.sheet (get_or l.transmissions i no_record) t;
}
