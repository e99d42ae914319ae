use Rattle.std.proofs.Common.{ap, not, refl}
use Rattle.rx_check.proofs.checked.check.Goals as goal

pub returns : goal.returns
returns c = record {
  found = c.in_ok-found.found;
  is_found = c.in_ok-found.ensures;
  text_is = c.in_ok-text.ensures;
  refusal_is = c.refusal-refusal.ensures;
  warnings_are = ap not c.is_empty-has_warnings.ensures;
  all_are = refl;
}
