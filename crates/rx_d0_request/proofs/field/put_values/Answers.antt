use Rattle.std.proofs.Common.{sym, ap, ◌∙◌, Some, Option, List, ℕ}
use Rattle.rx_d0_request.proofs.Runs.{absent_values}
use Rattle.rx_d0_request.proofs.field.put_values.Goals as goal

pub returns-in-None : goal.returns-in-None
returns-in-None c = rw c.in-None.is (ap (λ (slots : List (Option (List ℕ))). Some slots) c.requires ∙ sym (absent_values c.args.ids.now))
