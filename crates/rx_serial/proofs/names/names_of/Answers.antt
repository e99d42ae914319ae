use Rattle.std.proofs.Common.{List, subst}
use Rattle.std.specs.Prelude.{◌↔◌}
use Rattle.std.specs.List.{Contains}
use Rattle.rx_fields.specs.declared.key.Key.{Key}
use Rattle.rx_serial.proofs.names.names_of.Goals as goal

pub returns-clause-keys : goal.returns-clause-keys
returns-clause-keys c = λ key.
    subst (λ (ks : List Key). Contains c.in_ok-keys.keys.items key ↔ Contains ks key) c.in_ok-named.ensures
    (c.in_ok-keys.ensures.keys key)
