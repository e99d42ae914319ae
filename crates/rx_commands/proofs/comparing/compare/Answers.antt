use Rattle.std.proofs.lemmas.Result.{err_from_is_err_and}
use Rattle.rx_switch.specs.Planned.IsNotPlanned.{memory}
use Rattle.rx_commands.proofs.Compared.{are_read, whole}
use Rattle.rx_commands.proofs.comparing.compare.Goals as goal

pub returns-in_err-text-clause-refused : goal.returns-in_err-text-clause-refused
returns-in_err-text-clause-refused g c =
    let p = err_from_is_err_and c.from_residual-in_err-text.result c.from_residual-in_err-text.ensures.1 in
    rw (p.1, p.2) memory

pub returns-in_err-given-clause-refused : goal.returns-in_err-given-clause-refused
returns-in_err-given-clause-refused g c =
    let p = err_from_is_err_and c.from_residual.result c.from_residual.ensures.1 in
    rw (p.1, p.2) (c.in_err-given.ensures.refused _ _)

-- what is given was accepted
pub returns-in_err-changed-clause-refused : goal.returns-in_err-changed-clause-refused
returns-in_err-changed-clause-refused g c =
    let given = are_read _ _ _ c.in_ok-given.given c.in_ok-given.ensures.reported in
    let p = err_from_is_err_and c.from_residual-in_err-changed.result c.from_residual-in_err-changed.ensures.1 in
    rw (p.1, p.2) (c.in_err-changed.ensures.refused _ _ given)

pub returns-clause-compared : goal.returns-clause-compared
returns-clause-compared g c =
    record {
      given = c.in_ok-given.given;
      changed = c.in_ok-changed.changed;
      given_is = c.in_ok-given.ensures.reported;
      changed_is = c.in_ok-changed.ensures.reported;
      text_is = c.in_ok-text.ensures;
      whole = whole _ _ _ _ _ c.in_ok-given.given c.in_ok-changed.changed c.in_ok-given.ensures.reported
          c.in_ok-changed.ensures.reported;
    }
