use Rattle.std.proofs.Common.{◌≡◌, ◌*◌, ◌<◌, ◌≤◌, false, true, length, refl, rules}
use Rattle.rx_desk.proofs.Left.{complete, incomplete}
use Rattle.rx_desk.proofs.desk.Desk.close.Goals as goal

pub returns-then-len-clause-whole : goal.returns-then-len-clause-whole
returns-then-len-clause-whole c =
    let short : length c.self.inside.history.items < 2 * length c.self.inside.states.items = search rules in (
      λ e. absurd (let no : false ≡ true = e in cc),
      λ all. absurd (incomplete _ _ _ _ _ _ _ _ _ c.self.invariant short (rw (← c.self.view_is) at all)),
    )

pub finished-requires : goal.finished-requires
finished-requires c =
    let done : 2 * length c.self.inside.states.items ≤ length c.self.inside.history.items = search rules in
    rw (← c.self.view_is) (complete _ _ _ _ _ _ _ _ _ c.self.invariant done)

pub returns-clause-whole : goal.returns-clause-whole
returns-clause-whole c =
    let done : 2 * length c.self.inside.states.items ≤ length c.self.inside.history.items = search rules in
    (λ _. rw (← c.self.view_is) (complete _ _ _ _ _ _ _ _ _ c.self.invariant done), λ _. refl)
