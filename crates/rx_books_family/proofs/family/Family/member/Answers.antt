use Rattle.std.proofs.Common.{◌∙◌}
use Rattle.rx_books_family.proofs.Families.{persons_found}
use Rattle.rx_books_family.proofs.family.Family.member.Goals as goal

pub returns : goal.returns
returns c = rw (← c.self.view_is) (c.copied.ensures ∙ c.get.ensures
    ∙ persons_found c.self.inside.family c.self.inside.members c.self.invariant.own.members_own c.args.person.now)
