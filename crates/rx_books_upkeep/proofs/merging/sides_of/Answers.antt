use Rattle.std.proofs.Common.{◌∷◌, ◌++◌, ◌+◌, ◌∙◌, ap, subst, sym, take}
use Rattle.std.proofs.lemmas.List.{take_rest}
use Rattle.rx_sorted.specs.Ascending.{IsAt, IsGap}
use Rattle.rx_ledger.specs.Members.{member_cmp, member_key}
use Rattle.rx_books_upkeep.proofs.MergedMembers.{sides_at, sides_gap}
use Rattle.rx_books_upkeep.proofs.merging.sides_of.Goals as goal

pub returns-in-Ok : goal.returns-in-Ok
returns-in-Ok c m same =
    let own = c.args.members.now in
    let at = c.in-Ok.at in
    sides_at own m at c.requires (subst (λ k. IsAt member_cmp member_key own k at) (sym same) c.in-Ok.ensures.found)
    ∙ ap (λ rest. take at own ++ m ∷ rest) (sym (take_rest own (at + 1)))

pub returns-in-Err : goal.returns-in-Err
returns-in-Err c m same =
    let own = c.args.members.now in
    let at = c.in-Err.at in
    sides_gap own m at (subst (λ k. IsGap member_cmp member_key own k at) (sym same) c.in-Err.ensures.absent)
    ∙ ap (λ rest. take at own ++ m ∷ rest) (sym (take_rest own at))
