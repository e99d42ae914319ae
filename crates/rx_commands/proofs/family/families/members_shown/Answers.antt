use Rattle.std.proofs.Common.{map, take, ap, sym, ◌++◌, ◌∷◌, [], ◌∙◌}
use Rattle.std.proofs.lemmas.List.{map-append, take_more}
use Rattle.rx_ledger.specs.declared.member.Member.{Member}
use Rattle.rx_commands.specs.declared.family.families.FamilyMember.{FamilyMember}
use Rattle.rx_commands.specs.declared.family.families.Total.{Total}
use Rattle.rx_commands.specs.Families.{member_shown}
use Rattle.rx_commands.proofs.family.families.members_shown.Goals as goal

pub loop-member-preserved : goal.loop-member-preserved
loop-member-preserved c =
    let ms = c.args.members.now in
    let i = c.loop-member.member-index in
    let m : Member = c.member-item.result in
    let f = member_shown c.args.limits.now.deductible c.args.books.now c.args.claims.now in
    let more = take_more ms i m c.loop-member-test.true in
    let last = ap (λ (n : Member). take i ms ++ n ∷ []) c.member-item.is in
    let pushed : FamilyMember = record { member = m; deductible = c.own_deductible-deductible.result } in
    c.in_ok-push.ensures.items
    ∙ ap (λ list. list ++ pushed ∷ []) c.loop-member.invariant
    ∙ ap (λ (d : Total). map f (take i ms) ++ record { member = m; deductible = d } ∷ []) c.own_deductible-deductible.ensures
    ∙ sym (map-append f (take i ms) (m ∷ []))
    ∙ ap (map f) (last ∙ sym more)
