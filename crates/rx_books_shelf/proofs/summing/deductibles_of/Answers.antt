use Rattle.std.proofs.Common.{◌∷◌, [], ◌++◌, map, sym, ap, subst, take, ◌∙◌}
use Rattle.std.specs.List.{Contains}
use Rattle.std.proofs.lemmas.List.{map-append, take_more}
use Rattle.rx_ledger.specs.declared.member.Member.{Member}
use Rattle.rx_books_shelf.specs.Gathered.{own_deductible}
use Rattle.rx_books_shelf.proofs.summing.deductibles_of.Goals as goal

pub deductible_near-requires : goal.deductible_near-requires
deductible_near-requires c =
    subst (Contains c.args.books.now.books.ledger.members) (sym c.member-item.is)
    (c.requires c.loop-member.member-index c.member-item.result c.loop-member-test.true)

pub loop-member-preserved : goal.loop-member-preserved
loop-member-preserved c =
    let ms = c.args.members.now in
    let i = c.loop-member.member-index in
    let m : Member = c.member-item.result in
    let f = own_deductible c.args.books.now.books in
    let more = take_more ms i m c.loop-member-test.true in
    let last = ap (λ (n : Member). take i ms ++ n ∷ []) c.member-item.is in
    c.in_ok-push.ensures.items
    ∙ ap (λ ds. ds ++ c.deductible_near.result ∷ []) c.loop-member.invariant
    ∙ ap (λ d. map f (take i ms) ++ d ∷ []) c.deductible_near.ensures
    ∙ sym (map-append f (take i ms) (m ∷ []))
    ∙ ap (map f) (last ∙ sym more)
