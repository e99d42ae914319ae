use Rattle.std.proofs.Common.{ℕ, List, rules, sym, ap, ◌∙◌}
use Rattle.std.proofs.lemmas.Bool.{ltb-true, ltb-false}
use Rattle.std.proofs.lemmas.List.Sorted.{IsPartitionPoint-from_clause}
use Rattle.rx_ledger.specs.declared.member.Member.{Member}
use Rattle.rx_ledger.specs.Members.{of_family}
use Rattle.rx_ledger.proofs.SameText.{same_text}
use Rattle.rx_books_text.proofs.Families.{IsPoint, is_before, parted, first_tells, all_before}
use Rattle.rx_books_text.proofs.reader.has_member.Goals as goal

pub returns-in-Some : goal.returns-in-Some
returns-in-Some c =
    let family = c.args.family.now in
    let ms : List Member = c.args.members.now in
    let at : ℕ = c.partition_point-at.result in
    let m : Member = c.in-Some.member.now in
    let point : IsPoint family ms at = IsPartitionPoint-from_clause (is_before family) ms at c.partition_point-at.ensures.partitioned
    (parted family ms c.requires) (λ a r q k. search rules) in
    let found = c.in-Some.ensures.lookup in
    c.eq.ensures ∙ same_text m.key.family family ∙ ap (of_family family) found.1
    ∙ first_tells family ms at m c.requires point (ltb-true _ _ (sym found.0))

pub returns-in-None : goal.returns-in-None
returns-in-None c =
    let family = c.args.family.now in
    let ms : List Member = c.args.members.now in
    let at : ℕ = c.partition_point-at.result in
    let point : IsPoint family ms at = IsPartitionPoint-from_clause (is_before family) ms at c.partition_point-at.ensures.partitioned
    (parted family ms c.requires) (λ a r q k. search rules) in
    all_before family ms at point (ltb-false _ _ (sym c.in-None.ensures.lookup.0))
