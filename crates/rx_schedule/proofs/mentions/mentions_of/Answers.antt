use Rattle.std.proofs.Common.{◌≡◌, ◌++◌, length, subst, sym, ap, ◌∙◌}
use Rattle.std.specs.List.{Contains}
use Rattle.std.specs.List.Sorted.{IsPermutation}
use Rattle.std.proofs.lemmas.List.Sorted.{Contains-permutation}
use Rattle.rx_schedule.specs.Mentions.{holders_of, named_of, reversed_of}
use Rattle.rx_schedule.proofs.Mentioned.{another_order}
use Rattle.rx_schedule.proofs.mentions.mentions_of.Goals as goal

pub returns : goal.returns
returns c = λ m w.
    let L = c.args.books.now.ledger in
    let records = c.args.transmissions.now in
    let names = named_of records (length records) in
    let given = reversed_of records (length records) in
    let sorted = c.sort_unstable_by.new.self.items in
    let moved : IsPermutation given sorted =
    subst (λ rs. IsPermutation rs sorted) c.in_ok-mentions.ensures.reversed c.sort_unstable_by.ensures.permutation in
    let all : c.put_holders.new.mentions.items ≡ names ++ holders_of L sorted =
    c.in_ok-put_holders.ensures ∙ ap (λ ms. ms ++ holders_of L c.deref.result.now) c.in_ok-mentions.ensures.list
    ∙ ap (λ rs. names ++ holders_of L rs) c.deref.ensures.value in
    Contains-permutation c.put_holders.new.mentions.items c.sort_unstable_by_key.new.self.items m
    c.sort_unstable_by_key.ensures.permutation
    (subst (λ ms. Contains ms m) (sym all) (another_order L names given sorted moved m w))
