-- What the records name ascends, and has slots.
use Rattle.std.proofs.Common.{◌≡◌, sym, subst, ◌∙◌}
use Rattle.std.specs.List.{All, Contains}
use Rattle.std.proofs.lemmas.List.Elements.{All-contains}
use Rattle.rx_books_store.specs.OpenBooks.{OpenParts}
use Rattle.rx_fields.specs.Order.{key_cmp}
use Rattle.rx_sorted.specs.Ascending.{IsAscending}
use Rattle.rx_wave.specs.Jobs.{IsOpenedAt}
use Rattle.rx_wave.proofs.Gathered.{IfOk-both}
use Rattle.rx_wave.proofs.joined.opened.Goals as goal

pub open-requires : goal.open-requires
open-requires c = subst (IsAscending key_cmp (λ key. key)) (sym c.deref.ensures.value) c.in_ok-keys.ensures.rise

pub returns : goal.returns
returns c =
    let keys = c.in_ok-keys.keys.items in
    let slots = rw c.deref.ensures.value at c.open.ensures.slots in
    IfOk-both c.open.result (λ (o : OpenParts). o.books ≡ c.in_ok-books.books) (λ o. All (Contains o.slots) keys)
    (IsOpenedAt c.args.period c.args.books.now.ledger c.args.transmissions.now) c.open.ensures.same slots (λ o same all.
    record {
      same = same ∙ c.in_ok-books.ensures;
      slots = λ key named. All-contains (Contains o.slots) keys key all (c.in_ok-keys.ensures.keeps key named);
    })
