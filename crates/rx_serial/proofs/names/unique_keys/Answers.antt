use Rattle.std.proofs.Common.{◌≡◌, List, map, ap, subst, ◌∙◌}
use Rattle.std.specs.Prelude.{◌↔◌}
use Rattle.std.specs.List.{Contains}
use Rattle.std.proofs.lemmas.List.Sorted.{Contains-permutation, IsPermutation-map, IsPermutation-sym}
use Rattle.rx_fields.specs.Order.{key_cmp}
use Rattle.rx_fields.specs.declared.key.Key.{Key}
use Rattle.rx_fields.specs.contracts.key.KeyPartialEq.TheImpl.{ghosts as same}
use Rattle.rx_ledger.proofs.Decided.{key_decides}
use Rattle.rx_ledger.proofs.Orders.{key_exact, key_total}
use Rattle.rx_serial.specs.Named.{named_key}
use Rattle.rx_serial.proofs.Unique.{unique_keys, unique_rise}
use Rattle.rx_serial.proofs.names.unique_keys.Goals as goal

pub returns-clause-rise : goal.returns-clause-rise
returns-clause-rise c =
    unique_rise key_cmp key_total key_exact same.eq key_decides c.in_ok-keys.keys.items c.sort.new.self.items c.dedup.new.self.items
    c.in_ok-sort.ensures.permutation c.in_ok-sort.ensures.sorted c.dedup.ensures.filtered

pub returns-clause-keys : goal.returns-clause-keys
returns-clause-keys c = λ key.
    let given = map named_key c.args.named.now.items in
    let named = map named_key c.sort_unstable_by_key.new.self.items in
    let moved = IsPermutation-map named_key c.args.named.now.items c.sort_unstable_by_key.new.self.items
    c.sort_unstable_by_key.ensures.permutation in
    let only : c.in_ok-keys.keys.items ≡ named = c.in_ok-keys.ensures ∙ ap (map named_key) c.deref.ensures.value in
    let unique = unique_keys key_cmp key_total key_exact same.eq key_decides c.in_ok-keys.keys.items c.sort.new.self.items
    c.dedup.new.self.items c.in_ok-sort.ensures.permutation c.in_ok-sort.ensures.sorted c.dedup.ensures.filtered key in
    let there = subst (λ (ks : List Key). Contains c.dedup.new.self.items key ↔ Contains ks key) only unique in (
      λ kept. Contains-permutation named given key (IsPermutation-sym given named moved) (there.0 kept),
      λ one. there.1 (Contains-permutation given named key moved one),
    )
