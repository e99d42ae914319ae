-- The keys ascend, and none is lost.
use Rattle.std.proofs.Common.{List, subst, sym}
use Rattle.std.specs.List.{Contains}
use Rattle.std.proofs.lemmas.List.Sorted.{Contains-permutation}
use Rattle.rx_fields.specs.Order.{key_cmp}
use Rattle.rx_fields.specs.declared.key.Key.{Key}
use Rattle.rx_fields.specs.contracts.key.KeyPartialEq.TheImpl.{ghosts as same}
use Rattle.rx_ledger.proofs.Decided.{key_decides}
use Rattle.rx_ledger.proofs.Orders.{key_exact, key_total}
use Rattle.rx_serial.proofs.Unique.{unique_keys, unique_rise}
use Rattle.rx_wave.proofs.names.named_keys.Goals as goal

pub returns-clause-rise : goal.returns-clause-rise
returns-clause-rise c =
    unique_rise key_cmp key_total key_exact same.eq key_decides c.sort_by_cached_key.new.self.items c.sort.new.self.items
    c.dedup.new.self.items c.in_ok-sort.ensures.permutation c.in_ok-sort.ensures.sorted c.dedup.ensures.filtered

pub returns-clause-keeps : goal.returns-clause-keeps
returns-clause-keeps c = λ key there.
    let ranked = c.sort_by_cached_key.new.self.items in
    let unique = unique_keys key_cmp key_total key_exact same.eq key_decides ranked c.sort.new.self.items c.dedup.new.self.items
    c.in_ok-sort.ensures.permutation c.in_ok-sort.ensures.sorted c.dedup.ensures.filtered key in
    let named = subst (λ (ks : List Key). Contains ks key) (sym c.in_ok-keys.ensures) there in
    unique.1 (Contains-permutation c.in_ok-keys.keys.items ranked key c.in_ok-sort_by_cached_key.ensures.permutation named)
