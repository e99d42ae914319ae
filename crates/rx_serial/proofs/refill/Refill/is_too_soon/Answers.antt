-- What is past the course doesn't count, nor does what stands before an early fill.
use Rattle.std.proofs.Common.{◌≡◌, ◌+◌, ◌-◌, ◌<◌, ◌≤◌, List, length, take, true, sym, ap, subst, ◌∙◌, arith}
use Rattle.std.specs.List.{All, list_any}
use Rattle.rx_sorted.specs.Ascending.{IsAscending}
use Rattle.rx_serial.specs.declared.fill.Fill.{Fill}
use Rattle.rx_serial.specs.Fills.{counts, fill_cmp, fill_key, is_early}
use Rattle.rx_serial.proofs.Refills.{none_early, none_past}
use Rattle.rx_serial.proofs.refill.Refill.is_too_soon.Goals as goal

pub end-at-requires : goal.end-at-requires
end-at-requires c =
    subst (λ (l : List Fill). IsAscending fill_cmp fill_key l) (sym c.as_slice-list.ensures.value)
    c.as_slice-list.ensures.ascending

pub fills-init : goal.fills-init
fills-init c =
    record {
      in_range = c.end-at.ensures.within;
      looked_at = none_past c.args.self.now c.as_slice-list.result.now c.end-at.result c.end-at.ensures.past
          c.end-at.ensures.within;
      before = c.end-at.ensures.before;
    }

pub returns-then-is_early-clause-value : goal.returns-then-is_early-clause-value
returns-then-is_early-clause-value c =
    let f = c.args.self.now in
    let xs = c.as_slice-list.result.now in
    let d = c.index-list-at.result in
    let i = c.fills.at - 1 in
    let rise = subst (λ (l : List Fill). IsAscending fill_cmp fill_key l) (sym c.as_slice-list.ensures.value)
    c.as_slice-list.ensures.ascending in
    let within = subst (λ (l : List Fill). All (λ g. g.key.when.days ≤ c.args.longest) l)
    (sym c.as_slice-list.ensures.value) c.requires.within in
    let in_range : i < length xs = omega (arith, c.fills.invariant.in_range) in
    let early = subst (λ (g : Fill). is_early f c.args.longest g.key ≡ true) c.index-list-at.is
    (sym c.is_early.ensures ∙ c.if-is_early.true) in
    let none = none_early f xs c.args.longest rise within i d in_range
    (c.fills.invariant.before i d (omega arith) (omega arith)) early in
    let next : i + 1 ≡ c.fills.at = omega arith in
    sym (
    ap (list_any (counts f)) (sym c.as_slice-list.ensures.value)
    ∙ sym c.fills.invariant.looked_at
    ∙ ap (λ n. list_any (counts f) (take n xs)) (sym next)
    ∙ none)
