use Rattle.std.proofs.Common.{ℕ, ◌+◌, ◌≤◌, Some, cond, ap, ◌∙◌, arith}
use Rattle.std.specs.BTreeMap.{get}
use Rattle.rx_fields.specs.Order.{id_cmp, key_cmp}
use Rattle.rx_schedule.specs.declared.marks.Mark.{Mark}
use Rattle.rx_schedule.specs.Marked.{has_name}
use Rattle.rx_schedule.proofs.Scanned.{best_found, best_small, next_families, next_keys, scan_step}
use Rattle.rx_schedule.proofs.wave_plan.Scan.pass.Goals as goal

pub overflow_add-mark-2 : goal.overflow_add-mark-2
overflow_add-mark-2 c =
    let fs = c.args.footprints.now in
    let i = c.args.at in
    let s = c.args.self.now in
    let F = c.index-footprints-at.result in
    let keys = next_keys fs i s.keys.last s.families.last s.numbers.items s.before.items s.top c.requires.before F c.keys.result.now
    c.requires.some c.index-footprints-at.is c.keys.ensures.value in
    let families = next_families fs i s.keys.last s.families.last s.numbers.items s.before.items s.top c.requires.before F
    c.families.result.now c.requires.some c.index-footprints-at.is c.families.ensures.value in
    let best = best_found fs i s.keys.last s.families.last s.numbers.items s.before.items s.top c.requires.before
    c.keys.result.now c.families.result.now c.best.result c.best-best.result keys families c.best.ensures c.best-best.ensures in
    let small : c.best-best.result.wave ≤ i = best_small fs i s.keys.last s.families.last s.numbers.items s.before.items s.top
    c.requires.before c.best-best.result best in
    omega arith

pub returns : goal.returns
returns c =
    let fs = c.args.footprints.now in
    let i = c.args.at in
    let s = c.args.self.now in
    let F = c.index-footprints-at.result in
    let mark : Mark = record { place = i + 1; wave = c.best-best.result.wave + 1 } in
    let keys = next_keys fs i s.keys.last s.families.last s.numbers.items s.before.items s.top c.requires.before F c.keys.result.now
    c.requires.some c.index-footprints-at.is c.keys.ensures.value in
    let families = next_families fs i s.keys.last s.families.last s.numbers.items s.before.items s.top c.requires.before F
    c.families.result.now c.requires.some c.index-footprints-at.is c.families.ensures.value in
    let best = best_found fs i s.keys.last s.families.last s.numbers.items s.before.items s.top c.requires.before
    c.keys.result.now c.families.result.now c.best.result c.best-best.result keys families c.best.ensures c.best-best.ensures in
    let noted_keys = next_keys fs i s.keys.last s.families.last s.numbers.items s.before.items s.top c.requires.before F
    c.keys-2.result.now c.requires.some c.index-footprints-at.is c.keys-2.ensures.value in
    let noted_families = next_families fs i s.keys.last s.families.last s.numbers.items s.before.items s.top c.requires.before F
    c.families-2.result.now c.requires.some c.index-footprints-at.is c.families-2.ensures.value in
    scan_step fs i s.keys.last s.families.last s.numbers.items s.before.items s.top c.requires.before c.requires.some
    (c.best-best.result.wave + 1) mark c.or_higher-self.result c.best-best.result c.note.new.self.last c.note-2.new.self.last best
    (omega arith)
    (ap (λ (n : ℕ). let m : Mark = record { place = n; wave = c.best-best.result.wave + 1 } in m) (omega arith))
    c.or_higher-self.ensures
    (λ k. c.in_ok-note.ensures k
    ∙ ap (λ ks. cond (has_name key_cmp ks k) (Some mark) (get key_cmp s.keys.last k)) noted_keys)
    (λ k. c.in_ok-note-2.ensures k
    ∙ ap (λ ls. cond (has_name id_cmp ls k) (Some mark) (get id_cmp s.families.last k)) noted_families)
    (i + 1) c.push.new.self.items c.push-2.new.self.items (omega arith)
    c.in_ok-push.ensures.items c.in_ok-push-2.ensures.items
