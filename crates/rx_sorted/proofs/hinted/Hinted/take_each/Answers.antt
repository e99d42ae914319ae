use Rattle.std.proofs.Common.{Global, Vec, ◌≡◌, ◌≤◌, ◌+◌, [], ◌∷◌, ◌++◌, List, drop, length, sym, ap, ◌∙◌, arith, append_assoc}
use Rattle.std.proofs.Common.{length-append}
use Rattle.std.specs.Prelude.{vec_capacity}
use Rattle.std.specs.Option.{option_to_list}
use Rattle.std.proofs.lemmas.List.{append-nil}
use Rattle.rx_sorted.specs.Ascending.{item_at}
use Rattle.rx_sorted.proofs.AllSlots.{all_over, all_over_are, content_read, drop_next, none_left, reads, reads_are}
use Rattle.rx_sorted.proofs.hinted.Hinted.take_each.Goals as goal
use Rattle.rx_sorted.proofs.hinted.Hinted.take_each.Goals.{in-Some, in_default}

pub loop-key-preserved : goal.loop-key-preserved
loop-key-preserved g c =
    let cmp = g.T.Key.Ord.cmp in
    let over_all = all_over cmp g.T.Keyed.key_of g.T.Slot.emptied in
    let read = reads cmp g.T.Keyed.key_of g.T.Slot.emptied (content_read g.T.Slot.held) in
    let k = c.key-item.result in
    let ps = c.loop-key.self in
    let new = c.take.new.self in
    let before : List g.row.T-Content.Denot = c.loop-key.contents.items in
    let after : List g.row.T-Content.Denot = c.match-take.contents.items in
    let rest : List g.row.T-Key.Denot = drop (c.loop-key.key-index + 1) c.args.keys.now in
    let here = drop_next c.loop-key.key-index k c.args.keys.now c.loop-key-test.true c.key-item.is in
    let places = c.take.ensures.slots in
    let items : after ≡ before ++ option_to_list c.take.result = elim c.match-take.branch [
      | in-Some w ↦ ap (λ (v : Vec g.row.T-Content.Denot Global). v.items) w.contents-is ∙ w.push_reserved.ensures.items
          ∙ ap (λ o. before ++ option_to_list o) (sym w.in-Some.is)
      | in_default w ↦ ap (λ (v : Vec g.row.T-Content.Denot Global). v.items) w.contents-is ∙ sym (append-nil before)
          ∙ ap (λ o. before ++ option_to_list o) (sym w.in_default.is)
    ] in
    let few : length after ≤ length before + 1 = elim c.match-take.branch [
      | in-Some w ↦ omega (
        arith,
        ap (λ (v : Vec g.row.T-Content.Denot Global). length v.items) w.contents-is ∙ ap length w.push_reserved.ensures.items
            ∙ length-append before (w.in-Some.content ∷ []),
      )
      | in_default w ↦ omega (arith, ap (λ (v : Vec g.row.T-Content.Denot Global). length v.items) w.contents-is)
    ] in
    record {
      slots = ap (over_all rest) places ∙ ap (λ ks. over_all ks ps) (sym here) ∙ c.loop-key.invariant.slots;
      contents = ap (λ bs. bs ++ read rest new) items
          ∙ append_assoc before (option_to_list c.take.result) (read rest new)
          ∙ ap (λ o. before ++ (option_to_list o ++ read rest new)) c.take.ensures.content
          ∙ ap (λ qs. before ++ (content_read g.T.Slot.held k (item_at cmp g.T.Keyed.key_of ps k) ++ read rest qs)) places
          ∙ ap (λ ks. before ++ read ks ps) (sym here)
          ∙ c.loop-key.invariant.contents;
      count = omega (arith, few, c.loop-key.invariant.count);
      room = elim c.match-take.branch [
        | in-Some w ↦ omega (
          arith,
          ap (λ (v : Vec g.row.T-Content.Denot Global). vec_capacity v) w.contents-is,
          w.push_reserved.ensures.capacity,
          c.loop-key.invariant.room,
        )
        | in_default w ↦
            omega (arith, ap (λ (v : Vec g.row.T-Content.Denot Global). vec_capacity v) w.contents-is, c.loop-key.invariant.room)
      ];
    }

pub returns-clause-contents : goal.returns-clause-contents
returns-clause-contents g c =
    let cmp = g.T.Key.Ord.cmp in
    let read = reads cmp g.T.Keyed.key_of g.T.Slot.emptied (content_read g.T.Slot.held) in
    let items : List g.row.T-Content.Denot = c.loop-key.contents.items in
    let none = none_left c.loop-key.key-index c.args.keys.now c.loop-key-test.false in
    sym (append-nil items) ∙ ap (λ ks. items ++ read ks c.loop-key.self) (sym none) ∙ c.loop-key.invariant.contents
    ∙ reads_are cmp g.met.T.Key.Ord.total c.requires.exact g.T.Keyed.key_of g.T.Slot.emptied g.met.T.Slot.emptied_keeps
    (content_read g.T.Slot.held) c.args.keys.now c.args.self.now c.requires.rise

pub returns-clause-slots : goal.returns-clause-slots
returns-clause-slots g c =
    let cmp = g.T.Key.Ord.cmp in
    let over_all = all_over cmp g.T.Keyed.key_of g.T.Slot.emptied in
    let none = none_left c.loop-key.key-index c.args.keys.now c.loop-key-test.false in
    sym (ap (λ ks. over_all ks c.loop-key.self) none) ∙ c.loop-key.invariant.slots
    ∙ all_over_are cmp g.met.T.Key.Ord.total c.requires.exact g.T.Keyed.key_of g.T.Slot.emptied g.met.T.Slot.emptied_keeps
    g.met.T.Slot.emptied_again c.args.keys.now c.args.self.now
