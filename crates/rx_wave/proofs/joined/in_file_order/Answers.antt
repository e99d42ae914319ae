-- The next reply is the first that is to come of its shard, and those of the other shards stay.
use Rattle.std.proofs.Common.{◌≡◌, ℕ, ◌+◌, ◌<◌, ◌++◌, List, [], ◌∷◌, drop, get_or, length, map, refl, sym, ap, ◌∙◌, inl, inr, arith}
use Rattle.std.specs.List.{range_with_len}
use Rattle.std.proofs.lemmas.Bool.{cases_eq}
use Rattle.std.proofs.lemmas.List.{get_or-set_other, length-set}
use Rattle.std.proofs.lemmas.List.FromFn.{map-range_with_len_more}
use Rattle.rx_d0_values.specs.declared.reply.Reply.{Reply}
use Rattle.rx_schedule.specs.Shards.{is_of}
use Rattle.rx_schedule.specs.Waves.{number_in}
use Rattle.rx_wave.specs.Jobs.{AreReplies}
use Rattle.rx_wave.proofs.Coming.{later, later_first}
use Rattle.rx_wave.proofs.NextComing.{next_is, next_stays}
use Rattle.rx_wave.proofs.joined.in_file_order.Goals as goal

pub loop-number-init : goal.loop-number-init
loop-number-init c = record {
  one_each = refl;
  coming = λ reply are k low.
      are.each k low ∙ ap (map reply) (later_first (is_of (number_in c.args.numbers.now) k) (length c.args.numbers.now));
  replies = λ reply are. c.in_ok-replies.ensures.items;
}

pub next_reply-requires-clause-more : goal.next_reply-requires-clause-more
next_reply-requires-clause-more c =
    let at = c.loop-number.number-index in
    let numbers = c.args.numbers.now in
    let within : at < length numbers = omega arith in
    let number : ℕ = get_or numbers at 0 in
    let low = c.requires.1.within at 0 within in
    let one = c.loop-number.invariant.one_each in
    let first = c.loop-number.invariant.coming c.requires.0 c.requires.1 number (omega arith)
    ∙ ap (map c.requires.0) (next_is numbers at within) in
    let e = ap length first in omega arith

pub loop-number-preserved : goal.loop-number-preserved
loop-number-preserved c =
    let at = c.loop-number.number-index in
    let numbers = c.args.numbers.now in
    let within : at < length numbers = omega arith in
    let number : ℕ = get_or numbers at 0 in
    let old = c.loop-number.coming in
    let new = c.next_reply.new.coming in
    let result = c.next_reply.result in
    let inv = c.loop-number.invariant in
    let one = inv.one_each in
    let long = ap length c.next_reply.ensures.others ∙ length-set old number (get_or new number []) in
    let next : (reply : ℕ → Reply) → AreReplies reply numbers c.args.coming.now
    → result ∷ get_or new number [] ≡ reply (at + 1) ∷ map reply (later (is_of (number_in numbers) number) (at + 1) (length numbers)) =
    λ reply are. let low = are.within at 0 within in sym c.next_reply.ensures.next ∙ inv.coming reply are number (omega arith)
    ∙ ap (map reply) (next_is numbers at within) in
    record {
      one_each = long ∙ one;
      coming = λ reply are k low. elim (cases_eq number k) [
        | inl same ↦
            ap (λ i. get_or new i []) (sym same) ∙ ap (drop 1) (next reply are)
            ∙ ap (λ i. map reply (later (is_of (number_in numbers) i) (at + 1) (length numbers))) same
        | inr other ↦
            ap (λ (rs : List (List Reply)). get_or rs k []) c.next_reply.ensures.others
            ∙ get_or-set_other old number k (get_or new number []) [] (λ e. other (sym e))
            ∙ inv.coming reply are k (omega (arith, long))
            ∙ ap (map reply) (next_stays numbers at within k other)
      ];
      replies = λ reply are.
          c.in_ok-push.ensures.items
          ∙ ap (λ rs. rs ++ result ∷ []) (inv.replies reply are)
          ∙ ap (λ r. map reply (range_with_len 1 at) ++ r ∷ []) (ap (λ (rs : List Reply). get_or rs 0 result) (next reply are))
          ∙ sym (map-range_with_len_more reply 1 at (at + 1) (omega arith));
    }
