use Rattle.std.proofs.Common.{◌≡◌, ◌≤◌, ◌+◌, ◌*◌, ◌++◌, take}
use Rattle.std.specs.Prelude.{vec_capacity, vec_len}
use Rattle.std.specs.List.{flat_map, AllByRecursion}
use Rattle.rx_d0_reply.specs.Limits.{IsAnswer}
use Rattle.rx_d0_reply.specs.Text.{group_text}
use Rattle.rx_d0_reply.proofs.writing.put_groups.Given as goal

abbrev pub invariant-loop-answer : goal.invariant-loop-answer
invariant-loop-answer l =
    record {
      text : l.out.items ≡ l.fn.out.items ++ flat_map group_text (take l.answer-index l.answers);
      within : AllByRecursion IsAnswer (take l.answer-index l.answers);
      len : vec_len l.out ≤ vec_len l.fn.out + 137 * l.answer-index;
      capacity : vec_capacity l.fn.out ≤ vec_capacity l.out;
    }
