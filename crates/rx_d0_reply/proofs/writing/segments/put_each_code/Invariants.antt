use Rattle.std.proofs.Common.{◌≡◌, ◌≤◌, ◌+◌, ◌*◌, ◌++◌, take}
use Rattle.std.specs.Prelude.{vec_capacity, vec_len}
use Rattle.std.specs.List.{flat_map}
use Rattle.rx_d0_reply.specs.Text.{code_field}
use Rattle.rx_d0_reply.proofs.writing.segments.put_each_code.Given as goal

abbrev pub invariant-loop-code : goal.invariant-loop-code
invariant-loop-code l =
    record {
      text : l.out.items ≡ l.fn.out.items ++ flat_map code_field (take l.code-index l.codes);
      len : vec_len l.out ≡ vec_len l.fn.out + 5 * l.code-index;
      capacity : vec_capacity l.fn.out ≤ vec_capacity l.out;
    }
