use Rattle.std.proofs.Common.{◌≡◌, ◌≤◌, ◌+◌, ◌*◌, ◌++◌, take}
use Rattle.std.specs.Prelude.{vec_capacity, vec_len}
use Rattle.std.specs.List.{flat_map}
use Rattle.rx_print.specs.CodeList.{after_comma}
use Rattle.rx_print.proofs.code_list.put_others.Given as goal

abbrev pub invariant-loop-code : goal.invariant-loop-code
invariant-loop-code l =
    record {
      text : l.text.items ≡ l.fn.text.items ++ flat_map after_comma (take l.code-index l.others);
      len : vec_len l.text ≡ vec_len l.fn.text + 3 * l.code-index;
      capacity : vec_capacity l.fn.text ≤ vec_capacity l.text;
    }
