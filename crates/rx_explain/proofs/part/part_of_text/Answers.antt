-- One more byte.
use Rattle.std.proofs.Common.{◌≡◌, ◌<◌, ◌∙◌, length, ap, sym, get_or, rules, arith}
use Rattle.std.proofs.lemmas.List.{get_or_default}
use Rattle.rx_explain.specs.Parts.{part_with}
use Rattle.rx_explain.proofs.Parted.{part_next}
use Rattle.rx_explain.proofs.part.part_of_text.Goals as goal

pub loop-byte-preserved : goal.loop-byte-preserved
loop-byte-preserved c =
    let i = c.loop-byte.byte-index in
    let bytes = c.args.bytes.now in
    let b = get_or bytes i 0 in
    let within : i < length bytes = omega arith in
    let read : c.from.result ≡ b = search rules in
    record {
      value = ap (part_with c.loop-byte.part) read ∙ ap (λ p. part_with p b) c.loop-byte.invariant.value
          ∙ sym (part_next bytes i b within (get_or_default bytes i 0 b within));
      within = omega arith;
    }
