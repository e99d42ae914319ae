use Rattle.std.proofs.Common.{◌-◌, ◌++◌, ◌∙◌, ap, sym, arith, length}
use Rattle.std.proofs.lemmas.List.{length-append}
use Rattle.rx_run_log.specs.Traffic.{last_of}
use Rattle.rx_run_log.proofs.Kept.{last-fills, was_ok}
use Rattle.rx_run_log.proofs.traffic.keep_end.Goals as goal

pub returns : goal.returns
returns c =
    let old = c.args.end.now.items in
    let piece = c.args.piece.now in
    let added = c.last_of-added.result.now in
    let empty = ap length c.new-joined.ensures in
    let first = was_ok c.try_extend_from_slice.result (c.try_extend_from_slice.ensures.variant.1 (omega arith))
    c.try_extend_from_slice.ensures.ok in
    let size = length-append c.new-joined.result.items c.last_of-kept.result.now in
    let length_first = ap length first in
    let second = was_ok c.try_extend_from_slice-2.result (c.try_extend_from_slice-2.ensures.variant.1 (omega arith))
    c.try_extend_from_slice-2.ensures.ok in
    second ∙ ap (λ l. l ++ added) (first ∙ ap (λ l. l ++ c.last_of-kept.result.now) c.new-joined.ensures ∙ c.last_of-kept.ensures.value
    ∙ ap (λ l. last_of (256 - length added) l) c.as_slice.ensures.value)
    ∙ ap (λ l. last_of (256 - length l) old ++ l) c.last_of-added.ensures.value
    ∙ sym (last-fills 256 old piece)
