use Rattle.std.proofs.Common.{◌≡◌, ◌-◌, ◌++◌, ◌∙◌, ap, sym, arith, length, min, take}
use Rattle.std.proofs.lemmas.List.{length-take}
use Rattle.rx_run_log.proofs.Kept.{take-fills, was_ok}
use Rattle.rx_run_log.proofs.traffic.keep_front.Goals as goal

pub returns : goal.returns
returns c =
    let front = c.args.front.now.items in
    let piece = c.args.piece.now in
    let count : c.min-count.result ≡ min (256 - length front) (length piece) = omega arith in
    let fits = c.try_extend_from_slice.ensures.variant.1 (omega (arith, length-take c.min-count.result piece)) in
    was_ok c.try_extend_from_slice.result fits c.try_extend_from_slice.ensures.ok
    ∙ ap (λ n. front ++ take n piece) count ∙ sym (take-fills 256 front piece (omega arith))
