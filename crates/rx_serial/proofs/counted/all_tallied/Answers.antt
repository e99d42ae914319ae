-- The next entry is counted.
use Rattle.std.proofs.Common.{◌+◌, ◌<◌, length, take, sym, ap, ◌∙◌, arith}
use Rattle.std.proofs.lemmas.List.Sums.{sum_by_more}
use Rattle.rx_serial.specs.declared.fill.Entry.{Entry}
use Rattle.rx_serial.specs.Fills.{count_among, count_of}
use Rattle.rx_serial.proofs.Counting.{count_at-tallied}
use Rattle.rx_serial.proofs.counted.all_tallied.Goals as goal

pub loop-entry-preserved : goal.loop-entry-preserved
loop-entry-preserved c = λ k.
    let found = c.args.found.now in
    let e = c.entry-item.result in
    let at = c.loop-entry.entry-index in
    let within : at < length found = omega arith in
    rw c.in_ok-tally_near.ensures.ok
    (count_at-tallied c.loop-entry.fills e.fill k ∙ ap (λ n. n + count_of k e.fill) (c.loop-entry.invariant k)
    ∙ ap (λ (g : Entry). count_among (take at found) k + count_of k g.fill) c.entry-item.is
    ∙ sym (sum_by_more (λ (g : Entry). count_of k g.fill) found at e within))
