use Rattle.std.proofs.Common.{◌≡◌, ◌+◌, ap, sym, ◌∙◌}
use Rattle.rx_sorted.specs.Ascending.{put}
use Rattle.rx_serial.specs.declared.fill.Fill.{Fill}
use Rattle.rx_serial.specs.Fills.{count_at, fill_cmp, fill_key}
use Rattle.rx_serial.proofs.Counting.{count_there}
use Rattle.rx_serial.proofs.fill.tally_at.Goals as goal

pub returns-clause-ok : goal.returns-clause-ok
returns-clause-ok c =
    let fills = c.args.fills.now in
    let key = c.args.fill.key in
    let there = count_there fills key c.args.place c.index-as_slice-place.result c.replace_at.ensures.ascending c.requires
    (rw c.as_slice.ensures.value at c.index-as_slice-place.is) in
    let sum : c.in-Some.count ≡ count_at fills key + c.args.fill.count =
    c.in-Some.ensures.1 ∙ ap (λ (f : Fill). f.count + c.args.fill.count) (sym c.index-as_slice-place.is)
    ∙ ap (λ n. n + c.args.fill.count) (sym there) in
    c.replace_at.ensures.items ∙ ap (λ n. put fill_cmp fill_key fills (record { key = key; count = n })) sum
