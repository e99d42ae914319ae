use Rattle.std.proofs.Common.{◌≡◌, ◌-◌, ap, sym, ◌∙◌}
use Rattle.rx_sorted.specs.Ascending.{put}
use Rattle.rx_serial.specs.declared.fill.Fill.{Fill}
use Rattle.rx_serial.specs.Fills.{count_at, fill_cmp, fill_key}
use Rattle.rx_serial.proofs.Counting.{count_there}
use Rattle.rx_serial.proofs.fill.lower_at.Goals as goal

pub returns : goal.returns
returns c =
    let fills = c.args.fills.now in
    let key = c.args.key in
    let there = count_there fills key c.args.place c.index-as_slice-place.result c.replace_at.ensures.ascending c.requires
    (rw c.as_slice.ensures.value at c.index-as_slice-place.is) in
    let less : c.saturating_sub-count.result ≡ count_at fills key - 1 =
    c.saturating_sub-count.ensures ∙ ap (λ (f : Fill). f.count - 1) (sym c.index-as_slice-place.is)
    ∙ ap (λ n. n - 1) (sym there) in
    c.replace_at.ensures.items ∙ ap (λ n. put fill_cmp fill_key fills (record { key = key; count = n })) less
