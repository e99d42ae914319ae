use Rattle.std.proofs.Common.{◌≡◌, ◌++◌, take, All}
use Rattle.std.specs.List.{flat_map}
use Rattle.rx_batch.specs.Grammar.{IsDetail, record_text}
use Rattle.rx_batch.specs.Writing.{header_text, detail_text}
use Rattle.rx_batch.proofs.writing.write_batch.Given as goal

-- the header and the details so far are written, and each of these details is read again
abbrev pub invariant-loop-detail : goal.invariant-loop-detail
invariant-loop-detail l = record {
  text : l.text.items ≡ record_text (header_text l.head) ++ flat_map (λ d. record_text (detail_text d)) (take l.detail-index l.details);
  again : All (λ d. IsDetail (detail_text d) d) (take l.detail-index l.details);
}
