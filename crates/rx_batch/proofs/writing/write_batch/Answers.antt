use Rattle.std.proofs.Common.{ℕ, ◌+◌, List, ◌++◌, length, ◌∙◌, ap, append-nil, arith, sym}
use Rattle.rx_batch.specs.Grammar.{record_text}
use Rattle.rx_batch.specs.Writing.{header_text}
use Rattle.rx_batch.proofs.Spellings.{details_more, again_more, all_again, all_written, trailer_same, file_again_is}
use Rattle.rx_batch.proofs.writing.write_batch.Goals as goal

pub loop-detail-preserved : goal.loop-detail-preserved
loop-detail-preserved c = record {
  text = details_more (record_text (header_text c.args.head.now)) c.loop-detail.text.items
      c.put_detail.new.text.items c.args.details.now c.loop-detail.detail-index c.detail-item.result
      c.loop-detail-test.true c.detail-item.is c.loop-detail.invariant.text c.in_ok-put_detail.ensures.text;
  again = again_more c.args.details.now c.loop-detail.detail-index c.detail-item.result c.loop-detail-test.true
      c.detail-item.is c.loop-detail.invariant.again c.in_ok-put_detail.ensures.again;
}

pub returns-clause-again : goal.returns-clause-again
returns-clause-again c fields =
    let head = c.args.head.now in
    let details = c.args.details.now in
    file_again_is c.put_trailer.new.text.items head details
    (all_written head details c.loop-detail.detail-index c.number.result c.loop-detail.text.items
    c.put_trailer.new.text.items c.loop-detail-test.false c.number.ensures.value c.loop-detail.invariant.text
    c.in_ok-put_trailer.ensures.text)
    c.requires fields (c.in_ok-put_header.ensures.again fields.kind)
    (all_again details c.loop-detail.detail-index c.loop-detail-test.false c.loop-detail.invariant.again)
    (trailer_same c.number.result head.lot.number (length details + 2) c.number.ensures.value c.in_ok-put_trailer.ensures.again)

pub returns-clause-text : goal.returns-clause-text
returns-clause-text c =
    all_written c.args.head.now c.args.details.now c.loop-detail.detail-index c.number.result c.loop-detail.text.items
    c.put_trailer.new.text.items c.loop-detail-test.false c.number.ensures.value c.loop-detail.invariant.text
    c.in_ok-put_trailer.ensures.text

pub loop-detail-init : goal.loop-detail-init
loop-detail-init c =
    let header = record_text (header_text c.args.head.now) in
    record {
      text = c.in_ok-put_header.ensures.text ∙ ap (λ (t : List ℕ). t ++ header) c.in_ok-text.ensures.items ∙ sym (append-nil header);
      again = λ k d h. absurd (omega arith);
    }
