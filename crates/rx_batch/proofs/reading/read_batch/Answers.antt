use Rattle.std.proofs.lemmas.Result.{err_from_is_err_and}
use Rattle.std.proofs.Common.{[]}
use Rattle.rx_batch.proofs.Readings.{gives_file, gives_batch, gives_fault, failed}
use Rattle.rx_batch.proofs.Steps.{fed_fault}
use Rattle.rx_batch.proofs.reading.read_batch.Goals as goal

pub returns-in_err-feed : goal.returns-in_err-feed
returns-in_err-feed c =
    let p = err_from_is_err_and c.from_residual.result c.from_residual.ensures.1 in
    let is = fed_fault c.feed.new.self c.args.bytes.now c.in_err-feed.field-0.0 c.in_err-feed.ensures.value
    (c.in_err-feed.ensures.text [] c.new-pieces.ensures.text) in
    rw (p.1, p.2) (record {
      ok = tt;
      reads = λ batch file. gives_batch c.args.bytes.now (failed c.in_err-feed.field-0.0) batch is file;
      refuses = gives_fault c.args.bytes.now (failed c.in_err-feed.field-0.0) is;
      value = is;
    })

pub returns : goal.returns
returns c =
    let bytes = c.args.bytes.now in
    let is = c.finish.ensures.value bytes (c.in_ok-feed.ensures.text [] c.new-pieces.ensures.text) in
    record {
      ok = gives_file bytes c.finish.result is;
      reads = λ batch file. gives_batch bytes c.finish.result batch is file;
      refuses = gives_fault bytes c.finish.result is;
      value = is;
    }
