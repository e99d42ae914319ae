use Rattle.std.proofs.Common.{◌≡◌, ap, ◌∙◌}
use Rattle.std.specs.Prelude.{IfOk}
use Rattle.rayon.proofs.ToStd.{slice-AllZip}
use Rattle.rx_fields.specs.declared.memory.Memory.{Memory}
use Rattle.rx_books_scan.proofs.Begins.{all_ok}
use Rattle.rx_books_store.specs.Opening.{rows_text}
use Rattle.rx_books_store.proofs.writer.texts_of.Goals as goal

-- The threads give a result for each piece, in order; all are Ok where the whole is.
pub returns : goal.returns
returns g c =
    let pieces = c.args.pieces.now in
    let e = c.in-Ok.ensures in
    let slice = ap (λ it. it.base.slice.now) c.map.ensures.base ∙ ap (λ it. it.slice.now) c.with_min_len.ensures.base
    ∙ c.par_iter.ensures in
    let each = slice-AllZip e.1.0 pieces (e.1.1 ∙ slice)
    (λ piece r. IfOk r (λ text. text.items ≡ rows_text piece.now)) e.0 e.1.2 in
    let all = rw c.in-Ok-texts.is at e.2 in
    let fine = rw all.1 at each in
    rw all.2 (all_ok Memory (λ piece text. text.items ≡ rows_text piece.now) pieces all.0 fine)
