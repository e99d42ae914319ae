use Rattle.std.proofs.Common.{ap, ◌∙◌, subst}
use Rattle.std.specs.Prelude.{IfOk}
use Rattle.std.specs.List.{AllZip}
use Rattle.rayon.proofs.ToStd.{slice-AllZip}
use Rattle.rx_books_text.specs.declared.version.Version.{Version}
use Rattle.rx_books_scan.specs.declared.reader.Unread.{Unread}
use Rattle.rx_books_scan.specs.Parts.{IsPart}
use Rattle.rx_books_scan.proofs.Begins.{all_ok}
use Rattle.rx_books_scan.proofs.reader.read_parts.Goals as goal

-- The threads give a result for each piece, in order; all are Ok where the whole is.
pub returns : goal.returns
returns g c =
    let pieces = c.args.pieces.now in
    let e = c.in-Ok.ensures in
    let version = ap (λ f. f.1) c.map.ensures.f in
    let slice = ap (λ it. it.base.slice.now) c.map.ensures.base ∙ ap (λ it. it.slice.now) c.with_min_len.ensures.base
    ∙ c.par_iter.ensures in
    let each = slice-AllZip e.1.0 pieces (e.1.1 ∙ slice)
    (λ piece r. IfOk r (IsPart c.map.result.f.1 piece.now)) e.0 e.1.2 in
    let all = rw c.in-Ok-read.is at e.2 in
    let fine = rw all.1 at each in
    rw all.2 (subst (λ (v : Version). AllZip (λ piece part. IsPart v piece.now part) pieces all.0) version
    (all_ok Unread (λ piece part. IsPart c.map.result.f.1 piece.now part) pieces all.0 fine))
