use Rattle.std.proofs.Common.{[], ◌∷◌, ◌++◌, Some, add-one, get_or, take, sym, ap, ◌∙◌, arith, append_assoc}
use Rattle.std.proofs.lemmas.List.{append-nil}
use Rattle.rx_books_text.specs.declared.line.Line.{Line}
use Rattle.rx_books_text.specs.declared.line.Line.TheVariants as line
use Rattle.rx_books_text.specs.declared.version.Version.TheVariants.{Three}
use Rattle.rx_books_text.specs.LineText.{ended, line_text}
use Rattle.rx_books_store.specs.BooksText.{lines_text}
use Rattle.rx_books_store.specs.Opening.{total_lines}
use Rattle.rx_books_store.proofs.KeptText.{total_lines-more}
use Rattle.rx_books_store.proofs.Written.{lines_text-append}
use Rattle.rx_books_store.proofs.writer.put_totals.Goals as goal

pub loop-at-preserved : goal.loop-at-preserved
loop-at-preserved c =
    let ns = c.args.families.now in
    let ps = c.args.out_of_pockets.now in
    let ds = c.args.deductibles.now in
    let i = c.loop-at.at in
    let n = c.index-families-at.result in
    let more = total_lines-more ns ps ds i n (omega arith) (omega arith) (omega arith) c.index-families-at.is in
    let before = total_lines (take i ns) (take i ps) (take i ds) in
    let next : Line = line.Total (record { family = n.family; out_of_pocket = get_or ps i 0; deductible = Some (get_or ds i 0) }) in
    let one = ended (line_text Three next) in
    rw add-one (rw more (c.in_ok-put_total.ensures ∙ ap (λ t. t ++ one) c.loop-at.invariant
    ∙ append_assoc c.args.text.now.items (lines_text before) one
    ∙ ap (λ t. c.args.text.now.items ++ (lines_text before ++ t)) (sym (append-nil one))
    ∙ ap (λ t. c.args.text.now.items ++ t) (sym (lines_text-append before (next ∷ [])))))
