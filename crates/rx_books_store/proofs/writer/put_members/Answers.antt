use Rattle.std.proofs.Common.{[], ◌∷◌, ◌++◌, add-one, get_or, take, sym, ap, ◌∙◌, arith, append_assoc}
use Rattle.std.proofs.lemmas.List.{append-nil}
use Rattle.rx_books_text.specs.declared.line.Line.{Line}
use Rattle.rx_books_text.specs.declared.line.Line.TheVariants as line
use Rattle.rx_books_text.specs.declared.version.Version.TheVariants.{Three}
use Rattle.rx_books_text.specs.LineText.{ended, line_text}
use Rattle.rx_books_text.specs.Printed.{member_lines}
use Rattle.rx_books_store.specs.BooksText.{lines_text}
use Rattle.rx_books_store.proofs.Written.{lines_text-append, member_lines-more}
use Rattle.rx_books_store.proofs.writer.put_members.Goals as goal

pub loop-at-preserved : goal.loop-at-preserved
loop-at-preserved c =
    let ms = c.args.members.now in
    let ds = c.args.deductibles.now in
    let i = c.loop-at.at in
    let more = member_lines-more ms ds i c.index-members-at.result (omega arith) (omega arith) c.index-members-at.is in
    let before = member_lines (take i ms) (take i ds) in
    let next : Line = line.Member (record { member = c.index-members-at.result; deductible = get_or ds i 0 }) in
    let one = ended (line_text Three next) in
    rw add-one (rw more (c.in_ok-put_member.ensures ∙ ap (λ t. t ++ one) c.loop-at.invariant
    ∙ append_assoc c.args.text.now.items (lines_text before) one
    ∙ ap (λ t. c.args.text.now.items ++ (lines_text before ++ t)) (sym (append-nil one))
    ∙ ap (λ t. c.args.text.now.items ++ t) (sym (lines_text-append before (next ∷ [])))))
