use Rattle.std.proofs.Common.{◌≡◌, add-one, zero-add, Some, false, get_or, Bool, not, suc, take, true, sym, ap, ◌∙◌, arith}
use Rattle.std.proofs.lemmas.Iterator.Adapters.{position_from-zero}
use Rattle.rx_books_text.specs.declared.line.Line.{Line}
use Rattle.rx_books_text.specs.declared.line.Line.TheVariants as line
use Rattle.rx_books_text.specs.Printed.{member_lines}
use Rattle.rx_books_store.specs.Figures.{are_sums, is_figure}
use Rattle.rx_books_store.proofs.Wrong.{figure_tested, member-right, member-wrong}
use Rattle.rx_books_store.proofs.open_books.OpenBooks.wrong_member.Goals as goal

pub returns-then-ne : goal.returns-then-ne
returns-then-ne c =
    let ms = c.args.members.now in
    let ds = c.args.deductibles.now in
    let i = c.loop-at.at in
    let m = c.index-members-at.result in
    let wrong : Line → Bool = λ l. not (are_sums c.args.self.now.books l) in
    let one : wrong (line.Member (record { member = m; deductible = get_or ds i 0 })) ≡ true =
    ap (λ s. not (is_figure s (get_or ds i 0))) (sym c.deductible-sum.ensures)
    ∙ ap not (figure_tested c.deductible-sum.result (get_or ds i 0)) ∙ sym c.ne.ensures ∙ c.if-ne.true in
    sym (position_from-zero wrong (member_lines ms ds)
    ∙ member-wrong wrong 0 ms ds i m (omega arith) (omega arith) c.index-members-at.is
    (sym (position_from-zero wrong (member_lines (take i ms) (take i ds))) ∙ c.loop-at.invariant) one ∙ ap Some (zero-add i))

pub loop-at-preserved : goal.loop-at-preserved
loop-at-preserved c =
    let ms = c.args.members.now in
    let ds = c.args.deductibles.now in
    let i = c.loop-at.at in
    let m = c.index-members-at.result in
    let wrong : Line → Bool = λ l. not (are_sums c.args.self.now.books l) in
    let one : wrong (line.Member (record { member = m; deductible = get_or ds i 0 })) ≡ false =
    ap (λ s. not (is_figure s (get_or ds i 0))) (sym c.deductible-sum.ensures)
    ∙ ap not (figure_tested c.deductible-sum.result (get_or ds i 0)) ∙ sym c.ne.ensures ∙ c.if-ne.false in
    rw add-one (position_from-zero wrong (member_lines (take (suc i) ms) (take (suc i) ds))
    ∙ member-right wrong ms ds i m (omega arith) (omega arith) c.index-members-at.is
    (sym (position_from-zero wrong (member_lines (take i ms) (take i ds))) ∙ c.loop-at.invariant) one)
