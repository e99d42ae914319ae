use Rattle.std.proofs.Common.{◌≡◌, ◌+◌, ℕ, List, take, drop, subst, true}
use Rattle.std.specs.Cmp.Lexicographic.{pointwise}
use Rattle.std.specs.Prelude.{IfOk, IfSome, nat_eq}
use Rattle.rx_books_text.specs.TextReading.{lines}
use Rattle.rx_books_text.proofs.Cuts.{lines_at, to_end}
use Rattle.rx_books_upkeep.specs.QuickTable.{AreSorted}
use Rattle.rx_books_upkeep.specs.Table.{heading}
use Rattle.rx_books_upkeep.proofs.QuickTables.{found_readily}
use Rattle.rx_books_upkeep.proofs.TableSteps.{turned_true}
use Rattle.rx_books_upkeep.proofs.quick_table.read_readily.Goals as goal

pub returns : goal.returns
returns c =
    let text : List ℕ = c.args.text.now in
    let at : ℕ = c.in-Some.end in
    let cut = lines_at text at c.in-Some.ensures.0.high c.in-Some.ensures.0.before c.in-Some.ensures.1 in
    let same : pointwise nat_eq (take at text) heading ≡ true = turned_true _ (rw c.as_slice.ensures at c.if-ne.ensures) in
    found_readily text (take at text) (drop (at + 1) text) c.sorted_members.result cut same
    (subst (λ (t : List ℕ). IfOk c.sorted_members.result (λ o. IfSome o (AreSorted (lines t)))) (to_end (at + 1) text)
    c.sorted_members.ensures)
