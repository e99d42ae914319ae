use Rattle.std.proofs.Common.{◌≡◌, Decides}
use Rattle.std.specs.Cmp.Lexicographic.{bytes_decides, pointwise_decides}
use Rattle.std.proofs.lemmas.Bool.Decides.{Decides-at}
use Rattle.rx_ledger.proofs.Decided.{member_decides, period_decides, row_decides}
use Rattle.rx_books_family.specs.FamilyBook.{FamilyBook}
use Rattle.rx_books_family.proofs.SameBook.{both_hold, first_fails, same_book, other_book}
use Rattle.rx_books_family.proofs.family.FamilyPartialEq.eq.Goals as goal
use Rattle.rx_books_family.proofs.family.FamilyPartialEq.eq.Goals.{then-eq, else-eq, then-eq-2, else-eq-2}

pub returns-then-eq-3 : goal.returns-then-eq-3
returns-then-eq-3 c =
    let x = c.self.inside in
    let y = c.other.inside in
    let a : FamilyBook = record { family = x.family; period = x.period; members = x.members; rows = x.rows } in
    let b : FamilyBook = record { family = y.family; period = y.period; members = y.members; rows = y.rows } in
    let family : Decides c.eq.result (a.family ≡ b.family) = Decides-at _ _ c.eq.ensures (bytes_decides a.family b.family) in
    let heads : Decides c.if-eq.value ((a.family ≡ b.family) × (a.period ≡ b.period)) = elim c.if-eq.branch [
      | then-eq w ↦ both_hold c.eq.result w.eq-then-eq.result c.if-eq.value family w.if-eq.true
          (Decides-at _ _ w.eq-then-eq.ensures (period_decides a.period b.period)) w.value-is
      | else-eq w ↦ first_fails c.eq.result c.if-eq.value family w.if-eq.false w.value-is
    ] in
    let lists : Decides c.if-eq-2.value (((a.family ≡ b.family) × (a.period ≡ b.period)) × (a.members ≡ b.members)) = elim
    c.if-eq-2.branch [
      | then-eq-2 w ↦ both_hold c.if-eq.value w.eq-then-eq-2.result c.if-eq-2.value heads w.if-eq-2.true
          (Decides-at _ _ w.eq-then-eq-2.ensures (pointwise_decides member_decides a.members b.members)) w.value-is
      | else-eq-2 w ↦ first_fails c.if-eq.value c.if-eq-2.value heads w.if-eq-2.false w.value-is
    ] in
    rw (← c.self.view_is, ← c.other.view_is) (same_book a b c.if-eq-2.value c.eq-then-eq-3.result lists c.if-eq-3.true
    (Decides-at _ _ c.eq-then-eq-3.ensures (pointwise_decides row_decides a.rows b.rows)))

pub returns-else-eq-3 : goal.returns-else-eq-3
returns-else-eq-3 c =
    let x = c.self.inside in
    let y = c.other.inside in
    let a : FamilyBook = record { family = x.family; period = x.period; members = x.members; rows = x.rows } in
    let b : FamilyBook = record { family = y.family; period = y.period; members = y.members; rows = y.rows } in
    let family : Decides c.eq.result (a.family ≡ b.family) = Decides-at _ _ c.eq.ensures (bytes_decides a.family b.family) in
    let heads : Decides c.if-eq.value ((a.family ≡ b.family) × (a.period ≡ b.period)) = elim c.if-eq.branch [
      | then-eq w ↦ both_hold c.eq.result w.eq-then-eq.result c.if-eq.value family w.if-eq.true
          (Decides-at _ _ w.eq-then-eq.ensures (period_decides a.period b.period)) w.value-is
      | else-eq w ↦ first_fails c.eq.result c.if-eq.value family w.if-eq.false w.value-is
    ] in
    let lists : Decides c.if-eq-2.value (((a.family ≡ b.family) × (a.period ≡ b.period)) × (a.members ≡ b.members)) = elim
    c.if-eq-2.branch [
      | then-eq-2 w ↦ both_hold c.if-eq.value w.eq-then-eq-2.result c.if-eq-2.value heads w.if-eq-2.true
          (Decides-at _ _ w.eq-then-eq-2.ensures (pointwise_decides member_decides a.members b.members)) w.value-is
      | else-eq-2 w ↦ first_fails c.if-eq.value c.if-eq-2.value heads w.if-eq-2.false w.value-is
    ] in
    rw (← c.self.view_is, ← c.other.view_is) (other_book a b c.if-eq-2.value lists c.if-eq-3.false)
