use Rattle.std.proofs.Common.{◌≡◌, Decides}
use Rattle.std.specs.Cmp.Lexicographic.{pointwise_decides}
use Rattle.std.proofs.lemmas.Bool.Decides.{Decides-at}
use Rattle.rx_d0_values.specs.Same.{same_lists}
use Rattle.rx_ledger.proofs.Decided.{period_decides}
use Rattle.rx_sorted.specs.Few.{items_of}
use Rattle.rx_books_parcel.specs.Parcels.{ParcelParts}
use Rattle.rx_books_family.specs.contracts.family.Family.{the_row as family_row}
use Rattle.rx_books_family.proofs.SameBook.{both_hold, first_fails, key_book_decides}
use Rattle.rx_books_parcel.proofs.Same.{other_parcel, same_parcel}
use Rattle.rx_books_parcel.proofs.parcel.ParcelPartialEq.eq.Goals as goal
use Rattle.rx_books_parcel.proofs.parcel.ParcelPartialEq.eq.Goals.{then-eq, else-eq}

pub returns-then-eq-2 : goal.returns-then-eq-2
returns-then-eq-2 c =
    let x = c.self.inside in
    let y = c.other.inside in
    let a : ParcelParts = record { period = x.period; keys = items_of x.keys; families = items_of x.families } in
    let b : ParcelParts = record { period = y.period; keys = items_of y.keys; families = items_of y.families } in
    let period : Decides c.eq.result (a.period ≡ b.period) = Decides-at _ _ c.eq.ensures (period_decides a.period b.period) in
    let front : Decides c.if-eq.value ((a.period ≡ b.period) × (a.keys ≡ b.keys)) = elim c.if-eq.branch [
      | then-eq w ↦
          let own = rw (← c.self.view_is) at w.keys.ensures.value in
          let theirs = rw (← c.other.view_is) at w.keys-then-eq.ensures.value in
          let told = rw (own, theirs) at w.eq-then-eq.ensures in
          both_hold c.eq.result w.eq-then-eq.result c.if-eq.value period w.if-eq.true
          (Decides-at _ _ told (pointwise_decides key_book_decides a.keys b.keys)) w.value-is
      | else-eq w ↦ first_fails c.eq.result c.if-eq.value period w.if-eq.false w.value-is
    ] in
    let own = rw (← c.self.view_is) at c.families.ensures.value in
    let theirs = rw (← c.other.view_is) at c.families-then-eq-2.ensures.value in
    let told = rw (own, theirs) at c.eq-then-eq-2.ensures in
    rw (← c.self.view_is, ← c.other.view_is) (same_parcel a b c.if-eq.value c.eq-then-eq-2.result front c.if-eq-2.true
    (Decides-at _ _ told (same_lists family_row.coded a.families b.families)))

pub returns-else-eq-2 : goal.returns-else-eq-2
returns-else-eq-2 c =
    let x = c.self.inside in
    let y = c.other.inside in
    let a : ParcelParts = record { period = x.period; keys = items_of x.keys; families = items_of x.families } in
    let b : ParcelParts = record { period = y.period; keys = items_of y.keys; families = items_of y.families } in
    let period : Decides c.eq.result (a.period ≡ b.period) = Decides-at _ _ c.eq.ensures (period_decides a.period b.period) in
    let front : Decides c.if-eq.value ((a.period ≡ b.period) × (a.keys ≡ b.keys)) = elim c.if-eq.branch [
      | then-eq w ↦
          let own = rw (← c.self.view_is) at w.keys.ensures.value in
          let theirs = rw (← c.other.view_is) at w.keys-then-eq.ensures.value in
          let told = rw (own, theirs) at w.eq-then-eq.ensures in
          both_hold c.eq.result w.eq-then-eq.result c.if-eq.value period w.if-eq.true
          (Decides-at _ _ told (pointwise_decides key_book_decides a.keys b.keys)) w.value-is
      | else-eq w ↦ first_fails c.eq.result c.if-eq.value period w.if-eq.false w.value-is
    ] in
    rw (← c.self.view_is, ← c.other.view_is) (other_parcel a b c.if-eq.value front c.if-eq-2.false)
