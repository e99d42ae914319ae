-- Rows of members without a mark are none of the fills that are counted.
use Rattle.std.proofs.Common.{◌≡◌, true, arith, Option, Some, None, false, Bool, List, [], ◌∷◌, length, refl, sym, ap, ◌∙◌, inl, inr}
use Rattle.std.specs.Prelude.{IfNone}
use Rattle.std.specs.List.{filter}
use Rattle.std.specs.Ordering.{is_eq}
use Rattle.std.proofs.lemmas.Bool.{and_parts, cases_Bool}
use Rattle.std.proofs.lemmas.List.Sums.{sum_by-cons}
use Rattle.rx_sorted.specs.Ascending.{IsAscending}
use Rattle.rx_sorted.proofs.Keys.{Equal-from_is_eq}
use Rattle.rx_ledger.specs.declared.member.Member.{Member}
use Rattle.rx_ledger.specs.declared.row.Row.{Row}
use Rattle.rx_ledger.specs.Ledger.{Ledger}
use Rattle.rx_ledger.specs.Members.{member_cmp, member_key}
use Rattle.rx_books_store.specs.Standing.{ArePassed, IsUnmarked}
use Rattle.rx_serial.specs.declared.fill.FillKey.{FillKey}
use Rattle.rx_serial.specs.declared.fill.FirstDay.{FirstDay}
use Rattle.rx_serial.specs.declared.marks.Marks.{Marks}
use Rattle.rx_serial.specs.Fills.{fill_cmp, fill_of, fills_in, has_member_mark, is_counted, one_of}
use Rattle.rx_serial.proofs.Counting.{fill_exact}
use Rattle.rx_serial.proofs.Holders.{at_row}

pub IfNone_then : {X : Type 0} (o : Option X) {P Q : Type 0} → IfNone o P → (P → Q) → IfNone o Q
IfNone_then None h f = f h
IfNone_then (Some x) h f = tt

-- a fill that is counted is a marked member's
pub marked : (m : Marks) (first : FirstDay) (k : FillKey) → is_counted m first k ≡ true
    → has_member_mark m.members.items k.course.holder ≡ true
marked m first k own = (and_parts _ _ (and_parts _ _ own).1).0

module _ (members : List Member) (marks : List Bool) (rise : IsAscending member_cmp member_key members) (k : FillKey)
    (own : has_member_mark marks k.course.holder ≡ true) where
  abbrev is_fill : Row → Bool
  is_fill r = is_eq (fill_cmp (fill_of members r) k)

  refused : (r : Row) → IsUnmarked members marks r → is_fill r ≡ false
  refused r un = elim (cases_Bool (is_fill r)) [
    | inl tied ↦
        let same : fill_of members r ≡ k = fill_exact (fill_of members r) k (Equal-from_is_eq _ tied) in
        let place : un.place ≡ k.course.holder = ap (λ (f : FillKey). f.course.holder) (at_row members r un.place rise un.holder ∙ same) in
        absurd (let e : true ≡ false = sym own ∙ ap (has_member_mark marks) (sym place) ∙ un.unmarked in cc)
    | inr other ↦ other
  ]

  as_length : (rows : List Row) → fills_in members rows k ≡ length (filter is_fill rows)
  as_length [] = refl
  as_length (r ∷ rows) = sum_by-cons (one_of members k) r rows ∙ elim (cases_Bool (is_fill r)) [
    | inl here ↦ rw here (let rest = as_length rows in omega (arith, rest))
    | inr other ↦ rw other (let rest = as_length rows in omega (arith, rest))
  ]

  -- they may be passed
  pub fills_passed : (old new : Ledger) → old.members ≡ members → ArePassed marks old new
      → fills_in members old.rows k ≡ fills_in members new.rows k
  fills_passed old new same passed =
      as_length old.rows
      ∙ sym (ap length (passed.rows is_fill (λ r un. refused r (rw same at un))))
      ∙ sym (as_length new.rows)
