-- What is written into a parcel: a key's book, and a family's book.
use Rattle.std.proofs.Common.{◌≡◌, ℕ, zero, suc, List, [], ◌∷◌, get_or, set, Some, refl, sym, ap, ◌∙◌}
use Rattle.std.specs.Option.{option_map}
use Rattle.std.proofs.lemmas.List.Elements.{All-set}
use Rattle.rx_fields.specs.Order.{id_cmp, key_cmp}
use Rattle.rx_fields.specs.declared.key.Key.{Key}
use Rattle.rx_sorted.specs.Ascending.{IsAt, put}
use Rattle.rx_sorted.proofs.Kept.{IsAscending-put}
use Rattle.rx_sorted.proofs.Places.{IsAscending-set, item_at-at, set-at}
use Rattle.rx_sorted.proofs.Totals.{All-put}
use Rattle.rx_ledger.specs.declared.row.Row.{Row}
use Rattle.rx_ledger.proofs.Orders.{id_total, key_total}
use Rattle.rx_books_family.specs.declared.key_book.KeyBook.{KeyBook}
use Rattle.rx_books_family.specs.FamilyBook.{FamilyBook, IsOwn, book_with_row, book_without_row, family_of}
use Rattle.rx_books_parcel.specs.Parcels.{HasOwnRow, IsParcel, ParcelParts, family_at, family_without, key_of, row_at, with_family_book}
use Rattle.rx_books_parcel.proofs.Held.{family_found, period_found}

-- what is written over itself stays
pub unwritten : {X : Type 0} (xs : List X) (i : ℕ) (x d : X) → x ≡ get_or xs i d → set xs i x ≡ xs
unwritten [] i x d e = refl
unwritten (y ∷ ys) zero x d e = ap (λ z. z ∷ ys) e
unwritten (y ∷ ys) (suc i) x d e = ap (λ zs. y ∷ zs) (unwritten ys i x d e)

module _ (p : ParcelParts) (is : IsParcel p) (family : List ℕ) (at : ℕ)
    (is_at : IsAt id_cmp family_of p.families family at) (b : FamilyBook) (read : b ≡ get_or p.families at b) where
  -- the book at a family's place is the family's
  pub book_there : family_at p family ≡ Some b
  book_there = item_at-at id_cmp id_total family_of p.families family at b is.families_rise is_at ∙ ap Some (sym read)

  pub family_there : b.family ≡ family
  family_there = let found = family_found p is family b book_there in found.0

  pub own_there : IsOwn b
  own_there = let found = family_found p is family b book_there in found.1

  -- with a new book of the family in its place, and a new book of a key, it is a parcel
  pub written : (slot : KeyBook) → HasOwnRow slot → (c : FamilyBook) → c.family ≡ b.family → c.period ≡ b.period
      → IsOwn c
      → IsParcel (record p { keys = put key_cmp key_of p.keys slot; families = set p.families at c })
  written slot own c named period owned = record {
    keys_rise = IsAscending-put key_cmp key_total key_of p.keys slot is.keys_rise;
    families_rise = IsAscending-set id_cmp id_total family_of p.families c at is.families_rise (placed c named);
    rows_own = All-put key_cmp key_total key_of HasOwnRow p.keys slot is.rows_own own;
    families_own = All-set IsOwn p.families at c owned is.families_own;
    one_period = All-set (λ (d : FamilyBook). d.period ≡ p.period) p.families at c
        (period ∙ period_found p is family b book_there) is.one_period;
  }
    where
      placed : (c : FamilyBook) → c.family ≡ b.family → IsAt id_cmp family_of p.families c.family at
      placed c named = rw (named ∙ family_there) is_at

  -- the books after an addition, and after a removal
  put_there : (c : FamilyBook) → c.family ≡ b.family → set p.families at c ≡ put id_cmp family_of p.families c
  put_there c named =
      let here : IsAt id_cmp family_of p.families c.family at = rw (named ∙ family_there) is_at in
      set-at id_cmp id_total family_of p.families c at is.families_rise here

  pub added_families : (r : Row) → r.family ≡ family
      → set p.families at (book_with_row b r)
      ≡ with_family_book p (option_map (λ d. book_with_row d r) (family_at p r.family))
  added_families r own =
      put_there (book_with_row b r) refl
      ∙ sym (ap (λ o. with_family_book p (option_map (λ d. book_with_row d r) o)) (ap (family_at p) own ∙ book_there))

  pub removed_families : (r : Row) (key : Key) → r.family ≡ family → row_at p key ≡ Some r
      → set p.families at (book_without_row b key) ≡ with_family_book p (family_without p (row_at p key) key)
  removed_families r key own there =
      put_there (book_without_row b key) refl
      ∙ sym (ap (λ o. with_family_book p (family_without p o key)) there
      ∙ ap (λ o. with_family_book p (option_map (λ d. book_without_row d key) o)) (ap (family_at p) own ∙ book_there))
