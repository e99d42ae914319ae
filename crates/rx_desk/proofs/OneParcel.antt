-- A parcel is determined by its period, its names and the values of its books.
use Rattle.std.proofs.Common.{◌≡◌, Option, Some, None, refl, sym, ap, ◌∙◌}
use mathlib.Core.Path.{fun_ext}
use Rattle.std.specs.List.{Contains, slice_get}
use Rattle.std.specs.Option.{option_and_then, option_to_list}
use Rattle.std.proofs.lemmas.List.Elements.{All-contains}
use Rattle.rx_fields.specs.Numbered.{Span}
use Rattle.rx_fields.specs.Order.{id_cmp, key_cmp}
use Rattle.rx_sorted.specs.Ascending.{item_at}
use Rattle.rx_sorted.proofs.LookUps.{item_at-from_contains}
use Rattle.rx_ledger.specs.declared.row.Row.{Row}
use Rattle.rx_ledger.specs.Ledger.{Ledger}
use Rattle.rx_ledger.proofs.Orders.{id_total, key_total}
use Rattle.rx_books_family.specs.declared.key_book.KeyBook.{KeyBook}
use Rattle.rx_books_family.specs.Books.{Book}
use Rattle.rx_books_family.specs.FamilyBook.{FamilyBook, family_of, ledger_of_family}
use Rattle.rx_books_parcel.specs.Footprints.{FootprintParts}
use Rattle.rx_books_parcel.specs.Parcels.{IsParcel, ParcelParts, family_at, key_of, named_in, row_at, values_of}
use Rattle.rx_desk.specs.Desks.{family_book, key_book, parcel_of}
use Rattle.rx_desk.proofs.Lists.{made_again, of_each}

first_of : (o : Option Row) → slice_get (option_to_list o) 0 ≡ o
first_of None = refl
first_of (Some r) = refl

module _ (p : ParcelParts) (is : IsParcel p) where
  key_is : (b : KeyBook) → Contains p.keys b → b ≡ key_book (values_of p) b.key
  key_is b among =
      let there : item_at key_cmp key_of p.keys b.key ≡ Some b =
      item_at-from_contains key_cmp key_total key_of p.keys b is.keys_rise among in
      let row : slice_get (option_to_list (row_at p b.key)) 0 ≡ b.row =
      first_of (row_at p b.key) ∙ ap (option_and_then (λ (c : KeyBook). c.row)) there in
      λ i. record { key = b.key; row = sym row i }

  family_is : (b : FamilyBook) → Contains p.families b → b ≡ family_book p.period (values_of p) b.family
  family_is b among =
      let there : family_at p b.family ≡ Some b =
      item_at-from_contains id_cmp id_total family_of p.families b is.families_rise among in
      let period : b.period ≡ p.period = All-contains (λ (c : FamilyBook). c.period ≡ p.period) p.families b is.one_period among in
      let members : b.members ≡ (ledger_of_family (family_at p b.family)).members =
      ap (λ o. (ledger_of_family o).members) (sym there) in
      let rows : b.rows ≡ (ledger_of_family (family_at p b.family)).rows =
      ap (λ o. (ledger_of_family o).rows) (sym there) in
      λ i. record { family = b.family; period = period i; members = members i; rows = rows i }

  itself : p ≡ parcel_of p.period (named_in p) (values_of p)
  itself =
      let keys = made_again key_of (key_book (values_of p)) p.keys
      (of_each (λ b. b ≡ key_book (values_of p) b.key) p.keys key_is) in
      let families = made_again family_of (family_book p.period (values_of p)) p.families
      (of_each (λ b. b ≡ family_book p.period (values_of p) b.family) p.families family_is) in
      λ i. record { period = p.period; keys = keys i; families = families i }

  pub one_parcel : (period : Span) (F : FootprintParts) (v : Book → Ledger) → p.period ≡ period → named_in p ≡ F
      → ((b : Book) → values_of p b ≡ v b) → p ≡ parcel_of period F v
  one_parcel period F v same_period same_names same_values =
      let values : values_of p ≡ v = fun_ext same_values in
      itself ∙ (λ i. parcel_of (same_period i) (same_names i) (values i))
