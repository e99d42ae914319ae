-- A test of each member, and of each row, of a shelf's books together: it is made on the places, and on the ledger next to them.
use Rattle.std.proofs.Common.{◌≡◌, Bool, true, false, not, Option, Some, None, refl, sym, ap, ◌∙◌, inl, inr}
use Rattle.std.specs.Prelude.{◌&&◌, ◌||◌}
use Rattle.std.specs.List.{Contains, list_all}
use Rattle.std.proofs.lemmas.Bool.{and_from, and_parts, cases_Bool, not_from_false, or_left, or_right}
use Rattle.rx_fields.specs.Order.{id_cmp, key_cmp}
use Rattle.rx_sorted.specs.Ascending.{contains_key}
use Rattle.rx_ledger.specs.declared.member.Member.{Member}
use Rattle.rx_ledger.specs.declared.row.Row.{Row}
use Rattle.rx_books_family.specs.declared.place.KeyPlace.{KeyPlace}
use Rattle.rx_books_family.specs.Amended.{amended, members_held}
use Rattle.rx_books_family.specs.Shelves.{IsShelf, ShelfParts, place_family, place_key, row_held}
use Rattle.rx_books_family.proofs.Amended.{all_of, each, held_there, member_from, placed_row_there, row_from, unkeyed_row_there, unplaced_there}

same_truth : (a b : Bool) → (a ≡ true → b ≡ true) → (b ≡ true → a ≡ true) → a ≡ b
same_truth true b to from = sym (to refl)
same_truth false true to from = from refl
same_truth false false to from = refl

or_then : (a b : Bool) → (a || b) ≡ true → not a ≡ true → b ≡ true
or_then true b h f = absurd (let e : false ≡ true = f in cc)
or_then false b h f = h

module _ (s : ShelfParts) (is : IsShelf s) where
  pub members_told : (q : Member → Bool)
      → (list_all (λ m. contains_key id_cmp place_family s.families m.key.family || q m) s.rest.members
      && list_all (λ p. list_all q (members_held p)) s.families) ≡ list_all q (amended s).members
  members_told q = same_truth _ _ to from
    where
      has : Member → Bool
      has m = contains_key id_cmp place_family s.families m.key.family

      to : (list_all (λ m. has m || q m) s.rest.members && list_all (λ p. list_all q (members_held p)) s.families) ≡ true
          → list_all q (amended s).members ≡ true
      to h =
          let both = and_parts _ _ h in
          all_of q (amended s).members (λ m among. elim (member_from s is m among) [
            | inl beside ↦ or_then (has m) (q m) (each (λ n. has n || q n) s.rest.members m both.0 beside.0) beside.1
            | inr held ↦ each q (members_held held.0) m
                (each (λ p. list_all q (members_held p)) s.families held.0 both.1 held.1) held.2
          ])

      from : list_all q (amended s).members ≡ true
          → (list_all (λ m. has m || q m) s.rest.members && list_all (λ p. list_all q (members_held p)) s.families) ≡ true
      from h = and_from _ _
          (all_of (λ m. has m || q m) s.rest.members (λ m among. elim (cases_Bool (has m)) [
            | inl t ↦ or_left (has m) (q m) t
            | inr f ↦ or_right (has m) (q m)
                (each q (amended s).members m h (unplaced_there s is m among (not_from_false (has m) f)))
          ]))
          (all_of (λ p. list_all q (members_held p)) s.families (λ p among.
          all_of q (members_held p) (λ m there. each q (amended s).members m h (held_there s is p m among there))))

  pub rows_told : (q : Row → Bool) (held : Option Row → Bool) → held None ≡ true → ((r : Row) → held (Some r) ≡ q r)
      → (list_all (λ p. held (row_held p)) s.keys
      && list_all (λ r. contains_key key_cmp place_key s.keys r.key || q r) s.rest.rows) ≡ list_all q (amended s).rows
  rows_told q held none some = same_truth _ _ to from
    where
      has : Row → Bool
      has r = contains_key key_cmp place_key s.keys r.key

      by_row : (p : KeyPlace) → Contains s.keys p → list_all q (amended s).rows ≡ true → (o : Option Row) → row_held p ≡ o
          → held o ≡ true
      by_row p among h None e = none
      by_row p among h (Some r) e = some r ∙ each q (amended s).rows r h (placed_row_there s is p r among e)

      to : (list_all (λ p. held (row_held p)) s.keys && list_all (λ r. has r || q r) s.rest.rows) ≡ true
          → list_all q (amended s).rows ≡ true
      to h =
          let both = and_parts _ _ h in
          all_of q (amended s).rows (λ r among. elim (row_from s is r among) [
            | inl beside ↦ or_then (has r) (q r) (each (λ n. has n || q n) s.rest.rows r both.1 beside.0) beside.1
            | inr placed ↦ sym (some r) ∙ ap held (sym placed.2)
                ∙ each (λ p. held (row_held p)) s.keys placed.0 both.0 placed.1
          ])

      from : list_all q (amended s).rows ≡ true
          → (list_all (λ p. held (row_held p)) s.keys && list_all (λ r. has r || q r) s.rest.rows) ≡ true
      from h = and_from _ _
          (all_of (λ p. held (row_held p)) s.keys (λ p among.
          by_row p among h (row_held p) refl))
          (all_of (λ r. has r || q r) s.rest.rows (λ r among. elim (cases_Bool (has r)) [
            | inl t ↦ or_left (has r) (q r) t
            | inr f ↦ or_right (has r) (q r)
                (each q (amended s).rows r h (unkeyed_row_there s is r among (not_from_false (has r) f)))
          ]))
