-- A ledger that has under each fill key what the shard which names it leaves there is the fold's.
use Rattle.std.proofs.Common.{◌≡◌, ℕ, suc, ◌≤◌, true, false, List, length, refl, ap, subst, sym, ◌∙◌, inl, inr}
use Rattle.std.specs.List.{Contains, list_any}
use Rattle.std.specs.Ordering.{eq_by_cmp}
use Rattle.std.proofs.lemmas.Bool.{both_ways, cases_Bool, eq-eqb, eqb-true, false_from_ne_true}
use Rattle.std.proofs.lemmas.Cmp.{eq_by_cmp_equiv}
use Rattle.std.proofs.lemmas.List.Elements.{All-contains}
use Rattle.std.proofs.lemmas.Map.Views.{Contains-from_any, list_any-from_Contains}
use Rattle.rx_fields.specs.Numbered.{LotParts}
use Rattle.rx_fields.specs.Order.{key_cmp}
use Rattle.rx_fields.specs.declared.key.Key.{Key}
use Rattle.rx_d0_values.specs.declared.transmission.Transmission.{Transmission}
use Rattle.rx_sorted.proofs.Edits.{same_items}
use Rattle.rx_sorted.proofs.Filters.{find_filter}
use Rattle.rx_ledger.specs.Fold.{fold_ledger}
use Rattle.rx_ledger.specs.Ledger.{Ledger, row_under}
use Rattle.rx_ledger.specs.Plan.{Plan}
use Rattle.rx_ledger.specs.Rows.{row_key}
use Rattle.rx_ledger.proofs.NamedKeys.{members_stay}
use Rattle.rx_ledger.proofs.Orders.{key_exact, key_total}
use Rattle.rx_books_family.specs.Books.{IsInOrder, OfKey, book, has_row}
use Rattle.rx_books_family.proofs.BookValues.{ledger_path}
use Rattle.rx_books_parcel.specs.Footprints.{names}
use Rattle.rx_schedule.specs.Footprints.{footprint_at, in_order, keys_in, record_at}
use Rattle.rx_schedule.specs.Shards.{AreJoined, IsGrouping, books_of_shard, is_of, keys_at, ledger_of, places_of, union}
use Rattle.rx_schedule.proofs.Chosen.{IsChosen, places_chosen, places_have}
use Rattle.rx_schedule.proofs.Grouped.{any_whose, named_here, named_whose, own_shard, shard_apart}
use Rattle.rx_schedule.proofs.Holder.{ledger_end, order_before}
use Rattle.rx_schedule.proofs.InOrder.{among-in_order, named_in}
use Rattle.rx_schedule.proofs.Mentioned.{flat_map_has, same_key}
use Rattle.rx_schedule.proofs.Sharded.{shard_untouched}
use Rattle.rx_schedule.proofs.Unparted.{unparted_books}

-- the row under a key stands in the key's book
own_row : (key : Key) (N : Ledger) → row_under (book (OfKey key) N) key ≡ row_under N key
own_row key N = find_filter (has_row (OfKey key)) (has_row (OfKey key)) N.rows (λ r h. h)

row_of_book : (key : Key) (N O : Ledger) → book (OfKey key) N ≡ book (OfKey key) O → row_under N key ≡ row_under O key
row_of_book key N O same = sym (own_row key N) ∙ ap (λ (P : Ledger). row_under P key) same ∙ own_row key O

module _ (L : Ledger) (records : List Transmission) (shard : ℕ → ℕ) where
  -- the places of a shard
  abbrev places : ℕ → List ℕ
  places k = places_of (is_of shard k) (length records)

  -- a footprint names the keys of its record
  key_in_footprint : (i : ℕ) (key : Key) → names (footprint_at L records i) (OfKey key)
      ≡ list_any (eq_by_cmp key_cmp key) (keys_in (record_at records i).body)
  key_in_footprint i key =
      let keys = keys_in (record_at records i).body in
      named_in key_cmp key_total key_exact (in_order key_cmp keys) key ∙ among-in_order key_cmp key_total key_exact keys key

  -- a key that a footprint names is one of its shard's
  key_there : (i : ℕ) (key : Key) → 1 ≤ i → i ≤ length records → names (footprint_at L records i) (OfKey key) ≡ true
      → Contains (keys_at records (places (shard i))) key
  key_there i key one to named =
      flat_map_has (λ j. keys_in (record_at records j).body) (places (shard i)) i key
      (places_have (is_of shard (shard i)) (length records) i one to (eq-eqb (shard i) (shard i) refl))
      (Contains-from_any same_key key (keys_in (record_at records i).body) (sym (key_in_footprint i key) ∙ named))

  -- a shard's key is one that a footprint names
  pub key_whose : (k : ℕ) (key : Key) → Contains (keys_at records (places k)) key
      → (i : ℕ) × IsChosen (is_of shard k) (length records) i × (names (footprint_at L records i) (OfKey key) ≡ true)
  key_whose k key w =
      let by = any_whose (eq_by_cmp key_cmp key) (λ j. keys_in (record_at records j).body) (places k)
      (list_any-from_Contains (eq_by_cmp_equiv key_total) key (keys_at records (places k)) w) in (
        by.0,
        All-contains (IsChosen (is_of shard k) (length records)) (places k) by.0
            (places_chosen (is_of shard k) (length records)) by.1,
        key_in_footprint by.0 key ∙ by.2,
      )

  -- no two shards name a key
  pub one_shard : IsGrouping (footprint_at L records) (length records) shard → (j k : ℕ) (key : Key)
      → Contains (keys_at records (places j)) key → Contains (keys_at records (places k)) key → j ≡ k
  one_shard grouped j k key one other =
      let a = key_whose j key one in
      let b = key_whose k key other in
      sym (eqb-true (shard a.0) j a.1.is)
      ∙ grouped a.0 b.0 a.1.from_one a.1.to b.1.from_one b.1.to (OfKey key) a.2 b.2
      ∙ eqb-true (shard b.0) k b.1.is

module _ (lot : LotParts) (plan : Plan) (L : Ledger) (records : List Transmission) (order : IsInOrder L) (shard : ℕ → ℕ)
    (grouped : IsGrouping (footprint_at L records) (length records) shard) (M : Ledger)
    (m : AreJoined lot plan L records shard M) where
  -- all places
  abbrev all : List ℕ
  all = places_of (λ i. true) (length records)

  row_joined : (key : Key) → row_under M key ≡ row_under (fold_ledger lot plan 1 records L) key
  row_joined key = elim (cases_Bool (names (union (footprint_at L records) all) (OfKey key))) [
    | inl named ↦
        let by = named_whose (footprint_at L records) all (OfKey key) named in
        let i : IsChosen (λ i. true) (length records) by.0 =
        All-contains (IsChosen (λ i. true) (length records)) all by.0 (places_chosen (λ i. true) (length records)) by.1 in
        let k = shard by.0 in
        let F = books_of_shard (footprint_at L records) (length records) shard k in
        m.shards k key (key_there L records shard by.0 key i.from_one i.to by.2)
        ∙ row_of_book key (ledger_of lot plan records (places L records shard k) L) (fold_ledger lot plan 1 records L)
        (unparted_books lot plan L records order (is_of shard k) F (shard_apart L records shard grouped k) (OfKey key)
        (own_shard (footprint_at L records) (length records) shard by.0 (OfKey key) i.from_one i.to by.2))
    | inr free ↦
        let none : (i : ℕ) → 1 ≤ i → i ≤ length records → names (footprint_at L records i) (OfKey key) ≡ false =
        λ i one to. false_from_ne_true (names (footprint_at L records i) (OfKey key)) (λ named.
        both_ways _ free (named_here (footprint_at L records) all i
        (places_have (λ i. true) (length records) i one to refl) (OfKey key) named)) in
        m.others key (λ k w.
        let by = key_whose L records shard k key w in
        both_ways _ (none by.0 by.1.from_one by.1.to) by.2)
        ∙ sym (row_of_book key (fold_ledger lot plan 1 records L) L (shard_untouched lot plan L records order (OfKey key) none))
  ]

  pub joined : M ≡ fold_ledger lot plan 1 records L
  joined =
      let fold = fold_ledger lot plan 1 records L in
      let rises : IsInOrder fold =
      subst IsInOrder (ledger_end lot plan L records) (order_before lot plan L records order (suc (length records))) in
      ledger_path M fold (m.members ∙ sym (members_stay lot plan 1 records L))
      (same_items key_cmp key_total row_key M.rows fold.rows m.in_order.rows_rise rises.rows_rise row_joined)
