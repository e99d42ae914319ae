-- A record on the ledger of its excerpt is answered as on the whole.
use Rattle.std.proofs.Common.{◌≡◌, ℕ, ◌+◌, ◌++◌, ◌||◌, List, [], ◌∷◌, map, Bool, true, false, Option, Some, None, refl, sym, ap, subst, ◌∙◌, inl, inr}
use Rattle.std.specs.List.{Contains, filter, flat_map, list_all, list_any}
use Rattle.std.specs.Ordering.{is_eq}
use Rattle.std.specs.Option.{is_some}
use Rattle.std.specs.declared.cmp.Ordering.{Ordering}
use Rattle.std.proofs.lemmas.Bool.{and_from, and_parts, cases_Bool, or_cases, or_left, or_right}
use Rattle.std.proofs.lemmas.Cmp.{tied_itself}
use Rattle.std.proofs.lemmas.List.{map-append}
use Rattle.std.proofs.lemmas.List.Concat.{flat_map-cons}
use Rattle.std.proofs.lemmas.List.Elements.{All-contains_itself, All-weaker}
use Rattle.std.proofs.lemmas.List.Folds.{list_any-append}
use Rattle.rx_fields.specs.Numbered.{LotParts}
use Rattle.rx_fields.specs.Order.{id_cmp, key_cmp}
use Rattle.rx_fields.specs.declared.key.Key.{Key}
use Rattle.rx_d0_values.specs.declared.transaction.Transaction.{Transaction}
use Rattle.rx_d0_values.specs.declared.transaction.Transaction.TheVariants.{Bill, Reverse, Faulty}
use Rattle.rx_d0_values.specs.declared.transmission.Body.{Body}
use Rattle.rx_d0_values.specs.declared.transmission.Body.TheVariants.{Rejected, Heard}
use Rattle.rx_d0_values.specs.declared.transmission.Heard.{Heard as HeardRecord}
use Rattle.rx_d0_values.specs.declared.transmission.Transmission.{Transmission}
use Rattle.rx_sorted.specs.Ascending.{contains_key, has_key, itself}
use Rattle.rx_sorted.proofs.Filters.{filter_on, find_filter}
use Rattle.rx_sorted.proofs.Keys.{Equal-from_is_eq}
use Rattle.rx_sorted.proofs.Kept.{IsAscending-filter}
use Rattle.rx_sorted.proofs.LookUps.{item_at-from_contains}
use Rattle.rx_ledger.specs.declared.member.Member.{Member}
use Rattle.rx_ledger.specs.declared.member.MemberKey.{MemberKey}
use Rattle.rx_ledger.specs.declared.row.Row.{Row}
use Rattle.rx_ledger.specs.Answers.{after, answer}
use Rattle.rx_ledger.specs.Fold.{asked, fold_ledger, ledger_after, ledger_from, ledger_of_body, reply_to}
use Rattle.rx_ledger.specs.Ledger.{IsLedger, Ledger, is_listed, row_under}
use Rattle.rx_ledger.specs.Members.{member_cmp, member_key}
use Rattle.rx_ledger.specs.Named.{key_in}
use Rattle.rx_ledger.specs.Plan.{Plan}
use Rattle.rx_ledger.specs.Rows.{member_of_row, row_key}
use Rattle.rx_ledger.proofs.Orders.{id_total, key_exact, key_total, member_exact, member_total}
use Rattle.rx_books_family.specs.Books.{Book, IsInOrder, OfFamily, OfKey, has_member, has_row}
use Rattle.rx_books_family.proofs.BookValues.{ledger_path}
use Rattle.rx_books_parcel.specs.Footprints.{FootprintParts, fits_body, fits_one, names, names_holder}
use Rattle.rx_books_parcel.proofs.Locality.{order_after, reply_part}
use Rattle.rx_books_parcel.proofs.Parts.{keeps, of_any, part}
use Rattle.rx_commands.specs.ExcerptParts.{excerpt_ledger, families_in, families_of, holder_of, is_one_of, ledger_of}

-- ---- the members and claims of some families are a ledger

module _ (families : List (List ℕ)) (L : Ledger) where
  abbrev of_member : Member → Bool
  of_member m = is_one_of families m.key.family

  abbrev of_row : Row → Bool
  of_row r = is_one_of families r.family

  -- the member of a claim that stays, stays too
  listed_kept : (r : Row) → of_row r ≡ true → is_listed L (member_of_row r) ≡ true
      → is_listed (ledger_of families L) (member_of_row r) ≡ true
  listed_kept r own listed =
      let k : MemberKey = member_of_row r in
      ap is_some (find_filter (has_key member_cmp member_key k) of_member L.members
      (λ m tied. rw (member_exact m.key k (Equal-from_is_eq _ tied)) own)) ∙ listed

  all_listed : (rows : List Row) → list_all (λ r. is_listed L (member_of_row r)) rows ≡ true
      → list_all (λ r. is_listed (ledger_of families L) (member_of_row r)) (filter of_row rows) ≡ true
  all_listed [] h = refl
  all_listed (r ∷ rows) h =
      let parts = and_parts (is_listed L (member_of_row r)) (list_all (λ s. is_listed L (member_of_row s)) rows) h in
      let rest = all_listed rows parts.1 in
      elim (cases_Bool (of_row r)) [
        | inl own ↦ rw own (and_from _ _ (listed_kept r own parts.0) rest)
        | inr other ↦ rw other rest
      ]

  pub IsLedger-of : IsLedger L → IsLedger (ledger_of families L)
  IsLedger-of is = record {
    members_rise = IsAscending-filter member_cmp member_total member_key of_member L.members is.members_rise;
    rows_rise = IsAscending-filter key_cmp key_total row_key of_row L.rows is.rows_rise;
    whole = all_listed L.rows is.whole;
  }

-- ---- the footprint of a record, with the holders of all its fill keys

abbrev key_of : HeardRecord → Transaction → List Key
key_of h (Bill b) = key_in h b.reference ∷ []
key_of h (Reverse v) = key_in h v.reference ∷ []
key_of h (Faulty f) = []

abbrev keys_in : Body → List Key
keys_in (Rejected r) = []
keys_in (Heard h) = flat_map (key_of h) h.list

abbrev footprint : Body → Ledger → FootprintParts
footprint body L = record { keys = keys_in body; families = families_in body L }

module _ {K : Type 0} (cmp : K → K → Ordering) (k : K) where
  among_left : (xs ys : List K) → contains_key cmp itself xs k ≡ true → contains_key cmp itself (xs ++ ys) k ≡ true
  among_left [] ys h = absurd (let e : false ≡ true = h in cc)
  among_left (x ∷ xs) ys h = elim (cases_Bool (is_eq (cmp x k))) [
    | inl t ↦ rw t
    | inr f ↦ rw f (among_left xs ys (rw f at h))
  ]

  among_right : (xs ys : List K) → contains_key cmp itself ys k ≡ true → contains_key cmp itself (xs ++ ys) k ≡ true
  among_right [] ys h = h
  among_right (x ∷ xs) ys h = elim (cases_Bool (is_eq (cmp x k))) [ inl t ↦ rw t | inr f ↦ rw f (among_right xs ys h) ]

module _ {K T : Type 0} (cmp : K → K → Ordering) (named : T → List K) (k : K) (t : T) (ts : List T) where
  among_first : contains_key cmp itself (named t) k ≡ true → contains_key cmp itself (flat_map named (t ∷ ts)) k ≡ true
  among_first h = ap (λ ks. contains_key cmp itself ks k) (flat_map-cons named t ts)
      ∙ among_left cmp k (named t) (flat_map named ts) h

  among_rest : contains_key cmp itself (flat_map named ts) k ≡ true
      → contains_key cmp itself (flat_map named (t ∷ ts)) k ≡ true
  among_rest h = ap (λ ks. contains_key cmp itself ks k) (flat_map-cons named t ts)
      ∙ among_right cmp k (named t) (flat_map named ts) h

first_key : (k : Key) (ks : List Key) → contains_key key_cmp itself (k ∷ ks) k ≡ true
first_key k ks = rw (ap is_eq (tied_itself key_total k))

first_family : (f : List ℕ) (fs : List (List ℕ)) → contains_key id_cmp itself (f ∷ fs) f ≡ true
first_family f fs = rw (ap is_eq (tied_itself id_total f))

module _ (h : HeardRecord) (L : Ledger) (F : FootprintParts) where
  abbrev NamesKeys : List Key → Type 0
  NamesKeys ks = (k : Key) → contains_key key_cmp itself ks k ≡ true → names F (OfKey k) ≡ true

  abbrev NamesFamilies : List (List ℕ) → Type 0
  NamesFamilies fs = (f : List ℕ) → contains_key id_cmp itself fs f ≡ true → names F (OfFamily f) ≡ true

  holder_fits : (o : Option Row) → NamesFamilies (holder_of o) → names_holder F o ≡ true
  holder_fits None families = refl
  holder_fits (Some r) families = families r.family (first_family r.family [])

  one_fits : (t : Transaction) → NamesKeys (key_of h t) → NamesFamilies (families_of h L t) → fits_one F h L t ≡ true
  one_fits (Bill b) keys families =
      and_from _ _ (keys (key_in h b.reference) (first_key (key_in h b.reference) []))
      (families b.family (first_family b.family (holder_of (row_under L (key_in h b.reference)))))
  one_fits (Reverse v) keys families =
      and_from _ _ (keys (key_in h v.reference) (first_key (key_in h v.reference) []))
      (holder_fits (row_under L (key_in h v.reference)) families)
  one_fits (Faulty x) keys families = refl

  all_fit : (ts : List Transaction) → NamesKeys (flat_map (key_of h) ts) → NamesFamilies (flat_map (families_of h L) ts)
      → list_all (fits_one F h L) ts ≡ true
  all_fit [] keys families = refl
  all_fit (t ∷ ts) keys families =
      and_from (fits_one F h L t) (list_all (fits_one F h L) ts)
      (one_fits t (λ k w. keys k (among_first key_cmp (key_of h) k t ts w))
      (λ f w. families f (among_first id_cmp (families_of h L) f t ts w)))
      (all_fit ts (λ k w. keys k (among_rest key_cmp (key_of h) k t ts w))
      (λ f w. families f (among_rest id_cmp (families_of h L) f t ts w)))

body_fits : (body : Body) (L : Ledger) → fits_body (footprint body L) L body ≡ true
body_fits (Rejected r) L = refl
body_fits (Heard h) L = all_fit h L (footprint (Heard h) L) h.list (λ k w. w) (λ f w. w)

-- ---- the part that stands in these books is the excerpt's ledger

no_member : (ks : List Key) (m : Member) → list_any (λ b. has_member b m) (map OfKey ks) ≡ false
no_member [] m = refl
no_member (k ∷ ks) m = no_member ks m

family_members : (fs : List (List ℕ)) (m : Member)
    → list_any (λ b. has_member b m) (map OfFamily fs) ≡ is_one_of fs m.key.family
family_members [] m = refl
family_members (f ∷ fs) m = ap (λ b. has_member (OfFamily f) m || b) (family_members fs m)

family_rows : (fs : List (List ℕ)) (r : Row) → list_any (λ b. has_row b r) (map OfFamily fs) ≡ is_one_of fs r.family
family_rows [] r = refl
family_rows (f ∷ fs) r = ap (λ b. has_row (OfFamily f) r || b) (family_rows fs r)

or_second : (a b : Bool) → (a ≡ true → b ≡ true) → (a || b) ≡ b
or_second true b h = sym (h refl)
or_second false b h = refl

module _ (h : HeardRecord) (L : Ledger) (r : Row) (stands : row_under L r.key ≡ Some r) where
  abbrev has : Book → Bool
  has b = has_row b r

  own_holder : (k : Key) → is_eq (key_cmp r.key k) ≡ true → is_one_of (holder_of (row_under L k)) r.family ≡ true
  own_holder k tied =
      let same : r.key ≡ k = key_exact r.key k (Equal-from_is_eq _ tied) in
      let under : row_under L k ≡ Some r = subst (λ j. row_under L j ≡ Some r) same stands in
      rw under (or_left _ false (ap is_eq (tied_itself id_total r.family)))

  -- a claim under a fill key of a transaction is one of its families'
  one_held : (t : Transaction) → list_any has (map OfKey (key_of h t)) ≡ true → is_one_of (families_of h L t) r.family ≡ true
  one_held (Bill b) w = elim (or_cases (is_eq (key_cmp r.key (key_in h b.reference))) false w) [
    | inl tied ↦ or_right (is_eq (id_cmp r.family b.family)) _ (own_holder (key_in h b.reference) tied)
    | inr none ↦ absurd (let e : false ≡ true = none in cc)
  ]
  one_held (Reverse v) w = elim (or_cases (is_eq (key_cmp r.key (key_in h v.reference))) false w) [
    | inl tied ↦ own_holder (key_in h v.reference) tied
    | inr none ↦ absurd (let e : false ≡ true = none in cc)
  ]
  one_held (Faulty x) w = absurd (let e : false ≡ true = w in cc)

  each_held : (ts : List Transaction) → list_any has (map OfKey (flat_map (key_of h) ts)) ≡ true
      → is_one_of (flat_map (families_of h L) ts) r.family ≡ true
  each_held [] w = absurd (let e : false ≡ true = w in cc)
  each_held (t ∷ ts) w =
      let keys : list_any has (map OfKey (flat_map (key_of h) (t ∷ ts)))
      ≡ (list_any has (map OfKey (key_of h t)) || list_any has (map OfKey (flat_map (key_of h) ts))) =
      ap (λ ks. list_any has (map OfKey ks)) (flat_map-cons (key_of h) t ts)
      ∙ ap (list_any has) (map-append OfKey (key_of h t) (flat_map (key_of h) ts))
      ∙ list_any-append has (map OfKey (key_of h t)) (map OfKey (flat_map (key_of h) ts)) in
      let families : is_one_of (flat_map (families_of h L) (t ∷ ts)) r.family
      ≡ (is_one_of (families_of h L t) r.family || is_one_of (flat_map (families_of h L) ts) r.family) =
      ap (λ fs. is_one_of fs r.family) (flat_map-cons (families_of h L) t ts)
      ∙ list_any-append (λ f. is_eq (id_cmp r.family f)) (families_of h L t) (flat_map (families_of h L) ts) in
      families ∙ elim (or_cases _ _ (sym keys ∙ w)) [
        | inl here ↦ or_left (is_one_of (families_of h L t) r.family) _ (one_held t here)
        | inr later ↦ or_right (is_one_of (families_of h L t) r.family) _ (each_held ts later)
      ]

body_held : (body : Body) (L : Ledger) (r : Row) → row_under L r.key ≡ Some r
    → list_any (λ b. has_row b r) (map OfKey (keys_in body)) ≡ true → is_one_of (families_in body L) r.family ≡ true
body_held (Rejected x) L r stands w = absurd (let e : false ≡ true = w in cc)
body_held (Heard h) L r stands w = each_held h L r stands h.list w

module _ (body : Body) (L : Ledger) (order : IsInOrder L) where
  abbrev F : FootprintParts
  F = footprint body L

  member_same : (m : Member) → keeps has_member F m ≡ is_one_of (families_in body L) m.key.family
  member_same m =
      list_any-append (λ b. has_member b m) (map OfKey (keys_in body)) (map OfFamily (families_in body L))
      ∙ ap (λ b. b || list_any (λ c. has_member c m) (map OfFamily (families_in body L))) (no_member (keys_in body) m)
      ∙ family_members (families_in body L) m

  row_same : (r : Row) → Contains L.rows r → keeps has_row F r ≡ is_one_of (families_in body L) r.family
  row_same r among =
      list_any-append (λ b. has_row b r) (map OfKey (keys_in body)) (map OfFamily (families_in body L))
      ∙ ap (λ b. list_any (λ c. has_row c r) (map OfKey (keys_in body)) || b) (family_rows (families_in body L) r)
      ∙ or_second (list_any (λ c. has_row c r) (map OfKey (keys_in body))) (is_one_of (families_in body L) r.family)
      (body_held body L r (item_at-from_contains key_cmp key_total row_key L.rows r order.rows_rise among))

  part_is : part F L ≡ excerpt_ledger body L
  part_is = ledger_path (part F L) (excerpt_ledger body L)
      (filter_on (keeps has_member F) (λ m. is_one_of (families_in body L) m.key.family) L.members
      (of_any (λ m. keeps has_member F m ≡ is_one_of (families_in body L) m.key.family) L.members member_same))
      (filter_on (keeps has_row F) (λ r. is_one_of (families_in body L) r.family) L.rows
      (All-weaker (Contains L.rows) (λ r. keeps has_row F r ≡ is_one_of (families_in body L) r.family) row_same L.rows
      (All-contains_itself L.rows)))

-- the reply on the excerpt's ledger is that on the whole
pub reply_on_excerpt : (lot : LotParts) (plan : Plan) (place : ℕ) (t : Transmission) (L : Ledger) → IsInOrder L
    → reply_to lot plan place t (excerpt_ledger t.body L) ≡ reply_to lot plan place t L
reply_on_excerpt lot plan place t L order =
    ap (reply_to lot plan place t) (sym (part_is t.body L order))
    ∙ reply_part lot plan place (footprint t.body L) t L order (body_fits t.body L)

-- ---- the ledger stays in order

order_from : (lot : LotParts) (plan : Plan) (place : ℕ) (h : HeardRecord) (nth : ℕ) (ts : List Transaction) (L : Ledger)
    → IsInOrder L → IsInOrder (ledger_from lot plan place h nth ts L)
order_from lot plan place h nth [] L order = order
order_from lot plan place h nth (t ∷ ts) L order =
    let a = asked lot plan place h nth in
    order_from lot plan place h (nth + 1) ts (after a L t (answer a L t))
    (order_after lot plan place h nth (record { keys = []; families = [] }) L t (answer a L t) order)

order_body : (lot : LotParts) (plan : Plan) (place : ℕ) (L : Ledger) (body : Body) → IsInOrder L
    → IsInOrder (ledger_of_body lot plan place L body)
order_body lot plan place L (Rejected r) order = order
order_body lot plan place L (Heard h) order = order_from lot plan place h 1 h.list L order

pub fold_in_order : (lot : LotParts) (plan : Plan) (place : ℕ) (ts : List Transmission) (L : Ledger) → IsInOrder L
    → IsInOrder (fold_ledger lot plan place ts L)
fold_in_order lot plan place [] L order = order
fold_in_order lot plan place (t ∷ ts) L order =
    fold_in_order lot plan (place + 1) ts (ledger_after lot plan place t L) (order_body lot plan place L t.body order)
