-- Where records that mention one book are in one shard, records that share one are.
use Rattle.std.proofs.Common.{◌≡◌, ℕ, zero, suc, ◌-◌, ◌<◌, true, List, [], ◌∷◌, ◌++◌, length, take, get_or}
use Rattle.std.proofs.Common.{Option, Some, None, refl, ap, sym, subst, ◌∙◌, arith, inl, inr}
use Rattle.std.specs.Prelude.{◌⊎◌}
use Rattle.std.specs.List.{Contains, flat_map, list_any}
use Rattle.std.specs.List.Sorted.{IsPermutation}
use Rattle.std.specs.Ordering.{eq_by_cmp, is_eq}
use Rattle.std.proofs.lemmas.Bool.{and_parts, both_ways, cases_lt, or_cases}
use Rattle.std.proofs.lemmas.Cmp.{tied_itself}
use Rattle.std.proofs.lemmas.List.Concat.{flat_map-cons}
use Rattle.std.proofs.lemmas.List.Elements.{Contains-append_cases, Contains-append_left, Contains-append_right}
use Rattle.std.proofs.lemmas.List.Folds.{list_any-append}
use Rattle.std.proofs.lemmas.List.Sorted.{Contains-permutation}
use Rattle.rx_fields.specs.Order.{id_cmp, key_cmp}
use Rattle.rx_fields.specs.declared.key.Key.{Key}
use Rattle.rx_d0_values.specs.declared.transaction.Transaction.{Transaction}
use Rattle.rx_d0_values.specs.declared.transaction.Transaction.TheVariants.{Bill, Reverse, Faulty}
use Rattle.rx_d0_values.specs.declared.transmission.Body.{Body}
use Rattle.rx_d0_values.specs.declared.transmission.Body.TheVariants.{Rejected, Heard}
use Rattle.rx_d0_values.specs.declared.transmission.Heard.{Heard as HeardRecord}
use Rattle.rx_d0_values.specs.declared.transmission.Transmission.{Transmission}
use Rattle.rx_sorted.proofs.Keys.{Equal-from_is_eq}
use Rattle.rx_ledger.specs.declared.row.Row.{Row}
use Rattle.rx_ledger.specs.Ledger.{Ledger, row_under}
use Rattle.rx_ledger.specs.Named.{key_in}
use Rattle.rx_ledger.proofs.Orders.{id_exact, id_total, key_exact, key_total}
use Rattle.rx_books_family.specs.Books.{Book, OfFamily, OfKey}
use Rattle.rx_books_parcel.specs.Footprints.{names}
use Rattle.rx_schedule.specs.Footprints.{billed_by, billers, billers_in, families_in, families_named, family_of, footprint_at}
use Rattle.rx_schedule.specs.Footprints.{in_order, key_named, keys_in, no_record, record_at}
use Rattle.rx_schedule.specs.Mentions.{holders_of, mention, mentions_of, mentions_of_row, name_of_family, name_of_key}
use Rattle.rx_schedule.specs.Mentions.{named_by, named_in, named_of, reversed_by, reversed_in, reversed_of}
use Rattle.rx_schedule.specs.Shards.{IsGrouping}
use Rattle.rx_schedule.specs.declared.mentions.Mention.{Mention}
use Rattle.rx_schedule.specs.declared.mentions.Reversed.{Reversed}
use Rattle.rx_schedule.proofs.Grouped.{any_whose}
use Rattle.rx_schedule.proofs.InOrder.{among-in_order, named_in as named_in_list}
use Rattle.rx_schedule.proofs.Noted.{among_billed}
use Rattle.rx_schedule.proofs.Ors.{or_false}

-- an item of one of the lists
pub flat_map_has : {X Y : Type 0} (f : X → List Y) (xs : List X) (x : X) (y : Y) → Contains xs x → Contains (f x) y
    → Contains (flat_map f xs) y
flat_map_has f [] x y w in_f = let lt = w.1 in absurd (omega arith)
flat_map_has f (z ∷ zs) x y (zero, lt, e) in_f =
    subst (λ ys. Contains ys y) (sym (flat_map-cons f z zs))
    (Contains-append_left (f z) (flat_map f zs) y (subst (λ u. Contains (f u) y) (sym e) in_f))
flat_map_has f (z ∷ zs) x y (suc k, lt, e) in_f =
    subst (λ ys. Contains ys y) (sym (flat_map-cons f z zs))
    (Contains-append_right (f z) (flat_map f zs) y (flat_map_has f zs x y (k, omega arith, e) in_f))

flat_map_whose : {X Y : Type 0} (f : X → List Y) (xs : List X) (y : Y) → Contains (flat_map f xs) y
    → (x : X) × Contains xs x × Contains (f x) y
flat_map_whose f [] y w = let lt = w.1 in absurd (omega arith)
flat_map_whose f (z ∷ zs) y w =
    elim (Contains-append_cases (f z) (flat_map f zs) y (subst (λ ys. Contains ys y) (flat_map-cons f z zs) w)) [
      | inl here ↦ (z, (zero, omega arith, refl), here)
      | inr rest ↦
          let later = flat_map_whose f zs y rest in
          let c = later.1 in
          (later.0, (suc c.0, (let lt = c.1 in omega arith), c.2), later.2)
    ]

-- more reversed keys have no fewer holders
more_holders : (L : Ledger) (rs ss : List Reversed) → ((r : Reversed) → Contains rs r → Contains ss r) → (m : Mention)
    → Contains (holders_of L rs) m → Contains (holders_of L ss) m
more_holders L rs ss more m w =
    let by = flat_map_whose (λ r. mentions_of_row r.at (row_under L r.key)) rs m w in
    flat_map_has (λ r. mentions_of_row r.at (row_under L r.key)) ss by.0 m (more by.0 by.1) by.2

-- so with reversed keys in another order
pub another_order : (L : Ledger) (names : List Mention) (rs ss : List Reversed) → IsPermutation rs ss → (m : Mention)
    → Contains (names ++ holders_of L rs) m → Contains (names ++ holders_of L ss) m
another_order L names rs ss moved m w = elim (Contains-append_cases names (holders_of L rs) m w) [
  | inl name ↦ Contains-append_left names (holders_of L ss) m name
  | inr holder ↦ Contains-append_right names (holders_of L ss) m
      (more_holders L rs ss (λ r. Contains-permutation rs ss r moved) m holder)
]

pub same_key : (j k : Key) → eq_by_cmp key_cmp j k ≡ true → j ≡ k
same_key j k h = key_exact j k (Equal-from_is_eq _ h)

same_family : (f g : List ℕ) → eq_by_cmp id_cmp f g ≡ true → f ≡ g
same_family f g h = id_exact f g (Equal-from_is_eq _ h)

-- ---- what a record mentions

-- the family of a row
row_mentioned : (at : ℕ) (f : List ℕ) (o : Option Row) → list_any (eq_by_cmp id_cmp f) (family_of o) ≡ true
    → Contains (mentions_of_row at o) (mention at (name_of_family f))
row_mentioned at f None h = absurd (both_ways _ refl h)
row_mentioned at f (Some r) h =
    let same : f ≡ r.family = same_family f r.family (sym (or_false _) ∙ h) in
    (zero, omega arith, ap (λ g. mention at (name_of_family g)) (sym same))

module _ (at : ℕ) where
  -- a transaction mentions the key that it names
  key_by : (h : HeardRecord) (t : Transaction) (k : Key) → list_any (eq_by_cmp key_cmp k) (key_named h t) ≡ true
      → Contains (named_by at h t) (mention at (name_of_key k))
  key_by h (Bill b) k named =
      let same : k ≡ key_in h b.reference = same_key k (key_in h b.reference) (sym (or_false _) ∙ named) in
      (suc zero, omega arith, ap (λ j. mention at (name_of_key j)) (sym same))
  key_by h (Reverse v) k named =
      let same : k ≡ key_in h v.reference = same_key k (key_in h v.reference) (sym (or_false _) ∙ named) in
      (zero, omega arith, ap (λ j. mention at (name_of_key j)) (sym same))
  key_by h (Faulty f) k named = absurd (both_ways _ refl named)

  key_mentioned : (body : Body) (k : Key) → list_any (eq_by_cmp key_cmp k) (keys_in body) ≡ true
      → Contains (named_in at body) (mention at (name_of_key k))
  key_mentioned (Rejected r) k named = absurd (both_ways _ refl named)
  key_mentioned (Heard h) k named =
      let by = any_whose (eq_by_cmp key_cmp k) (key_named h) h.list named in
      flat_map_has (named_by at h) h.list by.0 (mention at (name_of_key k)) by.1 (key_by h by.0 k by.2)

  -- a biller mentions the key and its own family
  billed_one : (h : HeardRecord) (t : Transaction) (k : Key) (f : List ℕ)
      → list_any (eq_by_cmp id_cmp f) (billed_by h k t) ≡ true
      → Contains (named_by at h t) (mention at (name_of_family f)) × Contains (named_by at h t) (mention at (name_of_key k))
  billed_one h (Bill b) k f named =
      let parts = and_parts (is_eq (key_cmp (key_in h b.reference) k)) (is_eq (id_cmp f b.family))
      (sym (among_billed h k b f) ∙ named) in
      let key : key_in h b.reference ≡ k = same_key (key_in h b.reference) k parts.0 in
      let own : f ≡ b.family = same_family f b.family parts.1 in (
        (zero, omega arith, ap (λ g. mention at (name_of_family g)) (sym own)),
        (suc zero, omega arith, ap (λ j. mention at (name_of_key j)) key),
      )
  billed_one h (Reverse v) k f named = absurd (both_ways _ refl named)
  billed_one h (Faulty x) k f named = absurd (both_ways _ refl named)

  billed_in : (body : Body) (k : Key) (f : List ℕ) → list_any (eq_by_cmp id_cmp f) (billers_in k body) ≡ true
      → Contains (named_in at body) (mention at (name_of_family f)) × Contains (named_in at body) (mention at (name_of_key k))
  billed_in (Rejected r) k f named = absurd (both_ways _ refl named)
  billed_in (Heard h) k f named =
      let by = any_whose (eq_by_cmp id_cmp f) (billed_by h k) h.list named in
      let both = billed_one h by.0 k f by.2 in (
        flat_map_has (named_by at h) h.list by.0 (mention at (name_of_family f)) by.1 both.0,
        flat_map_has (named_by at h) h.list by.0 (mention at (name_of_key k)) by.1 both.1,
      )

  -- a family that a transaction names is mentioned, or holds the reversed key's row, or billed the key earlier
  family_by : (L : Ledger) (earlier : List Transmission) (h : HeardRecord) (t : Transaction) (f : List ℕ)
      → list_any (eq_by_cmp id_cmp f) (families_named L earlier h t) ≡ true
      → Contains (named_by at h t) (mention at (name_of_family f))
      ⊎ Contains (holders_of L (reversed_by at h t)) (mention at (name_of_family f))
      ⊎ ((k : Key) × (list_any (eq_by_cmp key_cmp k) (key_named h t) ≡ true)
      × (list_any (eq_by_cmp id_cmp f) (billers k earlier) ≡ true))
  family_by L earlier h (Bill b) f named =
      let own : f ≡ b.family = same_family f b.family (sym (or_false _) ∙ named) in
      inl (zero, omega arith, ap (λ g. mention at (name_of_family g)) (sym own))
  family_by L earlier h (Reverse v) f named =
      let k = key_in h v.reference in
      let r : Reversed = record { key = k; at = at } in
      elim (or_cases (list_any (eq_by_cmp id_cmp f) (family_of (row_under L k))) (list_any (eq_by_cmp id_cmp f) (billers k earlier))
      (sym (list_any-append (eq_by_cmp id_cmp f) (family_of (row_under L k)) (billers k earlier)) ∙ named)) [
        | inl row ↦ inr (inl (flat_map_has (λ s. mentions_of_row s.at (row_under L s.key)) (r ∷ []) r
            (mention at (name_of_family f)) (zero, omega arith, refl) (row_mentioned at f (row_under L k) row)))
        | inr billed ↦ inr (inr (k, or_false (eq_by_cmp key_cmp k k) ∙ ap is_eq (tied_itself key_total k), billed))
      ]
  family_by L earlier h (Faulty x) f named = absurd (both_ways _ refl named)

-- the record before that billed the key
biller_found : (k : Key) (f : List ℕ) (n : ℕ) (records : List Transmission)
    → list_any (eq_by_cmp id_cmp f) (billers k (take n records)) ≡ true
    → (j : ℕ) × (j < length records) × (list_any (eq_by_cmp id_cmp f) (billers_in k (get_or records j no_record).body) ≡ true)
biller_found k f zero records h = absurd (both_ways _ refl h)
biller_found k f (suc n) [] h = absurd (both_ways _ refl h)
biller_found k f (suc n) (t ∷ records) h =
    let split = ap (list_any (eq_by_cmp id_cmp f)) (flat_map-cons (λ u. billers_in k u.body) t (take n records))
    ∙ list_any-append (eq_by_cmp id_cmp f) (billers_in k t.body) (billers k (take n records)) in
    elim (or_cases (list_any (eq_by_cmp id_cmp f) (billers_in k t.body))
    (list_any (eq_by_cmp id_cmp f) (billers k (take n records))) (sym split ∙ h)) [
      | inl here ↦ (zero, omega arith, here)
      | inr later ↦
          let found = biller_found k f n records later in
          (suc found.0, (let lt = found.1 in omega arith), found.2)
    ]

-- ---- records that share one book

-- the name of a book
abbrev name_of : Book → ℕ
name_of (OfKey k) = name_of_key k
name_of (OfFamily f) = name_of_family f

module _ (L : Ledger) (records : List Transmission) where
  -- what the record at a place, from 0, mentions
  abbrev mentioned : ℕ → List Mention
  mentioned i =
      named_in i (record_at records (suc i)).body ++ holders_of L (reversed_in i (record_at records (suc i)).body)

  named_to : (n i : ℕ) (m : Mention) → i < n → Contains (named_in i (record_at records (suc i)).body) m
      → Contains (named_of records n) m
  named_to zero i m lt w = absurd (omega arith)
  named_to (suc n) i m lt w = elim (cases_lt i n) [
    | inl less ↦ Contains-append_left (named_of records n) (named_in n (record_at records (suc n)).body) m
        (named_to n i m less w)
    | inr no_less ↦
        let e : i ≡ n = omega arith in
        Contains-append_right (named_of records n) (named_in n (record_at records (suc n)).body) m
        (subst (λ k. Contains (named_in k (record_at records (suc k)).body) m) e w)
  ]

  reversed_to : (n i : ℕ) (r : Reversed) → i < n → Contains (reversed_in i (record_at records (suc i)).body) r
      → Contains (reversed_of records n) r
  reversed_to zero i r lt w = absurd (omega arith)
  reversed_to (suc n) i r lt w = elim (cases_lt i n) [
    | inl less ↦ Contains-append_left (reversed_of records n) (reversed_in n (record_at records (suc n)).body) r
        (reversed_to n i r less w)
    | inr no_less ↦
        let e : i ≡ n = omega arith in
        Contains-append_right (reversed_of records n) (reversed_in n (record_at records (suc n)).body) r
        (subst (λ k. Contains (reversed_in k (record_at records (suc k)).body) r) e w)
  ]

  present_to : (n i : ℕ) (m : Mention) → i < n → Contains (mentioned i) m → Contains (mentions_of L records n) m
  present_to n i m lt w =
      let body = (record_at records (suc i)).body in
      elim (Contains-append_cases (named_in i body) (holders_of L (reversed_in i body)) m w) [
        | inl named ↦ Contains-append_left (named_of records n) (holders_of L (reversed_of records n)) m
            (named_to n i m lt named)
        | inr holder ↦ Contains-append_right (named_of records n) (holders_of L (reversed_of records n)) m
            (more_holders L (reversed_in i body) (reversed_of records n) (λ r. reversed_to n i r lt) m holder)
      ]

  module _ (shard : ℕ → ℕ)
      (tied : (a b : Mention) → Contains (mentions_of L records (length records)) a
      → Contains (mentions_of L records (length records)) b → a.name ≡ b.name → shard (suc a.at) ≡ shard (suc b.at)) where
    -- some record in the shard of this one mentions the name
    abbrev Reaches : ℕ → ℕ → Type 0
    Reaches i name = (p : ℕ) × (p < length records) × Contains (mentioned p) (mention p name) × (shard (suc p) ≡ shard (suc i))

    both_reach : (i j name : ℕ) → Reaches i name → Reaches j name → shard (suc i) ≡ shard (suc j)
    both_reach i j name one two =
        let p = one.0 in
        let q = two.0 in
        sym one.3 ∙ tied (mention p name) (mention q name)
        (present_to (length records) p (mention p name) one.1 one.2)
        (present_to (length records) q (mention q name) two.1 two.2) refl ∙ two.3

    -- what a record mentions without the books is mentioned
    by_name : (i name : ℕ) (body : Body) → (record_at records (suc i)).body ≡ body → Contains (named_in i body) (mention i name)
        → Contains (mentioned i) (mention i name)
    by_name i name body is w =
        let own = (record_at records (suc i)).body in
        Contains-append_left (named_in i own) (holders_of L (reversed_in i own)) (mention i name)
        (subst (λ b. Contains (named_in i b) (mention i name)) (sym is) w)

    by_holder : (i name : ℕ) (body : Body) → (record_at records (suc i)).body ≡ body
        → Contains (holders_of L (reversed_in i body)) (mention i name) → Contains (mentioned i) (mention i name)
    by_holder i name body is w =
        let own = (record_at records (suc i)).body in
        Contains-append_right (named_in i own) (holders_of L (reversed_in i own)) (mention i name)
        (subst (λ b. Contains (holders_of L (reversed_in i b)) (mention i name)) (sym is) w)

    family_reached : (i : ℕ) → i < length records → (earlier : List Transmission) → earlier ≡ take i records
        → (body : Body) → (record_at records (suc i)).body ≡ body → (f : List ℕ)
        → list_any (eq_by_cmp id_cmp f) (families_in L earlier body) ≡ true → Reaches i (name_of_family f)
    family_reached i lt earlier before (Rejected r) is f named = absurd (both_ways _ refl named)
    family_reached i lt earlier before (Heard h) is f named =
        let by = any_whose (eq_by_cmp id_cmp f) (families_named L earlier h) h.list named in
        let name = name_of_family f in
        elim (family_by i L earlier h by.0 f by.2) [
          | inl own ↦ (
            i,
            lt,
            by_name i name (Heard h) is (flat_map_has (named_by i h) h.list by.0 (mention i name) by.1 own),
            refl,
          )
          | inr (inl holder) ↦ (
            i,
            lt,
            by_holder i name (Heard h) is
                (more_holders L (reversed_by i h by.0) (flat_map (reversed_by i h) h.list)
                (λ r. flat_map_has (reversed_by i h) h.list by.0 r by.1) (mention i name) holder),
            refl,
          )
          | inr (inr billed) ↦
              let k = billed.0 in
              let found = biller_found k f i records (subst (λ rs. list_any (eq_by_cmp id_cmp f) (billers k rs) ≡ true) before
              billed.2) in
              let j = found.0 in
              let e : j ≡ suc j - 1 = omega arith in
              let theirs = billed_in j (record_at records (suc j)).body k f
              (subst (λ p. list_any (eq_by_cmp id_cmp f) (billers_in k (get_or records p no_record).body) ≡ true) e found.2) in
              let mine = flat_map_has (named_by i h) h.list by.0 (mention i (name_of_key k)) by.1 (key_by i h by.0 k billed.1) in (
                j,
                found.1,
                by_name j name (record_at records (suc j)).body refl theirs.0,
                tied (mention j (name_of_key k)) (mention i (name_of_key k))
                    (present_to (length records) j (mention j (name_of_key k)) found.1
                    (by_name j (name_of_key k) (record_at records (suc j)).body refl theirs.1))
                    (present_to (length records) i (mention i (name_of_key k)) lt
                    (by_name i (name_of_key k) (Heard h) is mine)) refl,
              )
        ]

    reached : (i : ℕ) → i < length records → (b : Book) → names (footprint_at L records (suc i)) b ≡ true
        → Reaches i (name_of b)
    reached i lt (OfKey k) named =
        let body = (record_at records (suc i)).body in
        let listed = sym (among-in_order key_cmp key_total key_exact (keys_in body) k)
        ∙ sym (named_in_list key_cmp key_total key_exact (in_order key_cmp (keys_in body)) k) ∙ named in
        (i, lt, by_name i (name_of_key k) body refl (key_mentioned i body k listed), refl)
    reached i lt (OfFamily f) named =
        let body = (record_at records (suc i)).body in
        let e : suc i - 1 ≡ i = omega arith in
        let fs = families_in L (take (suc i - 1) records) body in
        let listed = sym (among-in_order id_cmp id_total id_exact fs f)
        ∙ sym (named_in_list id_cmp id_total id_exact (in_order id_cmp fs) f) ∙ named in
        family_reached i lt (take (suc i - 1) records) (ap (λ n. take n records) e) body refl f listed

    in_one : (i j : ℕ) → i < length records → j < length records → (b : Book)
        → names (footprint_at L records (suc i)) b ≡ true → names (footprint_at L records (suc j)) b ≡ true
        → shard (suc i) ≡ shard (suc j)
    in_one i j lt_i lt_j b named_i named_j =
        both_reach i j (name_of b) (reached i lt_i b named_i) (reached j lt_j b named_j)

    pub grouped : IsGrouping (footprint_at L records) (length records) shard
    grouped zero j one to one_j to_j b named_i named_j = absurd (omega arith)
    grouped (suc i) zero one to one_j to_j b named_i named_j = absurd (omega arith)
    grouped (suc i) (suc j) one to one_j to_j b named_i named_j =
        in_one i j (omega arith) (omega arith) b named_i named_j
