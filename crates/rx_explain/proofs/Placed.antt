-- The transactions of a batch, each at its place and on the ledger before it.
use Rattle.std.specs.Prelude.{nat_lt, slice_get, option_and_then}
use Rattle.std.specs.Option.{option_map}
use Rattle.std.proofs.Common.{◌≡◌, ℕ, zero, suc, ◌+◌, ◌-◌, ◌<◌, ◌++◌, List, [], ◌∷◌, Option, Some, None}
use Rattle.std.proofs.Common.{length, take, append_assoc, refl, sym, ap, subst, ◌∙◌, ◌⊎◌, inl, inr, arith}
use Rattle.std.proofs.Math.Seq.{take-append_seam}
use Rattle.std.proofs.lemmas.Bool.{cases_Bool, lt-ltb, ltb-true}
use Rattle.std.proofs.lemmas.Cmp.{tied_itself}
use Rattle.std.proofs.lemmas.List.{length-append}
use Rattle.std.proofs.lemmas.Option.{option_and_then_some}
use Rattle.std.specs.Cmp.{IsTotalOrder}
use Rattle.std.specs.Ordering.{nat_cmp, ordering_then}
use Rattle.std.specs.declared.cmp.Ordering.TheVariants.{Less}
use Rattle.rx_fields.specs.Numbered.{LotParts}
use Rattle.rx_d0_values.specs.declared.transaction.Transaction.{Transaction}
use Rattle.rx_d0_values.specs.declared.transmission.Body.{Body}
use Rattle.rx_d0_values.specs.declared.transmission.Body.TheVariants.{Rejected, Heard}
use Rattle.rx_d0_values.specs.declared.transmission.Heard.{Heard as HeardRecord}
use Rattle.rx_d0_values.specs.declared.transmission.Transmission.{Transmission}
use Rattle.rx_sorted.specs.Ascending.{IsAscending, IsBelow}
use Rattle.rx_sorted.proofs.KeyOrders.{by_two_total, number_total}
use Rattle.rx_sorted.proofs.Keys.{IsBelow-append}
use Rattle.rx_ledger.specs.Fold.{fold_ledger, ledger_after, ledger_from}
use Rattle.rx_ledger.specs.Ledger.{Ledger}
use Rattle.rx_ledger.specs.Plan.{Plan}
use Rattle.rx_explain.specs.declared.at.At.{At}
use Rattle.rx_explain.specs.Before.{ledger_at, ledger_before}
use Rattle.rx_explain.specs.Spots.{Spot, item, spot_at, spot_in}
use Rattle.rx_explain.specs.Traces.{at_cmp}
use Rattle.rx_explain.proofs.Flattened.{Step, step, step_at, record_steps, body_steps, steps_of, next, ledger_by, body_ledger}

-- ---- in the order of the places

pub at_total : IsTotalOrder at_cmp
at_total = by_two_total (λ (a : At). a.place) (λ a. a.nth) number_total number_total

abbrev pub AreRising : List Step → Type 0
AreRising xs = IsAscending at_cmp step_at xs

abbrev pub IsBelowAll : At → List Step → Type 0
IsBelowAll at xs = IsBelow at_cmp step_at at xs

number_below : (m n : ℕ) → m < n → nat_cmp m n ≡ Less
number_below m n h = rw (lt-ltb m n h) refl

earlier_record : (a b : At) → a.place < b.place → at_cmp a b ≡ Less
earlier_record a b h = ap (λ o. ordering_then o (nat_cmp a.nth b.nth)) (number_below a.place b.place h)

earlier_in_record : (a b : At) → a.place ≡ b.place → a.nth < b.nth → at_cmp a b ≡ Less
earlier_in_record a b same h =
    ap (λ p. ordering_then (nat_cmp p b.place) (nat_cmp a.nth b.nth)) same
    ∙ ap (λ o. ordering_then o (nat_cmp a.nth b.nth)) (tied_itself number_total b.place)
    ∙ number_below a.nth b.nth h

module _ (place : ℕ) (h : HeardRecord) where
  below_in_record : (at : At) (nth : ℕ) (ts : List Transaction) → at.place ≡ place → at.nth < nth
      → IsBelowAll at (record_steps place h nth ts)
  below_in_record at nth [] same less = tt
  below_in_record at nth (t ∷ ts) same less =
      (earlier_in_record at _ same less, below_in_record at (nth + 1) ts same (omega arith))

  below_record : (at : At) (nth : ℕ) (ts : List Transaction) → at.place < place → IsBelowAll at (record_steps place h nth ts)
  below_record at nth [] less = tt
  below_record at nth (t ∷ ts) less = (earlier_record at _ less, below_record at (nth + 1) ts less)

  rising_before : (ys : List Step) → ((nth : ℕ) → IsBelowAll (record { place = place; nth = nth }) ys) → AreRising ys
      → (nth : ℕ) (ts : List Transaction) → AreRising (record_steps place h nth ts ++ ys)
  rising_before ys below rising nth [] = rising
  rising_before ys below rising nth (t ∷ ts) = (
    IsBelow-append at_cmp at_total step_at (record { place = place; nth = nth }) (record_steps place h (nth + 1) ts) ys
        (below_in_record (record { place = place; nth = nth }) (nth + 1) ts refl (omega arith)) (below nth),
    rising_before ys below rising (nth + 1) ts,
  )

below_body : (at : At) (place : ℕ) (body : Body) → at.place < place → IsBelowAll at (body_steps place body)
below_body at place (Rejected r) less = tt
below_body at place (Heard h) less = below_record place h at 1 h.list less

below_steps : (at : At) (place : ℕ) (ts : List Transmission) → at.place < place → IsBelowAll at (steps_of place ts)
below_steps at place [] less = tt
below_steps at place (t ∷ ts) less =
    IsBelow-append at_cmp at_total step_at at (body_steps place t.body) (steps_of (place + 1) ts)
    (below_body at place t.body less) (below_steps at (place + 1) ts (omega arith))

rising_body : (place : ℕ) (body : Body) (ys : List Step) → ((nth : ℕ) → IsBelowAll (record { place = place; nth = nth }) ys)
    → AreRising ys → AreRising (body_steps place body ++ ys)
rising_body place (Rejected r) ys below rising = rising
rising_body place (Heard h) ys below rising = rising_before place h ys below rising 1 h.list

pub steps_rise : (place : ℕ) (ts : List Transmission) → AreRising (steps_of place ts)
steps_rise place [] = tt
steps_rise place (t ∷ ts) =
    rising_body place t.body (steps_of (place + 1) ts)
    (λ nth. below_steps (record { place = place; nth = nth }) (place + 1) ts (omega arith)) (steps_rise (place + 1) ts)

-- ---- items by their numbers

get_next : {X : Type 0} (done : List X) (x : X) (left : List X) → slice_get (done ++ x ∷ left) (length done) ≡ Some x
get_next [] x left = refl
get_next (d ∷ done) x left = get_next done x left

item_next : {X : Type 0} (done : List X) (x : X) (left : List X) (n : ℕ) → n ≡ length done + 1
    → item (done ++ x ∷ left) n ≡ Some x
item_next done x left n is =
    let before : n - 1 ≡ length done = omega arith in
    rw (lt-ltb 0 n (omega arith), before) (get_next done x left)

taken : {X : Type 0} (done left : List X) (n : ℕ) → n ≡ length done + 1 → take (n - 1) (done ++ left) ≡ done
taken done left n is =
    let before : n - 1 ≡ length done = omega arith in
    rw before (take-append_seam done left)

item_some : {X : Type 0} (xs : List X) (n : ℕ) (x : X) → item xs n ≡ Some x → (n ≡ 1 + (n - 1)) × (slice_get xs (n - 1) ≡ Some x)
item_some xs n x is = elim (cases_Bool (nat_lt 0 n)) [
  | inl more ↦ let some : 0 < n = ltb-true 0 n more in (omega arith, rw more at is)
  | inr none ↦ absurd (let e : None ≡ Some x = rw none at is in cc)
]

one_more : (place before : ℕ) → place + 1 + before ≡ place + suc before
one_more place before = omega arith

-- ---- on the ledger before it

module _ (lot : LotParts) (plan : Plan) where
  ledger_from-snoc : (place : ℕ) (h : HeardRecord) (done : List Transaction) (nth : ℕ) (t : Transaction) (L : Ledger)
      → ledger_from lot plan place h nth (done ++ t ∷ []) L
      ≡ next lot plan (ledger_from lot plan place h nth done L) (step place h (nth + length done) t)
  ledger_from-snoc place h [] nth t L =
      let same : nth ≡ nth + 0 = omega arith in
      ap (λ n. next lot plan L (step place h n t)) same
  ledger_from-snoc place h (d ∷ done) nth t L =
      let M = next lot plan L (step place h nth d) in
      ledger_from-snoc place h done (nth + 1) t M
      ∙ ap (λ n. next lot plan (ledger_from lot plan place h (nth + 1) done M) (step place h n t)) (one_more nth (length done))

  fold_ledger-snoc : (done : List Transmission) (place : ℕ) (t : Transmission) (L : Ledger)
      → fold_ledger lot plan place (done ++ t ∷ []) L
      ≡ ledger_after lot plan (place + length done) t (fold_ledger lot plan place done L)
  fold_ledger-snoc [] place t L =
      let same : place ≡ place + 0 = omega arith in
      ap (λ n. ledger_after lot plan n t L) same
  fold_ledger-snoc (d ∷ done) place t L =
      let M = ledger_after lot plan place d L in
      fold_ledger-snoc done (place + 1) t M
      ∙ ap (λ n. ledger_after lot plan n t (fold_ledger lot plan (place + 1) done M)) (one_more place (length done))

module _ (lot : LotParts) (plan : Plan) (ts : List Transmission) (opening : Ledger) where
  abbrev pub before_step : Step → Ledger
  before_step x = ledger_before lot plan ts opening x.at.place x.spot.heard x.at.nth

  pub record IsPlaced (x : Step) (L : Ledger) : Type 0 where
    pub is_there : spot_at ts x.at ≡ Some x.spot
    pub is_on : before_step x ≡ L

  abbrev pub ArePlaced : Ledger → List Step → Type 0
  ArePlaced L [] = Unit {0}
  ArePlaced L (x ∷ xs) = IsPlaced x L × ArePlaced (next lot plan L x) xs

  placed-append : (L : Ledger) (xs ys : List Step) → ArePlaced L xs → ArePlaced (ledger_by lot plan L xs) ys
      → ArePlaced L (xs ++ ys)
  placed-append L [] ys first rest = rest
  placed-append L (x ∷ xs) ys first rest = (first.0, placed-append (next lot plan L x) xs ys first.1 rest)

  placed_record : (place : ℕ) (h : HeardRecord)
      → ((nth : ℕ) (t : Transaction) → item h.list nth ≡ Some t
      → spot_at ts (record { place = place; nth = nth }) ≡ Some (record { heard = h; transaction = t }))
      → (done left : List Transaction) (nth : ℕ) (L : Ledger) → nth ≡ length done + 1
      → L ≡ ledger_from lot plan place h 1 done (ledger_at lot plan ts opening place) → h.list ≡ done ++ left
      → ArePlaced L (record_steps place h nth left)
  placed_record place h there done [] nth L nth_is L_is is = tt
  placed_record place h there done (t ∷ left) nth L nth_is L_is is =
      let M = ledger_at lot plan ts opening place in
      let more : nth + 1 ≡ length (done ++ t ∷ []) + 1 = omega (arith, length-append done (t ∷ [])) in
      let same : nth ≡ 1 + length done = omega arith in
      let after_it : next lot plan L (step place h nth t) ≡ ledger_from lot plan place h 1 (done ++ t ∷ []) M =
      ap (λ K. next lot plan K (step place h nth t)) L_is
      ∙ ap (λ n. next lot plan (ledger_from lot plan place h 1 done M) (step place h n t)) same
      ∙ sym (ledger_from-snoc lot plan place h done 1 t M) in (
        record {
          is_there = there nth t (ap (λ list. item list nth) is ∙ item_next done t left nth nth_is);
          is_on = ap (λ list. ledger_from lot plan place h 1 list M)
              (ap (take (nth - 1)) is ∙ taken done (t ∷ left) nth nth_is)
              ∙ sym L_is;
        },
        placed_record place h there (done ++ t ∷ []) left (nth + 1) _ more after_it
            (is ∙ sym (append_assoc done (t ∷ []) left)),
      )

  placed_body : (place : ℕ) (t : Transmission) (body : Body) (L : Ledger) → item ts place ≡ Some t → t.body ≡ body
      → L ≡ ledger_at lot plan ts opening place → ArePlaced L (body_steps place body)
  placed_body place t (Rejected r) L is body_is L_is = tt
  placed_body place t (Heard h) L is body_is L_is =
      placed_record place h
      (λ nth u u_is.
      ap (option_and_then (λ (v : Transmission). spot_in nth v.body)) is ∙ ap (spot_in nth) body_is
      ∙ ap (option_map (λ (v : Transaction). let s : Spot = record { heard = h; transaction = v } in s)) u_is)
      [] h.list 1 L refl L_is refl

  placed_steps : (done left : List Transmission) (place : ℕ) (L : Ledger) → place ≡ length done + 1
      → L ≡ fold_ledger lot plan 1 done opening → ts ≡ done ++ left → ArePlaced L (steps_of place left)
  placed_steps done [] place L place_is L_is is = tt
  placed_steps done (t ∷ left) place L place_is L_is is =
      let first = body_steps place t.body in
      let more : place + 1 ≡ length (done ++ t ∷ []) + 1 = omega (arith, length-append done (t ∷ [])) in
      let same : place ≡ 1 + length done = omega arith in
      let here : item ts place ≡ Some t = ap (λ list. item list place) is ∙ item_next done t left place place_is in
      let on : L ≡ ledger_at lot plan ts opening place =
      L_is ∙ ap (λ list. fold_ledger lot plan 1 list opening)
      (sym (ap (take (place - 1)) is ∙ taken done (t ∷ left) place place_is)) in
      let after_it : ledger_by lot plan L first ≡ fold_ledger lot plan 1 (done ++ t ∷ []) opening =
      sym (body_ledger lot plan place t.body L) ∙ ap (ledger_after lot plan place t) L_is
      ∙ ap (λ n. ledger_after lot plan n t (fold_ledger lot plan 1 done opening)) same
      ∙ sym (fold_ledger-snoc lot plan done 1 t opening) in
      placed-append L first (steps_of (place + 1) left) (placed_body place t t.body L here refl on)
      (placed_steps (done ++ t ∷ []) left (place + 1) _ more after_it (is ∙ sym (append_assoc done (t ∷ []) left)))

  pub steps_placed : ArePlaced opening (steps_of 1 ts)
  steps_placed = placed_steps [] ts 1 opening refl refl refl

-- ---- each transaction is among them

abbrev pub IsAmong : Step → List Step → Type 0
IsAmong x [] = ⊥
IsAmong x (y ∷ ys) = (y ≡ x) ⊎ IsAmong x ys

among_first : (x : Step) (xs ys : List Step) → IsAmong x xs → IsAmong x (xs ++ ys)
among_first x [] ys h = absurd h
among_first x (y ∷ xs) ys (inl here) = inl here
among_first x (y ∷ xs) ys (inr more) = inr (among_first x xs ys more)

among_rest : (x : Step) (xs ys : List Step) → IsAmong x ys → IsAmong x (xs ++ ys)
among_rest x [] ys h = h
among_rest x (y ∷ xs) ys h = inr (among_rest x xs ys h)

among_record : (place : ℕ) (h : HeardRecord) (ts : List Transaction) (nth i n : ℕ) (t : Transaction) → slice_get ts i ≡ Some t
    → n ≡ nth + i → IsAmong (step place h n t) (record_steps place h nth ts)
among_record place h [] nth i n t is n_is = absurd (let e : None ≡ Some t = is in cc)
among_record place h (u ∷ ts) nth zero n t is n_is =
    let here : u ≡ t = cc in
    let same : nth ≡ n = omega arith in
    inl (ap (λ k. step place h k u) same ∙ ap (step place h n) here)
among_record place h (u ∷ ts) nth (suc i) n t is n_is = inr (among_record place h ts (nth + 1) i n t is (omega arith))

among_steps : (x : Step) (ts : List Transmission) (place i n : ℕ) (t : Transmission) → slice_get ts i ≡ Some t → n ≡ place + i
    → IsAmong x (body_steps n t.body) → IsAmong x (steps_of place ts)
among_steps x [] place i n t is n_is h = absurd (let e : None ≡ Some t = is in cc)
among_steps x (u ∷ ts) place zero n t is n_is h =
    let here : t ≡ u = cc in
    let same : n ≡ place = omega arith in
    let own : IsAmong x (body_steps place u.body) =
    subst (λ (v : Transmission). IsAmong x (body_steps place v.body)) here
    (subst (λ k. IsAmong x (body_steps k t.body)) same h) in
    among_first x (body_steps place u.body) (steps_of (place + 1) ts) own
among_steps x (u ∷ ts) place (suc i) n t is n_is h =
    among_rest x (body_steps place u.body) (steps_of (place + 1) ts) (among_steps x ts (place + 1) i n t is (omega arith) h)

mapped : {X Y : Type 0} (f : X → Y) (o : Option X) (y : Y) → option_map f o ≡ Some y → (x : X) × ((o ≡ Some x) × (f x ≡ y))
mapped f None y is = cc
mapped f (Some x) y is = (x, (refl, cc))

among_body : (at : At) (s : Spot) (body : Body) → spot_in at.nth body ≡ Some s
    → IsAmong (record { at = at; spot = s }) (body_steps at.place body)
among_body at s (Rejected r) is = absurd (let e : None ≡ Some s = is in cc)
among_body at s (Heard h) is =
    let made : Transaction → Spot = λ t. record { heard = h; transaction = t } in
    let found = mapped made (item h.list at.nth) s is in
    let there = item_some h.list at.nth found.0 found.1.0 in
    subst (λ (u : Spot). IsAmong (record { at = at; spot = u }) (record_steps at.place h 1 h.list)) found.1.1
    (among_record at.place h h.list 1 (at.nth - 1) at.nth found.0 there.1 there.0)

pub among : (ts : List Transmission) (at : At) (s : Spot) → spot_at ts at ≡ Some s
    → IsAmong (record { at = at; spot = s }) (steps_of 1 ts)
among ts at s is =
    option_and_then_some (λ (t : Transmission). spot_in at.nth t.body) (item ts at.place) s is
    (λ t t_is s_is.
    let there = item_some ts at.place t t_is in
    among_steps (record { at = at; spot = s }) ts 1 (at.place - 1) at.place t there.1 there.0 (among_body at s t.body s_is))
