-- Fills are counted as the rows change, and some fill is too soon exactly where some row is.
use Rattle.std.specs.Prelude.{nat_lt, ◌&&◌, Result, OnErr, OnOk, is_some, if◌then◌else◌, unwrap_or}
use Rattle.std.proofs.Common.{◌≡◌, ℕ, zero, suc, ◌+◌, ◌-◌, ◌<◌, ◌++◌, Bool, true, false, List, [], ◌∷◌, Option}
use Rattle.std.proofs.Common.{Some, None, refl, sym, ap, ◌∙◌, inl, inr, arith, add-zero, get_or}
use Rattle.std.specs.Option.{ok_or, option_map}
use Rattle.std.specs.List.{All, Contains, list_any}
use Rattle.std.specs.Cmp.{IsTotalOrder}
use Rattle.std.specs.Ordering.{is_eq}
use Rattle.std.proofs.lemmas.Bool.{cases_Bool, and_parts}
use Rattle.std.proofs.lemmas.Bool.Decides.{nat_tests}
use Rattle.std.proofs.lemmas.List.Elements.{All-tail}
use Rattle.std.proofs.lemmas.List.Folds.{Any-from_list_any, list_any-from_Any}
use Rattle.std.proofs.lemmas.List.Sums.{sum_by-cons}
use Rattle.std.proofs.lemmas.Cmp.{int_cmp_total}
use Rattle.std.proofs.lemmas.Map.Lookups.{CmpEqualImpliesEq, exact_signed}
use Rattle.rx_sorted.specs.Ascending.{IsAscending, IsAt, contains_key, has_key, is_past, item_at}
use Rattle.rx_sorted.proofs.Keys.{Equal-from_is_eq, Less-from_is_lt, has_key-itself}
use Rattle.rx_sorted.proofs.Edits.{put-past}
use Rattle.rx_sorted.proofs.Places.{item_at-at}
use Rattle.rx_sorted.proofs.KeyOrders.{number_total, number_exact, by_two_total, by_two_exact, by_three_total, by_three_exact}
use Rattle.rx_sorted.proofs.LookUps.{item_at-found, item_at-free, item_at-from_contains, item_at-put}
use Rattle.rx_ledger.specs.declared.member.Member.{Member}
use Rattle.rx_ledger.specs.declared.row.Row.{Row}
use Rattle.rx_ledger.proofs.Orders.{day_total, day_exact}
use Rattle.rx_serial.specs.declared.fill.Course.{Course}
use Rattle.rx_serial.specs.declared.fill.Entry.{Entry}
use Rattle.rx_serial.specs.declared.fill.Fill.{Fill}
use Rattle.rx_serial.specs.declared.fill.FillKey.{FillKey}
use Rattle.rx_serial.specs.declared.fill.When.{When}
use Rattle.rx_serial.specs.Fills.{AreCounted, count_among, count_at, count_of, course_cmp, fill_cmp}
use Rattle.rx_serial.specs.Fills.{fill_key, fill_of, fills_in, lowered, one_of, tallied, when_cmp}

-- ---- the order of fills

pub course_total : IsTotalOrder course_cmp
course_total = by_two_total (λ (k : Course). k.holder) (λ k. k.product) number_total number_total

pub course_exact : CmpEqualImpliesEq course_cmp
course_exact = by_two_exact (λ (k : Course). k.holder) (λ k. k.product) number_exact number_exact
    (λ j k holder product i. record { holder = holder i; product = product i })

pub when_total : IsTotalOrder when_cmp
when_total = by_three_total (λ (w : When). w.number) (λ w. w.date) (λ w. w.days) int_cmp_total day_total number_total

pub when_exact : CmpEqualImpliesEq when_cmp
when_exact = by_three_exact (λ (w : When). w.number) (λ w. w.date) (λ w. w.days) exact_signed day_exact number_exact
    (λ j k number date days i. record { number = number i; date = date i; days = days i })

pub fill_total : IsTotalOrder fill_cmp
fill_total = by_two_total (λ (k : FillKey). k.course) (λ k. k.when) course_total when_total

pub fill_exact : CmpEqualImpliesEq fill_cmp
fill_exact = by_two_exact (λ (k : FillKey). k.course) (λ k. k.when) course_exact when_exact
    (λ j k course when i. record { course = course i; when = when i })

-- ---- more, and one less

abbrev counted_in : Option Fill → ℕ
counted_in o = unwrap_or (option_map (λ f. f.count) o) 0

pub count_at-tallied : (fills : List Fill) (f : Fill) (k : FillKey)
    → count_at (tallied fills f) k ≡ count_at fills k + count_of k f
count_at-tallied fills f k =
    let x : Fill = record { key = f.key; count = count_at fills f.key + f.count } in
    let put_is = item_at-put fill_cmp fill_total fill_key fills x k in
    elim (cases_Bool (is_eq (fill_cmp f.key k))) [
      | inl tied ↦ rw (put_is, tied) (ap (λ m. count_at fills m + f.count) (fill_exact f.key k (Equal-from_is_eq _ tied)))
      | inr other ↦ rw (put_is, other) (simp add-zero)
    ]

pub count_at-lowered : (fills : List Fill) (j k : FillKey)
    → count_at (lowered fills j) k ≡ count_at fills k - (if is_eq (fill_cmp j k) then 1 else 0)
count_at-lowered fills j k =
    let x : Fill = record { key = j; count = count_at fills j - 1 } in
    let put_is = item_at-put fill_cmp fill_total fill_key fills x k in
    elim (cases_Bool (contains_key fill_cmp fill_key fills j)) [
      | inl there ↦ elim (cases_Bool (is_eq (fill_cmp j k))) [
        | inl tied ↦ rw (there, put_is, tied)
            (ap (λ m. count_at fills m - 1) (fill_exact j k (Equal-from_is_eq _ tied)))
        | inr other ↦ rw (there, put_is, other) (omega arith)
      ]
      | inr absent ↦ elim (cases_Bool (is_eq (fill_cmp j k))) [
        | inl tied ↦
            let same : j ≡ k = fill_exact j k (Equal-from_is_eq _ tied) in
            let none : item_at fill_cmp fill_key fills j ≡ None =
            item_at-free fill_cmp fill_total fill_key fills j absent in
            let nothing : count_at fills k ≡ 0 =
            ap (count_at fills) (sym same) ∙ ap (λ o. unwrap_or (option_map (λ (f : Fill). f.count) o) 0) none in
            rw (absent, tied, nothing) refl
        | inr other ↦ rw (absent, other) (omega arith)
      ]
    ]

-- an entry after all others, and one for a fill that has none
none_past : (fills : List Fill) (k : FillKey) → is_past fill_cmp fill_key fills k ≡ true → item_at fill_cmp fill_key fills k ≡ None
none_past [] k past = refl
none_past (x ∷ xs) k past =
    let parts = and_parts _ _ past in
    let other : has_key fill_cmp fill_key k x ≡ false = ap is_eq (Less-from_is_lt _ parts.0) in
    rw other (none_past xs k parts.1)

pub count_past : (fills : List Fill) (k : FillKey) → is_past fill_cmp fill_key fills k ≡ true → count_at fills k ≡ 0
count_past fills k past = ap counted_in (none_past fills k past)

-- an entry after all others is what is tallied
pub tallied_past : (fills : List Fill) (f : Fill) → is_past fill_cmp fill_key fills f.key ≡ true
    → fills ++ f ∷ [] ≡ tallied fills f
tallied_past fills f past =
    let x : Fill = record { key = f.key; count = count_at fills f.key + f.count } in
    let none : count_at fills f.key + f.count ≡ f.count = let n = count_past fills f.key past in omega (arith, n) in
    let same : x ≡ f = λ i. record { key = f.key; count = none i } in
    ap (λ y. fills ++ y ∷ []) (sym same) ∙ sym (put-past fill_cmp fill_total fill_key fills x past)

-- what the entry at a place counts
pub count_there : (fills : List Fill) (k : FillKey) (i : ℕ) (x : Fill) → IsAscending fill_cmp fill_key fills
    → IsAt fill_cmp fill_key fills k i → x ≡ get_or fills i x → count_at fills k ≡ x.count
count_there fills k i x rise at is =
    ap counted_in (item_at-at fill_cmp fill_total fill_key fills k i x rise at)
    ∙ sym (ap (λ (f : Fill). f.count) is)

-- ---- counts follow the rows

module _ (counted : FillKey → Bool) (members : List Member) (rows after : List Row) (fills : List Fill) (r : Row)
    (is : AreCounted counted members rows fills) where
  -- where the rows have one more, and where they have one less
  pub AreCounted-tallied : ((k : FillKey) → fills_in members after k ≡ fills_in members rows k + one_of members k r)
      → AreCounted counted members after (tallied fills (record { key = fill_of members r; count = 1 }))
  AreCounted-tallied more k own =
      count_at-tallied fills (record { key = fill_of members r; count = 1 }) k
      ∙ ap (λ n. n + one_of members k r) (is k own) ∙ sym (more k)

  pub AreCounted-lowered : ((k : FillKey) → fills_in members after k + one_of members k r ≡ fills_in members rows k)
      → AreCounted counted members after (lowered fills (fill_of members r))
  AreCounted-lowered less k own =
      let so_far = is k own in
      let one = less k in
      let kept = count_at-lowered fills (fill_of members r) k in
      omega (arith, so_far, one, kept)

-- ---- some fill is one that a test finds

module _ (members : List Member) where
  -- a fill that is counted is some row's, and a row's fill is counted
  counted_row : (rows : List Row) (k : FillKey) → 0 < fills_in members rows k
      → (r : Row) × (Contains rows r × (fill_of members r ≡ k))
  counted_row [] k some = absurd (omega (arith, some))
  counted_row (x ∷ xs) k some = elim (cases_Bool (is_eq (fill_cmp (fill_of members x) k))) [
    | inl tied ↦ (x, ((0, omega arith, refl), fill_exact (fill_of members x) k (Equal-from_is_eq _ tied)))
    | inr other ↦
        let first : one_of members k x ≡ 0 = rw other refl in
        let more = counted_row xs k (omega (arith, some, first, sum_by-cons (one_of members k) x xs)) in
        (more.0, ((suc more.1.0.0, omega (arith, more.1.0.1), more.1.0.2), more.1.1))
  ]

  row_counted : (rows : List Row) (r : Row) → Contains rows r → 0 < fills_in members rows (fill_of members r)
  row_counted [] r c = absurd (omega (arith, c.1))
  row_counted (x ∷ xs) r (zero, in_range, is) =
      let tied : is_eq (fill_cmp (fill_of members x) (fill_of members r)) ≡ true =
      ap (λ (y : Row). is_eq (fill_cmp (fill_of members x) (fill_of members y))) (sym is)
      ∙ has_key-itself fill_cmp fill_total (fill_of members) x in
      let first : one_of members (fill_of members r) x ≡ 1 = rw tied refl in
      omega (arith, first, sum_by-cons (one_of members (fill_of members r)) x xs)
  row_counted (x ∷ xs) r (suc i, in_range, is) =
      let rest = row_counted xs r (i, omega arith, is) in
      omega (arith, rest, sum_by-cons (one_of members (fill_of members r)) x xs)

-- what counts something has its entry
entry_of : (o : Option Fill) → 0 < counted_in o → (f : Fill) × ((o ≡ Some f) × (0 < f.count))
entry_of None some = let none : 0 < 0 = some in absurd (omega (arith, none))
entry_of (Some f) some = (f, (refl, some))

pub true_both : (a b : Bool) → (a ≡ true → b ≡ true) → (b ≡ true → a ≡ true) → a ≡ b
true_both true b f g = sym (f refl)
true_both false b f g = elim (cases_Bool b) [ inl t ↦ absurd (let e : false ≡ true = g t in cc) | inr e ↦ sym e ]

positive : (n : ℕ) → nat_lt 0 n ≡ true → 0 < n
positive n is = grind (arith, nat_tests)

is_positive : (n : ℕ) → 0 < n → nat_lt 0 n ≡ true
is_positive n some = grind (arith, nat_tests)

module _ (counted : FillKey → Bool) (members : List Member) (rows : List Row) (fills : List Fill) (found : FillKey → Bool)
    (rise : IsAscending fill_cmp fill_key fills) (is : AreCounted counted members rows fills)
    (own : (k : FillKey) → found k ≡ true → counted k ≡ true) where
  abbrev standing : Fill → Bool
  standing f = nat_lt 0 f.count && found f.key

  abbrev filled : Row → Bool
  filled r = found (fill_of members r)

  row_from_fill : list_any standing fills ≡ true → list_any filled rows ≡ true
  row_from_fill h =
      let (i, f, in_range, at, passes) = Any-from_list_any standing fills h in
      let parts = and_parts (nat_lt 0 f.count) (found f.key) passes in
      let there = item_at-from_contains fill_cmp fill_total fill_key fills f rise (i, in_range, at) in
      let known : count_at fills f.key ≡ f.count = ap counted_in there in
      let some = is f.key (own f.key parts.1) in
      let row = counted_row members rows f.key (omega (arith, positive f.count parts.0, known, some)) in
      list_any-from_Any filled rows
      (row.1.0.0, row.0, row.1.0.1, row.1.0.2, ap found row.1.1 ∙ parts.1)

  fill_from_row : list_any filled rows ≡ true → list_any standing fills ≡ true
  fill_from_row h =
      let (i, r, in_range, at, passes) = Any-from_list_any filled rows h in
      let k = fill_of members r in
      let some = row_counted members rows r (i, in_range, at) in
      let known = is k (own k passes) in
      let there_is : 0 < count_at fills k = omega (arith, some, known) in
      let entry = entry_of (item_at fill_cmp fill_key fills k) there_is in
      let there = item_at-found fill_cmp fill_total fill_key fills k entry.0 entry.1.0 in
      let same : entry.0.key ≡ k = fill_exact entry.0.key k there.1 in
      list_any-from_Any standing fills (
        there.0.0,
        entry.0,
        there.0.1,
        there.0.2,
        rw (is_positive entry.0.count entry.1.1, ap found same ∙ passes) refl,
      )

  -- some fill that stands passes exactly where the fill of some row does
  pub any_filled : list_any standing fills ≡ list_any filled rows
  any_filled = true_both _ _ row_from_fill fill_from_row

-- ---- the first count

-- entries that count nothing count nothing together
pub count_among-none : (entries : List Entry) → All (λ e. e.fill.count ≡ 0) entries → (k : FillKey)
    → count_among entries k ≡ 0
count_among-none [] none k = refl
count_among-none (x ∷ xs) none k =
    let first : count_of k x.fill ≡ 0 = elim (cases_Bool (is_eq (fill_cmp x.fill.key k))) [
      | inl tied ↦ rw tied (none 0 x (omega arith))
      | inr other ↦ rw other refl
    ] in
    let rest = count_among-none xs (All-tail (λ (e : Entry). e.fill.count ≡ 0) x xs none) k in
    omega (arith, first, rest, sum_by-cons (λ (e : Entry). count_of k e.fill) x xs)

-- what is found so far, with the rows from r on, is all
module _ (members : List Member) (counted : FillKey → Bool) (found : List Entry) (all : FillKey → ℕ) (rest left : List Row)
    (r : Row)
    (next_is : (k : FillKey) → counted k ≡ true → fills_in members rest k ≡ one_of members k r + fills_in members left k)
    (finding : (k : FillKey) → counted k ≡ true → count_among found k + fills_in members rest k ≡ all k) where
  pub finding-pushed : (more : List Entry)
      → ((k : FillKey) → count_among more k ≡ count_among found k + one_of members k r)
      → (k : FillKey) → counted k ≡ true → count_among more k + fills_in members left k ≡ all k
  finding-pushed more pushed k own =
      let so_far = finding k own in
      let next = next_is k own in
      let one = pushed k in
      omega (arith, so_far, next, one)

  pub finding-skipped : counted (fill_of members r) ≡ false → (k : FillKey) → counted k ≡ true
      → count_among found k + fills_in members left k ≡ all k
  finding-skipped stranger k own =
      let so_far = finding k own in
      let next = next_is k own in
      let other : one_of members k r ≡ 0 = elim (cases_Bool (is_eq (fill_cmp (fill_of members r) k))) [
        | inl tied ↦
            let same : fill_of members r ≡ k = fill_exact (fill_of members r) k (Equal-from_is_eq _ tied) in
            absurd (let e : false ≡ true =
            sym stranger ∙ ap counted same ∙ own in cc)
        | inr apart ↦ rw apart refl
      ] in
      omega (arith, so_far, next, other)

-- ---- an entry that is written over

pub written : (o : Option Fill) (r : Result Fill Fill) (x : Fill) (new put_in old : List Fill) → r ≡ ok_or o x
    → OnOk r (new ≡ put_in) → OnErr r (new ≡ old) → new ≡ (if is_some o then put_in else old)
written None r x new put_in old is ok err = rw is at err
written (Some f) r x new put_in old is ok err = rw is at ok
