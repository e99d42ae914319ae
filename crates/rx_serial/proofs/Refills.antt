-- A refill is looked for from the last fill of its course backwards, as long as a fill could still last.
use Rattle.std.specs.Prelude.{◌⊎◌, ◌&&◌, ◌||◌, ◌==◌, nat_lt}
use Rattle.std.proofs.Common.{◌≡◌, ℕ, ◌+◌, ◌*◌, ◌<◌, ◌≤◌, Bool, true, false, List, [], ◌∷◌, length, get_or, take}
use Rattle.std.proofs.Common.{drop, refl, sym, ap, subst, ◌∙◌, inl, inr, arith, ℤ, pos, ◌-ℤ◌, ◌*ℤ◌, ◌≤ℤ◌, tests}
use Rattle.std.specs.List.{All, AllWithin, list_any}
use Rattle.std.specs.List.Sorted.{IsPartitionedBy}
use Rattle.std.specs.Ordering.{int_cmp, is_le, ordering_then}
use Rattle.std.specs.Prelude.{int_lt}
use Rattle.std.specs.declared.cmp.Ordering.{Ordering}
use Rattle.std.specs.declared.cmp.Ordering.TheVariants.{Less, Equal, Greater}
use Rattle.std.proofs.Math.Nat.{mul-le-mul_left, mul-le-mul_right}
use Rattle.std.proofs.lemmas.Bool.{and_parts, cases_Bool, cases_lt}
use Rattle.std.proofs.lemmas.Bool.Decides.{Decides-eqb}
use Rattle.std.proofs.lemmas.Cmp.{tied_itself}
use Rattle.std.proofs.lemmas.Int.{ints}
use Rattle.std.proofs.lemmas.List.{get_or_default, get_or-drop, get_or-take, length-drop, length-take, take-append-drop}
use Rattle.std.proofs.lemmas.List.Folds.{list_any-append, list_any_none}
use Rattle.rx_fields.specs.Calendar.{Civil, day_cmp, day_number}
use Rattle.rx_d0_values.specs.declared.bill.BillParts.{BillParts}
use Rattle.rx_sorted.specs.Ascending.{IsAscending, IsAt}
use Rattle.rx_sorted.proofs.Keys.{Greater-from_Less, IsBelow-through, cases_Ordering}
use Rattle.rx_sorted.proofs.Kept.{IsAscending-at}
use Rattle.rx_ledger.specs.declared.figures.Figures.{Figures}
use Rattle.rx_ledger.specs.declared.member.Member.{Member}
use Rattle.rx_ledger.specs.declared.row.Row.{Row}
use Rattle.rx_ledger.specs.Answers.{is_too_soon}
use Rattle.rx_ledger.specs.Basis.{billed_member}
use Rattle.rx_ledger.specs.Members.{is_same, member_cmp, member_key}
use Rattle.rx_ledger.specs.Rows.{claimed_by, member_of_row}
use Rattle.rx_serial.specs.declared.fill.Course.{Course}
use Rattle.rx_serial.specs.declared.fill.Fill.{Fill}
use Rattle.rx_serial.specs.declared.fill.FillKey.{FillKey}
use Rattle.rx_serial.specs.declared.fill.FirstDay.{FirstDay}
use Rattle.rx_serial.specs.declared.refill.Refill.{Refill}
use Rattle.rx_serial.specs.Fills.{are_left, concerns, counts, course_cmp, fill_cmp, fill_key, fill_of}
use Rattle.rx_serial.specs.Fills.{is_early, is_not_past, is_own, lasts, refill_of, when_cmp}
use Rattle.rx_serial.proofs.Counting.{course_exact, course_total, fill_total}
use Rattle.rx_serial.proofs.Holders.{by_holder}

abbrev course_of : Fill → Course
course_of f = f.key.course

-- what comes before in a longer order comes before in its first part, or ties there
first_part : (p q : Ordering) → ordering_then p q ≡ Less → (p ≡ Less) ⊎ ((p ≡ Equal) × (q ≡ Less))
first_part Less q less = inl refl
first_part Equal q less = inr (refl, less)
first_part Greater q less = cc

or_false : (t : Bool) → (t || false) ≡ t
or_false true = refl
or_false false = refl

-- ---- a fill of the refill's course

own_course : (f : Refill) (k : FillKey) → is_own f k ≡ true → k.course ≡ f.course
own_course f k own =
    let parts = and_parts (k.course.holder == f.course.holder) (k.course.product == f.course.product) own in
    let holder = (Decides-eqb k.course.holder f.course.holder).0 parts.0 in
    let product = (Decides-eqb k.course.product f.course.product).0 parts.1 in
    λ i. record { holder = holder i; product = product i }

of_course : (f : Refill) (k : FillKey) → k.course ≡ f.course → is_own f k ≡ true
of_course f k same =
    rw (
      (Decides-eqb k.course.holder f.course.holder).1 (ap (λ (c : Course). c.holder) same),
      (Decides-eqb k.course.product f.course.product).1 (ap (λ (c : Course). c.product) same),
    ) refl

-- what a fill that counts is
record IsCounted (f : Refill) (g : Fill) : Type 0 where
  course : g.key.course ≡ f.course
  left : are_left f g.key.when.number g.key.when.days ≡ true

counted_is : (f : Refill) (g : Fill) → counts f g ≡ true → IsCounted f g
counted_is f g passes =
    let both = and_parts (nat_lt 0 g.count) (concerns f g.key) passes in
    let dated : Bool = is_own f g.key && is_le (day_cmp g.key.when.date f.date) in
    let parts = and_parts dated (are_left f g.key.when.number g.key.when.days) both.1 in
    let own = and_parts (is_own f g.key) (is_le (day_cmp g.key.when.date f.date)) parts.0 in
    record { course = own_course f g.key own.0; left = parts.1 }

-- a longer supply from a later day lasts longer
still_left : (at earlier later : ℤ) (days longest percent : ℕ) → earlier ≤ℤ later → days ≤ longest
    → int_lt ((at -ℤ earlier) *ℤ pos 100) (pos (days * percent)) ≡ true
    → int_lt ((at -ℤ later) *ℤ pos 100) (pos (longest * percent)) ≡ true
still_left at earlier later days longest percent le short left =
    let more = mul-le-mul_right percent short in
    grind (arith, ints, tests)

no_later : (a b : ℤ) → (int_cmp a b ≡ Less) ⊎ (int_cmp a b ≡ Equal) → a ≤ℤ b
no_later a b (inl less) = grind (arith, ints, tests)
no_later a b (inr tied) = grind (arith, ints, tests)

-- a supply of which fewer than a percentage is over at a day lasts on each day before
pub still_lasts : (day at number : ℤ) (days percent : ℕ) → day ≤ℤ at → percent ≤ 100
    → int_lt ((at -ℤ number) *ℤ pos 100) (pos (days * percent)) ≡ true
    → int_lt ((day -ℤ number) *ℤ pos 100) (pos (days * 100)) ≡ true
still_lasts day at number days percent le most left =
    let more = mul-le-mul_left days most in
    grind (arith, ints, tests)

-- ---- where fills stand

module _ (c : Course) (xs : List Fill) (rise : IsAscending fill_cmp fill_key xs) where
  earlier : (i j : ℕ) (d : Fill) → i < j → j < length xs
      → (course_cmp (course_of (get_or xs i d)) (course_of (get_or xs j d)) ≡ Less)
      ⊎ ((course_of (get_or xs i d) ≡ course_of (get_or xs j d))
      × (when_cmp (get_or xs i d).key.when (get_or xs j d).key.when ≡ Less))
  earlier i j d below in_range =
      let less = IsAscending-at fill_cmp fill_total fill_key xs i j d rise below in_range in
      elim (first_part _ _ less) [
        | inl first ↦ inl first
        | inr tied ↦ inr (course_exact (course_of (get_or xs i d)) (course_of (get_or xs j d)) tied.0, tied.1)
      ]

  not_past_through : (a b : Course) → course_cmp a b ≡ Less → is_le (course_cmp b c) ≡ true → is_le (course_cmp a c) ≡ true
  not_past_through a b less not_past = elim (cases_Ordering (course_cmp b c)) [
    | inl lower ↦ ap is_le
        (IsBelow-through course_cmp course_total (λ (x : Course). x) a b (c ∷ []) less (lower, tt)).0
    | inr (inl tied) ↦ ap is_le (ap (course_cmp a) (sym (course_exact b c tied)) ∙ less)
    | inr (inr more) ↦ absurd (let e : false ≡ true = rw more at not_past in cc)
  ]

  pub parted_not_past : IsPartitionedBy (is_not_past c) xs
  parted_not_past i j d le in_range not_past = elim (cases_lt i j) [
    | inl below ↦ elim (earlier i j d below in_range) [
      | inl less ↦ not_past_through _ _ less not_past
      | inr same ↦ ap (λ a. is_le (course_cmp a c)) same.0 ∙ not_past
    ]
    | inr above ↦
        let at : i ≡ j = omega arith in
        ap (λ k. is_not_past c (get_or xs k d)) at ∙ not_past
  ]

  -- a fill that isn't past the course has none past it before, and one that is has only such after
  pub none_past_before : (i : ℕ) → i < length xs → AllWithin (λ f. is_not_past c f ≡ true) xs i (i + 1)
      → AllWithin (λ f. is_not_past c f ≡ true) xs 0 (i + 1)
  none_past_before i within own = λ j d low high.
      parted_not_past j i d (omega arith) within (own i d (omega arith) (omega arith))

  pub all_past_behind : (i : ℕ) (f : Fill) → f ≡ get_or xs i f → is_not_past c f ≡ false
      → AllWithin (λ g. is_not_past c g ≡ false) xs i (length xs)
  all_past_behind i f is past = λ j d low high. elim (cases_Bool (is_not_past c (get_or xs j d))) [
    | inl not_past ↦
        let here : is_not_past c (get_or xs i d) ≡ true = parted_not_past i j d low high not_past in
        let same : get_or xs i d ≡ f = get_or_default xs i d f (omega arith) ∙ sym is in
        absurd (let e : false ≡ true = sym past ∙ ap (is_not_past c) (sym same) ∙ here in cc)
    | inr later ↦ later
  ]

-- ---- fills that don't count

module _ (f : Refill) where
  fails_past : (g : Fill) → is_not_past f.course g ≡ false → counts f g ≡ false
  fails_past g past = elim (cases_Bool (counts f g)) [
    | inl passes ↦
        let same = (counted_is f g passes).course in
        let tied : course_cmp g.key.course f.course ≡ Equal =
        ap (λ a. course_cmp a f.course) same ∙ tied_itself course_total f.course in
        absurd (let e : true ≡ false = sym (ap is_le tied) ∙ past in cc)
    | inr fails ↦ fails
  ]

  module _ (xs : List Fill) where
    -- all fills past the course's fail
    pub none_past : (end : ℕ) → AllWithin (λ g. is_not_past f.course g ≡ false) xs end (length xs) → end ≤ length xs
        → list_any (counts f) (take end xs) ≡ list_any (counts f) xs
    none_past end past within =
        let rest : All (λ g. counts f g ≡ false) (drop end xs) = λ i d inside.
        let high : end + i < length xs = omega (arith, length-drop end xs, inside) in
        fails_past (get_or (drop end xs) i d)
        (subst (λ g. is_not_past f.course g ≡ false) (sym (get_or-drop end xs i d)) (past (end + i) d (omega arith) high)) in
        sym (
        ap (list_any (counts f)) (sym (take-append-drop end xs))
        ∙ list_any-append (counts f) (take end xs) (drop end xs)
        ∙ ap (λ t. list_any (counts f) (take end xs) || t) (list_any_none (counts f) (drop end xs) rest)
        ∙ or_false (list_any (counts f) (take end xs)))

    module _ (longest : ℕ) (rise : IsAscending fill_cmp fill_key xs)
        (within : All (λ g. g.key.when.days ≤ longest) xs) (i : ℕ) (d : Fill) (in_range : i < length xs)
        (not_past : is_not_past f.course (get_or xs i d) ≡ true)
        (early : is_early f longest (get_or xs i d).key ≡ true) where
      abbrev last : Fill
      last = get_or xs i d

      -- what is of the course and no later than an early fill has no days left
      no_days : (g : Fill) → g.key.when.days ≤ longest → g.key.course ≡ last.key.course
          → g.key.when.number ≤ℤ last.key.when.number → IsCounted f g → ⊥
      no_days g short same le counted =
          let own : is_own f last.key ≡ true = of_course f last.key (sym same ∙ counted.course) in
          let left : are_left f last.key.when.number longest ≡ true =
          still_left f.number g.key.when.number last.key.when.number g.key.when.days longest f.percent le short counted.left in
          let late : is_early f longest last.key ≡ false = rw (own, left) refl in
          let e : false ≡ true = sym late ∙ early in cc

      fails_early : (j : ℕ) → j ≤ i → counts f (get_or xs j d) ≡ false
      fails_early j le = elim (cases_Bool (counts f (get_or xs j d))) [
        | inr fails ↦ fails
        | inl passes ↦ absurd (
            let g : Fill = get_or xs j d in
            let counted = counted_is f g passes in
            let short = within j d (omega arith) in
            elim (cases_lt j i) [
              | inl below ↦ elim (earlier f.course xs rise j i d below in_range) [
                | inl less ↦
                    let more : course_cmp last.key.course g.key.course ≡ Greater =
                    Greater-from_Less course_cmp course_total (λ (x : Course). x) g.key.course last.key.course less in
                    let past : is_le (course_cmp last.key.course f.course) ≡ false =
                    ap (λ a. is_le (course_cmp last.key.course a)) (sym counted.course) ∙ ap is_le more in
                    let e : false ≡ true = sym past ∙ not_past in cc
                | inr same ↦ no_days g short same.0
                    (no_later _ _ (elim (first_part _ _ same.1) [ inl less ↦ inl less | inr tied ↦ inr tied.0 ])) counted
              ]
              | inr above ↦
                  let here : j ≡ i = omega arith in
                  no_days g short (ap (λ n. (get_or xs n d).key.course) here)
                  (subst (λ n. (get_or xs j d).key.when.number ≤ℤ (get_or xs n d).key.when.number) here (omega (arith, ints)))
                  counted
            ])
      ]

      pub none_early : list_any (counts f) (take (i + 1) xs) ≡ false
      none_early = list_any_none (counts f) (take (i + 1) xs) (λ j e inside.
          let low : j < i + 1 = omega (arith, length-take (i + 1) xs, inside) in
          subst (λ g. counts f g ≡ false) (sym (get_or-take (i + 1) xs j e low))
          (subst (λ g. counts f g ≡ false) (get_or_default xs j d e (omega arith)) (fails_early j (omega arith))))

-- ---- the fills of rows

and_moved : (F Q P D L : Bool) → (F && Q && P && D && L) ≡ (F && (Q && P && D && L))
and_moved true Q P D L = refl
and_moved false Q P D L = refl

-- a row concerns the refill of a billing where it is of the family, and is too soon
pub concerned_row : (figures : Figures) (date : Civil) (b : BillParts) (ms : List Member) (i : ℕ) (r : Row)
    → IsAscending member_cmp member_key ms → IsAt member_cmp member_key ms (billed_member b) i
    → concerns (refill_of figures date b i) (fill_of ms r) ≡ (claimed_by b.family r && is_too_soon figures date b r)
concerned_row figures date b ms i r rise at =
    let own = by_holder ms (member_of_row r) (billed_member b) i rise at in
    let dated : Bool = is_le (day_cmp r.key.date date) in
    let left : Bool = int_lt ((day_number date -ℤ day_number r.key.date) *ℤ pos 100) (pos (r.days * figures.refill_percent)) in
    ap (λ t. t && (r.product == b.product) && dated && left) own
    ∙ and_moved (is_same r.family b.family) (is_same r.person b.person) (r.product == b.product) dated left

-- a fill that concerns a refill of the first day or later lasts on that day
pub concerned_lasts : (f : Refill) (first : FirstDay) (k : FillKey) → first.number ≤ℤ f.number → f.percent ≤ 100
    → concerns f k ≡ true → lasts first k.when ≡ true
concerned_lasts f first k le most h =
    let dated : Bool = is_own f k && is_le (day_cmp k.when.date f.date) in
    let parts = and_parts dated (are_left f k.when.number k.when.days) h in
    still_lasts first.number f.number k.when.number k.when.days f.percent le most parts.1

-- a fill that concerns a refill is of its course
pub concerned_course : (f : Refill) (k : FillKey) → concerns f k ≡ true → k.course ≡ f.course
concerned_course f k h =
    let dated : Bool = is_own f k && is_le (day_cmp k.when.date f.date) in
    let parts = and_parts dated (are_left f k.when.number k.when.days) h in
    own_course f k (and_parts (is_own f k) (is_le (day_cmp k.when.date f.date)) parts.0).0
